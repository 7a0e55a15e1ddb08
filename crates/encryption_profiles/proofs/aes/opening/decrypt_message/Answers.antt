use Rattle.std.proofs.Common.{◌∙◌, ℕ, Err, inr, length, refl, w32, SFits, arith}
use Rattle.std.proofs.lemmas.Int.{to_z-of_z}
use Rattle.std.proofs.lemmas.Result.{IfErr-weaker, err_from_is_err_and}
use Rattle.std.specs.Int.{cast_unsigned}
use Rattle.block_ciphers.specs.AesSize.{key_length_of}
use Rattle.encryption_profiles.proofs.Refusals.{refusal_at_lengths, refusals_by_length}
use Rattle.encryption_profiles.proofs.Sealed.{refused_by_length, verified}
use Rattle.encryption_profiles.specs.AesSuites.{aes_profile}
use Rattle.encryption_profiles.proofs.AesLaws.{aes_laws}
use Rattle.encryption_profiles.proofs.aes.opening.decrypt_message.Goals as goal

pub returns-in_err-opened-clause-refused : goal.returns-in_err-opened-clause-refused
returns-in_err-opened-clause-refused c =
    let p = err_from_is_err_and c.from_residual.result c.from_residual.ensures.1 in
    let size = c.args.aes_size.now in
    rw (p.1, p.2) (refused_by_length (aes_profile size) (aes_laws size) {A = ℕ} c.args.key.now (cast_unsigned w32 c.args.key_usage) c.args.cipher_data.now (Err _) c.in_err-opened.ensures.memory)

pub returns-in_err-opened-clause-refusals : goal.returns-in_err-opened-clause-refusals
returns-in_err-opened-clause-refusals c =
    let p = err_from_is_err_and c.from_residual.result c.from_residual.ensures.1 in
    let before = c.in_err-opened.ensures in
    rw (p.1, p.2) (refusals_by_length (key_length_of c.args.aes_size.now) 28 (length c.args.key.now) (length c.args.cipher_data.now) _ before.short before.key_length before.memory)

pub returns-clause-refusals : goal.returns-clause-refusals
returns-clause-refusals c =
    let before = c.in_ok-opened.ensures in
    IfErr-weaker _ _ _ (λ e told. refusal_at_lengths (key_length_of c.args.aes_size.now) 28 (length c.args.key.now) (length c.args.cipher_data.now) e before.long before.key_sized (inr told.0)) c.verified.ensures.refused

pub returns-clause-opened : goal.returns-clause-opened
returns-clause-opened c =
    let before = c.in_ok-opened.ensures in
    let opened = c.in_ok-opened.opened in
    let size = c.args.aes_size.now in
    let fits : SFits w32 c.args.key_usage = c.ranges.key_usage in
    let decrypted = simp to_z-of_z at before.decrypted in
    let only = simp to_z-of_z at before.only in
    let ki = c.deref.ensures.value ∙ (simp to_z-of_z at before.ki) in
    let tag = rw (ki, c.deref-2.ensures.value, c.deref-3.ensures.value) at c.tag_of_parts-tag.ensures in
    (verified (aes_profile size) (aes_laws size) (λ p. p.items) c.args.key.now (cast_unsigned w32 c.args.key_usage) opened.confounder.items opened.plaintext _ opened.checksum.items c.args.cipher_data.now c.verified.result c.verified.ensures.verified c.verified.ensures.refused
    before.key_sized (λ i. (c.type_inv.key i).fits) (omega (arith, before.sized.0)) before.bytes.0 before.bytes.1 refl decrypted only tag before.checksum).0

pub returns-clause-refused : goal.returns-clause-refused
returns-clause-refused c =
    let before = c.in_ok-opened.ensures in
    let opened = c.in_ok-opened.opened in
    let size = c.args.aes_size.now in
    let fits : SFits w32 c.args.key_usage = c.ranges.key_usage in
    let decrypted = simp to_z-of_z at before.decrypted in
    let only = simp to_z-of_z at before.only in
    let ki = c.deref.ensures.value ∙ (simp to_z-of_z at before.ki) in
    let tag = rw (ki, c.deref-2.ensures.value, c.deref-3.ensures.value) at c.tag_of_parts-tag.ensures in
    (verified (aes_profile size) (aes_laws size) (λ p. p.items) c.args.key.now (cast_unsigned w32 c.args.key_usage) opened.confounder.items opened.plaintext _ opened.checksum.items c.args.cipher_data.now c.verified.result c.verified.ensures.verified c.verified.ensures.refused
    before.key_sized (λ i. (c.type_inv.key i).fits) (omega (arith, before.sized.0)) before.bytes.0 before.bytes.1 refl decrypted only tag before.checksum).1
