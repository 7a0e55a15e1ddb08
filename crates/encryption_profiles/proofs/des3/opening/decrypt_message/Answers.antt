use Rattle.std.proofs.Common.{◌∙◌, inl, inr, length, sym, w32, SFits}
use Rattle.std.proofs.lemmas.Int.{to_z-of_z}
use Rattle.std.proofs.lemmas.Result.{IfErr-weaker, err_from_is_err_and}
use Rattle.std.specs.Int.{cast_unsigned}
use Rattle.encryption_profiles.proofs.Sealed.{verified}
use Rattle.encryption_profiles.specs.Suite.{des3_profile}
use Rattle.encryption_profiles.proofs.Des3Laws.{des3_laws}
use Rattle.encryption_profiles.proofs.Opened.{opened_whole, refusal_at_lengths, refusal_from_parts, refused_unless_memory}
use Rattle.encryption_profiles.proofs.des3.opening.decrypt_message.Goals as goal

pub returns-in_err-opened-clause-refused : goal.returns-in_err-opened-clause-refused
returns-in_err-opened-clause-refused c =
    let p = err_from_is_err_and c.from_residual.result c.from_residual.ensures.1 in
    rw (p.1, p.2) (refused_unless_memory c.args.key.now (cast_unsigned w32 c.args.key_usage) c.args.cipher_data.now _ c.in_err-opened.ensures.memory)

pub returns-in_err-opened-clause-refusals : goal.returns-in_err-opened-clause-refusals
returns-in_err-opened-clause-refusals c =
    let p = err_from_is_err_and c.from_residual.result c.from_residual.ensures.1 in
    rw (p.1, p.2)
    (refusal_from_parts (length c.args.key.now) (length c.args.cipher_data.now) _ (λ other. let e = c.in_err-opened.ensures.key_length other in cc)
    (λ same few. let e = c.in_err-opened.ensures.short same few in cc) (λ same long odd. let e = c.in_err-opened.ensures.ragged same long odd in cc)
    (λ right. inl (c.in_err-opened.ensures.memory right)))

pub returns-clause-refusals : goal.returns-clause-refusals
returns-clause-refusals c =
    IfErr-weaker _ _ _ (λ e told. refusal_at_lengths (length c.args.key.now) (length c.args.cipher_data.now) e c.in_ok-opened.ensures.lengths (inr told.0)) c.verified.ensures.refused

pub returns-clause-opened : goal.returns-clause-opened
returns-clause-opened c =
    let before = c.in_ok-opened.ensures in
    let opened = c.in_ok-opened.opened in
    let fits : SFits w32 c.args.key_usage = c.ranges.key_usage in
    let encrypted = simp to_z-of_z at before.decrypted in
    let only = simp to_z-of_z at before.only in
    let ki = c.deref.ensures.value ∙ (simp to_z-of_z at before.ki) in
    let tag = rw (ki, c.deref-2.ensures.value, c.deref-3.ensures.value) at c.hmac-tag.ensures in
    let conf_sized = sym opened.confounder.ok.0 ∙ before.sized.0 in
    let whole = opened_whole c.args.key.now opened.confounder.items opened.plaintext.items c.args.cipher_data.now before.lengths conf_sized (sym opened.plaintext.ok.0 ∙ before.sized.1) in
    (verified des3_profile des3_laws (λ p. p.items) c.args.key.now (cast_unsigned w32 c.args.key_usage) opened.confounder.items opened.plaintext _ opened.checksum.items c.args.cipher_data.now c.verified.result c.verified.ensures.verified c.verified.ensures.refused
    before.lengths.0 (λ i. (c.type_inv.key i).fits) conf_sized before.bytes.0 before.bytes.1 whole encrypted (λ q bytes long. only q bytes) tag before.checksum).0

pub returns-clause-refused : goal.returns-clause-refused
returns-clause-refused c =
    let before = c.in_ok-opened.ensures in
    let opened = c.in_ok-opened.opened in
    let fits : SFits w32 c.args.key_usage = c.ranges.key_usage in
    let encrypted = simp to_z-of_z at before.decrypted in
    let only = simp to_z-of_z at before.only in
    let ki = c.deref.ensures.value ∙ (simp to_z-of_z at before.ki) in
    let tag = rw (ki, c.deref-2.ensures.value, c.deref-3.ensures.value) at c.hmac-tag.ensures in
    let conf_sized = sym opened.confounder.ok.0 ∙ before.sized.0 in
    let whole = opened_whole c.args.key.now opened.confounder.items opened.plaintext.items c.args.cipher_data.now before.lengths conf_sized (sym opened.plaintext.ok.0 ∙ before.sized.1) in
    (verified des3_profile des3_laws (λ p. p.items) c.args.key.now (cast_unsigned w32 c.args.key_usage) opened.confounder.items opened.plaintext _ opened.checksum.items c.args.cipher_data.now c.verified.result c.verified.ensures.verified c.verified.ensures.refused
    before.lengths.0 (λ i. (c.type_inv.key i).fits) conf_sized before.bytes.0 before.bytes.1 whole encrypted (λ q bytes long. only q bytes) tag before.checksum).1
