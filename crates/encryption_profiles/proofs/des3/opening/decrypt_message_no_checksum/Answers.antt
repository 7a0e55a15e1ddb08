use Rattle.std.proofs.Common.{◌≡◌, ◌≤◌, ◌-◌, ◌%◌, ◌∙◌, ap, length, w32, SFits, arith}
use Rattle.std.proofs.lemmas.Int.{to_z-of_z}
use Rattle.std.specs.Int.{cast_unsigned}
use Rattle.block_ciphers.proofs.Stealing.{zero_filled-bytes}
use Rattle.encryption_profiles.specs.Des3Derivation.{des3_derived_key_of}
use Rattle.block_ciphers.specs.Chains.{zero_filled}
use Rattle.encryption_profiles.proofs.Opened.{encrypted_from_chain}
use Rattle.encryption_profiles.proofs.des3.opening.decrypt_message_no_checksum.Goals as goal

pub returns-clause-decrypted : goal.returns-clause-decrypted
returns-clause-decrypted c =
    let text = c.in_ok-text.text.items in
    let bytes = c.args.cipher_data.now in
    let fits : SFits w32 c.args.key_usage = c.ranges.key_usage in
    let constant = simp to_z-of_z at c.usage_ke.ensures in
    let ke = c.deref.ensures.value ∙ c.in_ok-ke.ensures.derived ∙ ap (des3_derived_key_of c.args.key.now) constant in
    let long : 28 ≤ length c.args.cipher_data.now = omega arith in
    let whole : (length c.args.cipher_data.now - 20) % 8 ≡ 0 = omega arith in
    rw (c.in_ok-opened.ensures.text, c.deref-2.ensures.value)
    (encrypted_from_chain c.args.key.now (cast_unsigned w32 c.args.key_usage) text bytes long whole (rw (ke, c.split_at.ensures.front) at c.in_ok-text.ensures.chained))

pub returns-clause-only : goal.returns-clause-only
returns-clause-only c = λ q bytes encrypted.
    let fits : SFits w32 c.args.key_usage = c.ranges.key_usage in
    let constant = simp to_z-of_z at c.usage_ke.ensures in
    let ke = c.deref.ensures.value ∙ c.in_ok-ke.ensures.derived ∙ ap (des3_derived_key_of c.args.key.now) constant in
    rw (c.in_ok-opened.ensures.text, c.deref-2.ensures.value) (c.in_ok-text.ensures.only (zero_filled 8 q) (zero_filled-bytes 8 q bytes) (rw (ke, c.split_at.ensures.front) encrypted))
