use Rattle.std.proofs.Common.{◌∙◌, ap, w32, SFits}
use Rattle.std.proofs.lemmas.Int.{to_z-of_z}
use Rattle.encryption_profiles.specs.AesDerivation.{aes_derived_key_of}
use Rattle.encryption_profiles.proofs.aes.opening.decrypt_message_no_checksum.Goals as goal

pub returns-clause-decrypted : goal.returns-clause-decrypted
returns-clause-decrypted c =
    let fits : SFits w32 c.args.key_usage = c.ranges.key_usage in
    let constant = simp to_z-of_z at c.usage_ke.ensures in
    let ke = c.deref.ensures.value ∙ c.in_ok-ke.ensures.derived ∙ ap (aes_derived_key_of c.args.key.now) constant in
    rw (c.in_ok-opened.ensures.text, c.deref-2.ensures.value) (rw (ke, c.split_at.ensures.front) at c.in_ok-text.ensures.stolen)

pub returns-clause-only : goal.returns-clause-only
returns-clause-only c = λ q bytes long stolen.
    let fits : SFits w32 c.args.key_usage = c.ranges.key_usage in
    let constant = simp to_z-of_z at c.usage_ke.ensures in
    let ke = c.deref.ensures.value ∙ c.in_ok-ke.ensures.derived ∙ ap (aes_derived_key_of c.args.key.now) constant in
    rw (c.in_ok-opened.ensures.text, c.deref-2.ensures.value) (c.in_ok-text.ensures.only q bytes long (rw (ke, c.split_at.ensures.front) stolen))
