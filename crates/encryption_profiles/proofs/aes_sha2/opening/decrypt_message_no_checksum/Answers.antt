use Rattle.std.proofs.Common.{◌∙◌, w32, SFits}
use Rattle.std.proofs.lemmas.Int.{to_z-of_z}
use Rattle.encryption_profiles.proofs.aes_sha2.opening.decrypt_message_no_checksum.Goals as goal

pub returns-clause-decrypted : goal.returns-clause-decrypted
returns-clause-decrypted c =
    let fits : SFits w32 c.args.key_usage = c.ranges.key_usage in
    let constant = simp to_z-of_z at c.usage_ke.ensures in
    let ke = c.deref.ensures.value ∙ (rw (c.key_length.ensures, constant) at c.in_ok-ke.ensures.derived) in
    rw (c.in_ok-opened.ensures.text, c.deref-2.ensures.value) (rw (ke, c.split_at.ensures.front, c.tag_size-tag_size.ensures) at c.in_ok-text.ensures.stolen)

pub returns-clause-only : goal.returns-clause-only
returns-clause-only c = λ q bytes long stolen.
    let fits : SFits w32 c.args.key_usage = c.ranges.key_usage in
    let constant = simp to_z-of_z at c.usage_ke.ensures in
    let ke = c.deref.ensures.value ∙ (rw (c.key_length.ensures, constant) at c.in_ok-ke.ensures.derived) in
    rw (c.in_ok-opened.ensures.text, c.deref-2.ensures.value) (c.in_ok-text.ensures.only q bytes long (rw (ke, c.split_at.ensures.front, c.tag_size-tag_size.ensures) stolen))
