use Rattle.std.proofs.Common.{w32, SFits}
use Rattle.std.proofs.lemmas.Int.{to_z-of_z}
use Rattle.krb_crypto.proofs.by_suite.CipherSuiteCipher.encrypt_no_checksum.Goals as goal

pub returns-in-Aes-clause-encrypted : goal.returns-in-Aes-clause-encrypted
returns-in-Aes-clause-encrypted c =
    let fits : SFits w32 c.args.key_usage = c.ranges.key_usage in
    rw (← c.family.ensures, c.in-Aes.is) (rw c.block_of.ensures at (simp to_z-of_z at c.encrypt_message_no_checksum.ensures.encrypted))

pub returns-in-TripleDes-clause-encrypted : goal.returns-in-TripleDes-clause-encrypted
returns-in-TripleDes-clause-encrypted c =
    let fits : SFits w32 c.args.key_usage = c.ranges.key_usage in
    rw (← c.family.ensures, c.in-TripleDes.is) (rw c.block_of-in-TripleDes.ensures at (simp to_z-of_z at c.encrypt_message_no_checksum-in-TripleDes.ensures.encrypted))

pub returns-in-AesSha2-clause-encrypted : goal.returns-in-AesSha2-clause-encrypted
returns-in-AesSha2-clause-encrypted c =
    let fits : SFits w32 c.args.key_usage = c.ranges.key_usage in
    rw (← c.family.ensures, c.in-AesSha2.is) (rw c.block_of-in-AesSha2.ensures at (simp to_z-of_z at c.encrypt_message_no_checksum-in-AesSha2.ensures.encrypted))
