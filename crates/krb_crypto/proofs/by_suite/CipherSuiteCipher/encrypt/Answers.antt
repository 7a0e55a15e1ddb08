use Rattle.std.proofs.Common.{w32, SFits}
use Rattle.std.proofs.lemmas.Int.{to_z-of_z}
use Rattle.krb_crypto.proofs.by_suite.CipherSuiteCipher.encrypt.Goals as goal

pub returns-in-Aes-clause-only : goal.returns-in-Aes-clause-only
returns-in-Aes-clause-only c =
    let fits : SFits w32 c.args.key_usage = c.ranges.key_usage in
    rw (← c.family.ensures, c.in-Aes.is) (rw c.block_of.ensures at (simp to_z-of_z at c.encrypt_message.ensures.only))

pub returns-in-Aes-clause-one_text : goal.returns-in-Aes-clause-one_text
returns-in-Aes-clause-one_text c =
    let fits : SFits w32 c.args.key_usage = c.ranges.key_usage in
    rw (← c.family.ensures, c.in-Aes.is) (rw c.block_of.ensures at (simp to_z-of_z at c.encrypt_message.ensures.one_text))

pub returns-in-TripleDes-clause-only : goal.returns-in-TripleDes-clause-only
returns-in-TripleDes-clause-only c =
    let fits : SFits w32 c.args.key_usage = c.ranges.key_usage in
    rw (← c.family.ensures, c.in-TripleDes.is) (rw c.block_of-in-TripleDes.ensures at (simp to_z-of_z at c.encrypt_message-in-TripleDes.ensures.only))

pub returns-in-TripleDes-clause-one_text : goal.returns-in-TripleDes-clause-one_text
returns-in-TripleDes-clause-one_text c =
    let fits : SFits w32 c.args.key_usage = c.ranges.key_usage in
    rw (← c.family.ensures, c.in-TripleDes.is) (rw c.block_of-in-TripleDes.ensures at (simp to_z-of_z at c.encrypt_message-in-TripleDes.ensures.one_text))

pub returns-in-AesSha2-clause-only : goal.returns-in-AesSha2-clause-only
returns-in-AesSha2-clause-only c =
    let fits : SFits w32 c.args.key_usage = c.ranges.key_usage in
    rw (← c.family.ensures, c.in-AesSha2.is) (rw c.block_of-in-AesSha2.ensures at (simp to_z-of_z at c.encrypt_message-in-AesSha2.ensures.only))

pub returns-in-AesSha2-clause-one_text : goal.returns-in-AesSha2-clause-one_text
returns-in-AesSha2-clause-one_text c =
    let fits : SFits w32 c.args.key_usage = c.ranges.key_usage in
    rw (← c.family.ensures, c.in-AesSha2.is) (rw c.block_of-in-AesSha2.ensures at (simp to_z-of_z at c.encrypt_message-in-AesSha2.ensures.one_text))
