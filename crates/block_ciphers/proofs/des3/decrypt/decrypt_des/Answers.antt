use Rattle.std.proofs.Common.{◌/◌, length, arith}
use Rattle.block_ciphers.specs.Bytes.{IsBytes}
use Rattle.block_ciphers.proofs.Chaining.{chained_text}
use Rattle.block_ciphers.specs.Des.{triple_des_cipher, triple_des_inverse}
use Rattle.block_ciphers.specs.Schedule.{cipher_under}
use Rattle.block_ciphers.proofs.Laws.{triple_des_pair}
use Rattle.block_ciphers.proofs.Schedules.{undone_by}
use Rattle.block_ciphers.proofs.des3.decrypt.decrypt_des.Goals as goal

pub returns-clause-undone : goal.returns-clause-undone
returns-clause-undone c = triple_des_pair c.args.key.now

pub returns-clause-chained : goal.returns-clause-chained
returns-clause-chained c =
    let E = triple_des_cipher c.args.key.now in
    c.in_ok-text.ensures.chained E (undone_by E (triple_des_inverse c.args.key.now) (cipher_under c.to_decipher-keys.result) c.to_decipher-keys.ensures (triple_des_pair c.args.key.now))

pub returns-clause-bytes : goal.returns-clause-bytes
returns-clause-bytes c =
    let E = triple_des_cipher c.args.key.now in
    c.in_ok-text.ensures.bytes E (undone_by E (triple_des_inverse c.args.key.now) (cipher_under c.to_decipher-keys.result) c.to_decipher-keys.ensures (triple_des_pair c.args.key.now))

pub returns-clause-only : goal.returns-clause-only
returns-clause-only c =
    λ q bytes chained.
    let key = c.args.key.now in
    let data_bytes : IsBytes c.args.cipher_data.now = λ i. (c.type_inv.cipher_data i).fits in
    chained_text 8 (triple_des_cipher key) (triple_des_inverse key) (triple_des_pair key) q c.in_ok-text.text.items c.args.cipher_data.now (length c.args.cipher_data.now / 8) bytes (returns-clause-bytes c) data_bytes (omega arith) chained (returns-clause-chained c)
