use Rattle.std.proofs.Common.{arith}
use Rattle.block_ciphers.specs.Chains.{zero_filled}
use Rattle.block_ciphers.proofs.Stealing.{filled_already}
use Rattle.block_ciphers.proofs.Schedules.{chained_by}
use Rattle.block_ciphers.specs.Des.{triple_des_cipher}
use Rattle.block_ciphers.specs.Schedule.{cipher_under}
use Rattle.block_ciphers.proofs.des3.encrypt.encrypt_des.Goals as goal

pub returns-clause-chained : goal.returns-clause-chained
returns-clause-chained c =
    chained_by (cipher_under c.to_encipher-keys.result) (triple_des_cipher c.args.key.now) (zero_filled 8 c.args.payload.now) c.in_ok-chain.chain.items c.to_encipher-keys.ensures
    (rw (c.deref.ensures.value, c.in_ok-filled.ensures.filled) at c.in_ok-chain.ensures)

pub returns-clause-whole : goal.returns-clause-whole
returns-clause-whole c =
    λ whole. rw (filled_already 8 c.args.payload.now (omega arith)) at (returns-clause-chained c)
