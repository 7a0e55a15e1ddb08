use Rattle.std.proofs.Common.{◌∙◌, arith}
use Rattle.block_ciphers.specs.Bytes.{IsBytes}
use Rattle.block_ciphers.proofs.Schedules.{number_bits, passed}
use Rattle.block_ciphers.proofs.des3.schedule.KeySchedule.cipher_block.Goals as goal

pub returns : goal.returns
returns c =
    let bytes : IsBytes c.args.block.now = c.fits-block in
    c.to_be_bytes.ensures
    ∙ passed c.args.self.now c.args.block.now c.from_be_bytes.result c.permute-string.result c.network-halves.result.0 c.network-halves.result.1 c.network-halves-2.result.0 c.network-halves-2.result.1 c.from.result c.from-2.result c.permute.result
    (number_bits c.args.block.now c.from_be_bytes.result c.told-block bytes c.from_be_bytes.ensures) c.permute-string.ensures c.network-halves.ensures c.network-halves-2.ensures (rw (c.from.ensures, c.from-2.ensures) c.network-left.ensures) (omega arith) (omega arith) c.permute.ensures
