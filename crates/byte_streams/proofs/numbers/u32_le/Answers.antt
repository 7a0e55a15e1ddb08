use Rattle.std.proofs.Common.{ap, ◌∙◌, arith}
use Rattle.byteorder.specs.Endian.{little_number}
use Rattle.byte_streams.proofs.NumberLaws.{le32-stands, all-behind}
use Rattle.byte_streams.proofs.numbers.u32_le.Goals as goal

pub returns-clause-stands : goal.returns-clause-stands
returns-clause-stands c =
    le32-stands c.args.place _ c.args.bytes.now (λ i. omega (arith, c.type_inv.bytes i)) c.requires
    (c.read_u32.ensures ∙ ap (little_number 4) (all-behind c.args.place c.args.bytes.now))
