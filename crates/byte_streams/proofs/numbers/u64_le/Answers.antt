use Rattle.std.proofs.Common.{ap, ◌∙◌, arith}
use Rattle.byteorder.specs.Endian.{little_number}
use Rattle.byte_streams.proofs.NumberLaws.{le64-stands, all-behind}
use Rattle.byte_streams.proofs.numbers.u64_le.Goals as goal

pub returns-clause-stands : goal.returns-clause-stands
returns-clause-stands c =
    le64-stands c.args.place _ c.args.bytes.now (λ i. omega (arith, c.type_inv.bytes i)) c.requires
    (c.read_u64.ensures ∙ ap (little_number 8) (all-behind c.args.place c.args.bytes.now))
