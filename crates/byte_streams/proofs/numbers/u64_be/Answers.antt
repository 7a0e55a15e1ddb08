use Rattle.std.proofs.Common.{ap, ◌∙◌, arith}
use Rattle.byteorder.specs.Endian.{big_number}
use Rattle.byte_streams.proofs.NumberLaws.{be64-stands, all-behind}
use Rattle.byte_streams.proofs.numbers.u64_be.Goals as goal

pub returns-clause-stands : goal.returns-clause-stands
returns-clause-stands c =
    be64-stands c.args.place _ c.args.bytes.now (λ i. omega (arith, c.type_inv.bytes i)) c.requires
    (c.read_u64.ensures ∙ ap (big_number 8) (all-behind c.args.place c.args.bytes.now))
