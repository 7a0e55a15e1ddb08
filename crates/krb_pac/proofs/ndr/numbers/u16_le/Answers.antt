use Rattle.std.proofs.Common.{ap, ◌∙◌, arith}
use Rattle.byteorder.specs.Endian.{little_number}
use Rattle.byte_streams.proofs.NumberLaws.{all-behind}
use Rattle.krb_pac.proofs.NumberLaws.{le16-stands}
use Rattle.krb_pac.proofs.ndr.numbers.u16_le.Goals as goal

pub returns-clause-stands : goal.returns-clause-stands
returns-clause-stands c =
    le16-stands c.args.place _ c.args.bytes.now (λ i. omega (arith, c.type_inv.bytes i)) c.requires
    (c.read_u16.ensures ∙ ap (little_number 2) (all-behind c.args.place c.args.bytes.now))
