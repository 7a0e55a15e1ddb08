use Rattle.std.proofs.Common.{w8}
use Rattle.std.proofs.lemmas.Nat.Bits.{bit_at_set_same, bit_at_set_other, bit_at_clear_same, bit_at_clear_other}
use Rattle.picky_asn1.proofs.bit_string.with_bit.Goals as goal

pub returns-then-value-clause-at_place : goal.returns-then-value-clause-at_place
returns-then-value-clause-at_place c =
    rw c.if-value.true (bit_at_set_same w8 c.args.octet c.args.place c.requires)

pub returns-then-value-clause-elsewhere : goal.returns-then-value-clause-elsewhere
returns-then-value-clause-elsewhere c = λ k _ other. bit_at_set_other w8 c.args.octet c.args.place c.requires k other

pub returns-else-value-clause-at_place : goal.returns-else-value-clause-at_place
returns-else-value-clause-at_place c =
    rw c.if-value.false (bit_at_clear_same w8 c.args.octet c.args.place c.requires)

pub returns-else-value-clause-elsewhere : goal.returns-else-value-clause-elsewhere
returns-else-value-clause-elsewhere c = bit_at_clear_other w8 c.args.octet c.args.place c.requires
