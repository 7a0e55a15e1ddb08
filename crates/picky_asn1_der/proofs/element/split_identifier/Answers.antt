use Rattle.asn1_codec.proofs.Lengths.{nothing}
use Rattle.picky_asn1_der.proofs.Splits.{no_identifier, high_number}
use Rattle.picky_asn1_der.proofs.element.split_identifier.Goals as goal

pub returns-in_default : goal.returns-in_default
returns-in_default c = rw (nothing c.args.input.now c.in_default.ensures.cases) no_identifier

pub returns-then-first-eq31 : goal.returns-then-first-eq31
returns-then-first-eq31 c =
    rw c.in-Some.ensures.cases.0 (high_number c.in-Some.first.now c.in-Some.behind.now c.if-first-eq31.true)
