use Rattle.std.proofs.Common.{ℕ, List, subst}
use Rattle.asn1_der.specs.Length.{element}
use Rattle.picky_asn1_der.specs.Parts.{IsPart}
use Rattle.picky_asn1_der.specs.PartLaws.{part-one}
use Rattle.cms_signed_data.proofs.slices.octets_at.Goals as goal

pub returns-in_default : goal.returns-in_default
returns-in_default c = λ octets p. c.in_default.ensures (element 4 octets) p

pub returns-in-Ok : goal.returns-in-Ok
returns-in-Ok c = subst (λ (l : List ℕ). IsPart c.args.bytes.now c.args.path.now l) c.in-Ok.ensures c.in-Some.ensures

pub returns-in-Err : goal.returns-in-Err
returns-in-Err c = λ octets p. c.in-Err.ensures octets (part-one c.args.path.now c.args.bytes.now c.in-Some.part.now (element 4 octets) c.in-Some.ensures p)
