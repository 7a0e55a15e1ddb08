use Rattle.std.proofs.Common.{subst}
use Rattle.asn1_der.specs.Contents.{IsInPlace}
use Rattle.asn1_der.proofs.content.Content.as_bytes.Goals as goal

pub shared_ref_as_front-result : goal.shared_ref_as_front-result
shared_ref_as_front-result c = subst IsInPlace c.in-InPlace.is c.self.invariant
