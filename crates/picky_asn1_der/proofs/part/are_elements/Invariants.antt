use Rattle.std.proofs.Common.{length}
use Rattle.std.specs.Prelude.{◌↔◌}
use Rattle.picky_asn1_der.specs.PathLaws.{AreSome}
use Rattle.picky_asn1_der.proofs.part.are_elements.Given as goal

abbrev pub invariant-elements : goal.invariant-elements
invariant-elements l = AreSome l.fn.bytes ↔ AreSome l.rest

abbrev pub decreases-elements : goal.decreases-elements
decreases-elements l = length l.rest
