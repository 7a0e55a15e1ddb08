use Rattle.std.proofs.Common.{ℕ, List}
use Rattle.std.specs.Prelude.{◌↔◌}
use Rattle.picky_asn1_der.specs.Parts.{IsPartIn}
use Rattle.picky_asn1_der.proofs.part.element_at.Given as goal

abbrev pub invariant-elements : goal.invariant-elements
invariant-elements l = (path part : List ℕ) → IsPartIn l.fn.bytes l.fn.n path part ↔ IsPartIn l.rest l.left path part

abbrev pub decreases-elements : goal.decreases-elements
decreases-elements l = l.left
