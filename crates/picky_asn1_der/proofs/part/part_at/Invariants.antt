use Rattle.std.proofs.Common.{ℕ, List, length}
use Rattle.std.specs.Prelude.{◌↔◌}
use Rattle.picky_asn1_der.specs.Parts.{IsPart}
use Rattle.picky_asn1_der.proofs.part.part_at.Given as goal

abbrev pub invariant-path : goal.invariant-path
invariant-path l = (found : List ℕ) → IsPart l.fn.bytes l.fn.path found ↔ IsPart l.part l.rest found

abbrev pub decreases-path : goal.decreases-path
decreases-path l = length l.rest
