use Rattle.std.proofs.Common.{ℕ, List, refl, ◌≡◌, ◌∙◌}
use Rattle.std.specs.Ordering.{nat_cmp}
use Rattle.std.proofs.lemmas.Iterator.Consumers.{YieldsList-from_first}
use Rattle.std.proofs.lemmas.Iterator.Search.{cmp_from_yields_List}
use Rattle.asn1_leaves.proofs.oid.ObjectIdentifierOrd.cmp.Goals as goal

pub returns : goal.returns
returns c =
    cmp_from_yields_List (λ x y. y ≡ x) _ nat_cmp _ c.cmp.ensures.ran
    (YieldsList-from_first (λ (arc : ℕ). arc) (λ (arcs : List ℕ). arcs) c.args.self.now c.arcs.ensures)
    (λ it e. YieldsList-from_first (λ (arc : ℕ). arc) (λ (arcs : List ℕ). arcs) c.args.other.now (e ∙ c.arcs-2.ensures))
    (λ x y. refl)
