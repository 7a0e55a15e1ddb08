use Rattle.std.proofs.Common.{◌≡◌, List, [], ◌∷◌, ℕ, map, refl, ap, rules}
use Rattle.std.specs.Ordering.{nat_cmp}
use Rattle.std.specs.Cmp.Lexicographic.{slice_cmp}
use Rattle.std.proofs.lemmas.Iterator.{YieldsList-from_map_by, YieldsList-from_slice}
use Rattle.std.proofs.lemmas.Iterator.Search.{cmp_from_yields_List}
use Rattle.krb_account_texts.proofs.order.compare_names.Goals as goal

same : (xs : List (List ℕ)) → map (λ x. x) xs ≡ xs
same [] = refl
same (x ∷ xs) = ap (λ more. x ∷ more) (same xs)

pub returns : goal.returns
returns c = rw (← same c.args.name.now, ← same c.args.other.now) (cmp_from_yields_List (λ x y. y ≡ x) _ (slice_cmp nat_cmp) _ c.cmp.ensures.ran
    (YieldsList-from_map_by _ (λ r. r.now) (λ x. x) (YieldsList-from_slice c.args.name.now cc) c.map.ensures.closure (λ x r q k. search rules))
    (λ it e. YieldsList-from_map_by _ (λ r. r.now) (λ x. x) (YieldsList-from_slice c.args.other.now cc) c.map-others.ensures.closure (λ x r q k. search rules)) (λ x y. refl))
