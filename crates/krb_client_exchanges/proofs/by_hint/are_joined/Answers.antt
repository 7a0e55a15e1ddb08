use Rattle.std.proofs.Common.{◌≡◌, ◌≢◌, ℕ, ◌+◌, ◌<◌, Bool, false, nat_eq, List, ◌∷◌, ◌++◌, length, get_or, drop, ap, suc, sym, ◌∙◌, add-one, Vec}
use Rattle.std.specs.Cmp.Lexicographic.{pointwise}
use Rattle.std.specs.Global.{Global}
use Rattle.std.specs.List.{flat_map}
use Rattle.std.proofs.Math.Seq.{drop-cons}
use Rattle.std.proofs.lemmas.Bool.Decides.{Decides-eqb}
use Rattle.std.proofs.lemmas.Slice.Eq.{strip_prefix_is}
use Rattle.krb_realm_accounts.specs.Names.{parts}
use Rattle.krb_client_exchanges.proofs.Salts.{no_front, same_front}
use Rattle.krb_client_exchanges.proofs.by_hint.are_joined.Goals as goal

-- the components that are left begin with the one at the index
next : (name : List (Vec ℕ Global)) (index : ℕ) (item : Vec ℕ Global) → index < length name → item ≡ get_or name index item → drop index name ≡ item ∷ drop (index + 1) name
next name index item below is = rw add-one (drop-cons name index item below ∙ ap (λ i. i ∷ drop (suc index) name) (sym is))

-- octets that don't begin with the component
lost : (whole : Bool) (rest front : List ℕ) (item : Vec ℕ Global) (left more : List (Vec ℕ Global)) → left ≡ item ∷ more → front ≡ item.items → ((others : List ℕ) → rest ≢ front ++ others)
    → pointwise nat_eq rest (flat_map (λ component. component) (parts left)) ≡ whole → false ≡ whole
lost whole rest front item left more e f never same =
    sym (no_front rest item.items (flat_map (λ component. component) (parts more)) (λ others h. never others (h ∙ ap (λ p. p ++ others) (sym f)))) ∙ (rw e at same)

-- octets that begin with it
kept : (whole : Bool) (rest front behind : List ℕ) (item : Vec ℕ Global) (left more : List (Vec ℕ Global)) → left ≡ item ∷ more → front ≡ item.items → rest ≡ front ++ behind
    → pointwise nat_eq rest (flat_map (λ component. component) (parts left)) ≡ whole → pointwise nat_eq behind (flat_map (λ component. component) (parts more)) ≡ whole
kept whole rest front behind item left more e f g same =
    let all : List ℕ = flat_map (λ component. component) (parts more) in
    sym (same_front item.items behind all) ∙ ap (λ s. pointwise nat_eq s (item.items ++ all)) (sym (g ∙ ap (λ p. p ++ behind) f)) ∙ (rw e at same)

pub returns-in-None : goal.returns-in-None
returns-in-None c =
    let never = rw c.in-None.is at (strip_prefix_is Decides-eqb c.loop-component.rest.now c.as_slice.result.now c.strip_prefix.result c.strip_prefix.ensures.cases) in
    lost _ c.loop-component.rest.now c.as_slice.result.now c.component-item.result _ _
    (next c.args.name.now c.loop-component.component-index c.component-item.result c.loop-component-test.true c.component-item.is) c.as_slice.ensures.value never c.loop-component.invariant

pub loop-component-preserved : goal.loop-component-preserved
loop-component-preserved c =
    let begins = rw c.in-Some.is at (strip_prefix_is Decides-eqb c.loop-component.rest.now c.as_slice.result.now c.strip_prefix.result c.strip_prefix.ensures.cases) in
    kept _ c.loop-component.rest.now c.as_slice.result.now c.in-Some.behind.now c.component-item.result _ _
    (next c.args.name.now c.loop-component.component-index c.component-item.result c.loop-component-test.true c.component-item.is) c.as_slice.ensures.value begins c.loop-component.invariant
