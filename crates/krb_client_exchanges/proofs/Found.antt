-- What a table gave a value by, and that what was found in a list is in it.
use Rattle.std.proofs.Common.{◌≡◌, Bool, true, false, List, [], ◌∷◌, Option, None, Some, Result, Ok, Err, Contains, refl, inl, inr, cond, subst}
use Rattle.std.specs.List.{find}
use Rattle.std.proofs.lemmas.List.Elements.{Contains-append_left, Contains-append_right, Contains-push}
use Rattle.decision_tables.specs.One.{IsSole}
use Rattle.decision_tables.specs.Tables.{Table, ask, done, need, refuse}

-- the element that was found is in the list
pub found_inside : {X : Type 0} (p : X → Bool) (xs : List X) (x : X) → find p xs ≡ Some x → Contains xs x
found_inside p [] x e = absurd (cc (e))
found_inside {X} p (y ∷ ys) x e =
    elim (p y) as (λ is. cond is (Some y) (find p ys) ≡ Some x → Contains (y ∷ ys) x) [
      | true ↦ λ found. let same : y ≡ x = cc (found) in subst (λ (z : X). Contains (y ∷ ys) z) same (Contains-append_left (y ∷ []) ys y (Contains-push [] y))
      | false ↦ λ found. Contains-append_right (y ∷ []) ys x (found_inside p ys x found)
    ] e

-- a case that refuses gave no value
pub not_refused : {T E : Type 0} (holds : Bool) (error : E) (rest : Table (Result T E)) (x : T) → (refuse holds error rest).gives (Ok x) → rest.gives (Ok x)
not_refused true error rest x given = absurd (cc (given))
not_refused false error rest x given = given

-- a value that was needed is there
pub was_needed : {A T E : Type 0} (o : Option A) (error : E) (rest : A → Table (Result T E)) (x : T) → (need o error rest).gives (Ok x) → (a : A) × (o ≡ Some a) × (rest a).gives (Ok x)
was_needed None error rest x given = absurd (cc (given))
was_needed (Some a) error rest x given = (a, refl, given)

-- a value that was asked for has the property
pub was_asked : {A T E : Type 0} (P : A → Type 0) (sole : IsSole P) (error : E) (rest : A → Table (Result T E)) (x : T)
    → (ask P sole (done (Err error)) rest).gives (Ok x) → (a : A) × P a × (rest a).gives (Ok x)
was_asked P sole error rest x (inl found) = found
was_asked P sole error rest x (inr other) = absurd (let not = other.1 in cc (not))
