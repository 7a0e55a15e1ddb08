-- The first element that passes a test, and lists that differ in one element.
use Rattle.std.proofs.Common.{◌≡◌, ◌≤◌, Bool, true, false, cond, ◌||◌, List, [], ◌∷◌, ◌++◌, length, get_or, Option, None, Some, refl, sym, ap, subst, ◌∙◌, arith}
use Rattle.std.proofs.lemmas.Bool.{or_parts}
use Rattle.std.proofs.lemmas.List.Folds.{find-append}
use Rattle.std.proofs.lemmas.List.Elements.{All-get_or, All-head, All-tail}
use Rattle.std.specs.List.{All, find, list_any}
use Rattle.std.specs.Option.{option_or, unwrap_or}
use Rattle.krb_crypto.proofs.AllSuites.{found_passes}

-- where some element passes, one is found
found_at : {X : Type 0} (b others : Bool) (y : X) (rest : Option X) → (others ≡ true → (x : X) × (rest ≡ Some x)) → (b || others) ≡ true → (x : X) × (cond b (Some y) rest ≡ Some x)
found_at true others y rest later is = (y, refl)
found_at false others y rest later is = later is

pub found : {X : Type 0} (p : X → Bool) (xs : List X) → list_any p xs ≡ true → (x : X) × (find p xs ≡ Some x)
found p [] none = absurd (cc (none))
found p (y ∷ ys) some = found_at (p y) (list_any p ys) y (find p ys) (found p ys) some

-- where none passes, none is found
pub none_found : {X : Type 0} (p : X → Bool) (xs : List X) → list_any p xs ≡ false → find p xs ≡ None
none_found p [] none = refl
none_found p (y ∷ ys) none = let parts = or_parts (p y) (list_any p ys) none in rw parts.0 (none_found p ys parts.1)

pub none_of : {X : Type 0} (p : X → Bool) (xs : List X) → ((x : X) → p x ≡ false) → find p xs ≡ None
none_of p [] each = refl
none_of p (y ∷ ys) each = rw (each y) (none_of p ys each)

-- an element after the first that passes changes nothing, nor does one that doesn't pass
pub found_earlier : {X : Type 0} (p : X → Bool) (before behind : List X) (x : X) → find p before ≡ Some x → find p (before ++ behind) ≡ Some x
found_earlier p before behind x is = find-append p before behind ∙ ap (λ o. option_or o (find p behind)) is

pub found_without : {X : Type 0} (p : X → Bool) (before behind : List X) (x : X) → p x ≡ false → find p (before ++ x ∷ behind) ≡ find p (before ++ behind)
found_without p [] behind x fails = rw fails refl
found_without p (y ∷ before) behind x fails = ap (λ o. cond (p y) (Some y) o) (found_without p before behind x fails)

-- where no element passes one test, none does that passes another, nor the first
fails_at : {X : Type 0} (p q : X → Bool) (xs : List X) (x : X) → list_any p xs ≡ false → find q xs ≡ Some x → p x ≡ false
fails_at p q [] x none is = absurd (cc (is))
fails_at {X} p q (y ∷ ys) x none is =
    let parts = or_parts (p y) (list_any p ys) none in
    elim (q y) as (λ b. cond b (Some y) (find q ys) ≡ Some x → p x ≡ false) [
      | true ↦ λ first. let same : y ≡ x = cc (first) in subst (λ (z : X). p z ≡ false) same parts.0
      | false ↦ λ later. fails_at p q ys x parts.1 later
    ] is

fails_first : {X : Type 0} (p : X → Bool) (xs : List X) (d : X) → 1 ≤ length xs → list_any p xs ≡ false → p (get_or xs 0 d) ≡ false
fails_first p [] d few none = absurd (omega (arith, few))
fails_first p (y ∷ ys) d few none = (or_parts (p y) (list_any p ys) none).0

-- the first that passes, or else the first that passes another test, or else the first
abbrev pub first_of : {X : Type 0} → (X → Bool) → (X → Bool) → List X → X → X
first_of p q xs d = unwrap_or (find p xs) (unwrap_or (find q xs) (get_or xs 0 d))

pub first_is : {X : Type 0} (p q : X → Bool) (xs : List X) (d x : X) → find p xs ≡ Some x → first_of p q xs d ≡ x
first_is p q xs d x is = ap (λ o. unwrap_or o (unwrap_or (find q xs) (get_or xs 0 d))) is

second_is : {X : Type 0} (p q : X → Bool) (xs : List X) (d : X) → 1 ≤ length xs → list_any p xs ≡ false → (o : Option X) → find q xs ≡ o → p (unwrap_or o (get_or xs 0 d)) ≡ false
second_is p q xs d few none None is = fails_first p xs d few none
second_is p q xs d few none (Some x) is = fails_at p q xs x none is

pub first_fails : {X : Type 0} (p q : X → Bool) (xs : List X) (d : X) → 1 ≤ length xs → list_any p xs ≡ false → p (first_of p q xs d) ≡ false
first_fails {X} p q xs d few none =
    subst (λ (o : Option X). p (unwrap_or o (unwrap_or (find q xs) (get_or xs 0 d))) ≡ false) (sym (none_found p xs none))
    (second_is p q xs d few none (find q xs) refl)

-- two lists in which the same element is found first
pub same_first : {X : Type 0} (p q : X → Bool) (xs ys : List X) (d : X) → list_any p ys ≡ true → find p xs ≡ find p ys → first_of p q xs d ≡ first_of p q ys d
same_first p q xs ys d some same =
    let one = found p ys some in first_is p q xs d one.0 (same ∙ one.1) ∙ sym (first_is p q ys d one.0 one.1)

-- where none passes the first test, the second one's answer is whether some element passes it
second_answer : {X : Type 0} (q : X → Bool) (xs : List X) (d : X) → 1 ≤ length xs → (b : Bool) → list_any q xs ≡ b → q (unwrap_or (find q xs) (get_or xs 0 d)) ≡ b
second_answer {X} q xs d few true some =
    let one = found q xs some in subst (λ (o : Option X). q (unwrap_or o (get_or xs 0 d)) ≡ true) (sym one.1) (found_passes q xs one.0 one.1)
second_answer {X} q xs d few false none =
    subst (λ (o : Option X). q (unwrap_or o (get_or xs 0 d)) ≡ false) (sym (none_found q xs none)) (fails_first q xs d few none)

pub second_test : {X : Type 0} (p q : X → Bool) (xs : List X) (d : X) → 1 ≤ length xs → list_any p xs ≡ false → q (first_of p q xs d) ≡ list_any q xs
second_test {X} p q xs d few none =
    subst (λ (o : Option X). q (unwrap_or o (unwrap_or (find q xs) (get_or xs 0 d))) ≡ list_any q xs) (sym (none_found p xs none))
    (second_answer q xs d few (list_any q xs) refl)

-- what each element has, it has
found_has : {X : Type 0} (P : X → Type 0) (p : X → Bool) (xs : List X) (x : X) → All P xs → find p xs ≡ Some x → P x
found_has P p [] x all is = absurd (cc (is))
found_has {X} P p (y ∷ ys) x all is =
    elim (p y) as (λ b. cond b (Some y) (find p ys) ≡ Some x → P x) [
      | true ↦ λ first. let same : y ≡ x = cc (first) in subst P same (All-head P y ys all)
      | false ↦ λ later. found_has P p ys x (All-tail P y ys all) later
    ] is

or_has : {X : Type 0} (P : X → Type 0) (p : X → Bool) (xs : List X) (d : X) → All P xs → P d → (o : Option X) → find p xs ≡ o → P (unwrap_or o d)
or_has P p xs d all other None is = other
or_has P p xs d all other (Some x) is = found_has P p xs x all is

pub first_has : {X : Type 0} (P : X → Type 0) (p q : X → Bool) (xs : List X) (d : X) → 1 ≤ length xs → All P xs → P (first_of p q xs d)
first_has P p q xs d few all =
    or_has P p xs (unwrap_or (find q xs) (get_or xs 0 d)) all (or_has P q xs (get_or xs 0 d) all (All-get_or P xs 0 d (omega (arith, few)) all) (find q xs) refl) (find p xs) refl
