-- What is read in a header is the file's.
use Rattle.std.proofs.Common.{◌≡◌, ℕ, ◌+◌, ◌-◌, ◌≤◌, List, [], ◌∷◌, length, length-take, take, drop, Option, None, Some, Bool, true, false, nat_eq, if◌then◌else◌, refl, sym, ap, subst, ◌∙◌, arith, eq-eqb}
use Rattle.std.proofs.lemmas.Bool.{and_parts, eqb-true}
use Rattle.std.proofs.lemmas.List.{drop-take, take-take}
use Rattle.std.specs.Cmp.Lexicographic.{pointwise}
use Rattle.cdb.specs.Reading.{IsFilled}
use Rattle.cdb.specs.Headers.{content_behind}

-- a list agrees with itself
same_as_itself : (a : List ℕ) → pointwise nat_eq a a ≡ true
same_as_itself [] = refl
same_as_itself (x ∷ a) = rw (eq-eqb x x refl) (same_as_itself a)

agrees : (a b : List ℕ) → a ≡ b → pointwise nat_eq a b ≡ true
agrees a b is = subst (λ c. pointwise nat_eq a c ≡ true) is (same_as_itself a)

same_list : (a b : List ℕ) → pointwise nat_eq a b ≡ true → a ≡ b
same_list [] [] e = refl
same_list [] (y ∷ b) e = absurd (cc (e))
same_list (x ∷ a) [] e = absurd (cc (e))
same_list (x ∷ a) (y ∷ b) e =
    let parts = and_parts (nat_eq x y) (pointwise nat_eq a b) e in
    let first : x ≡ y = eqb-true x y parts.0 in
    let rest : a ≡ b = same_list a b parts.1 in
    cc

-- octets that were read in the file are those at its front
pub content_of_read : (front : List ℕ) (known : Option (List ℕ)) → ((bytes : List ℕ) → known ≡ Some bytes → front ≡ take (length front) bytes) → content_behind front known ≡ known
unfolding content_behind
content_of_read front None read = refl
content_of_read front (Some bytes) read = rw (agrees (take (length front) bytes) front (sym (read bytes refl))) refl

pub known_behind : (front : List ℕ) (known : Option (List ℕ)) (bytes : List ℕ) → content_behind front known ≡ Some bytes → known ≡ Some bytes
unfolding content_behind
known_behind front None bytes e = absurd (cc (e))
known_behind front (Some whole) bytes e = by (pointwise nat_eq (take (length front) whole) front) e
  where
    by : (same : Bool) → (if same then Some whole else None) ≡ Some bytes → Some whole ≡ Some bytes
    by true e = e
    by false e = absurd (cc (e))

front_behind : (front : List ℕ) (known : Option (List ℕ)) (bytes : List ℕ) → content_behind front known ≡ Some bytes → front ≡ take (length front) bytes
unfolding content_behind
front_behind front None bytes e = absurd (cc (e))
front_behind front (Some whole) bytes e = by (pointwise nat_eq (take (length front) whole) front) refl e
  where
    by : (same : Bool) → pointwise nat_eq (take (length front) whole) front ≡ same → (if same then Some whole else None) ≡ Some bytes → front ≡ take (length front) bytes
    by true same e =
        let is : whole ≡ bytes = cc (e) in
        sym (same_list (take (length front) whole) front same) ∙ ap (take (length front)) is
    by false same e = absurd (cc (e))

-- a buffer filled from octets at the front of the file is filled from the file
filled_within : (front bytes : List ℕ) → front ≡ take (length front) bytes → (position : ℕ) (buffer : List ℕ) → IsFilled position front buffer → IsFilled position bytes buffer
filled_within front bytes is position buffer filled =
    let size : length front ≡ length (take (length front) bytes) = ap length is in
    let long : length front ≤ length bytes = omega (arith, size, length-take (length front) bytes) in
    let parts : length front ≡ position + (length front - position) = omega (arith, filled.0) in
    let fits : length buffer ≤ length front - position = omega (arith, filled.0) in
    let cut : drop position front ≡ take (length front - position) (drop position bytes) =
    ap (drop position) is ∙ ap (λ n. drop position (take n bytes)) parts ∙ drop-take position (length front - position) bytes in
    (omega (arith, filled.0, long), filled.1 ∙ ap (take (length buffer)) cut ∙ take-take (length buffer) (length front - position) (drop position bytes) fits)

pub filled_behind : (front : List ℕ) (known : Option (List ℕ)) (bytes : List ℕ) (position : ℕ) (buffer : List ℕ) → content_behind front known ≡ Some bytes → IsFilled position front buffer → IsFilled position bytes buffer
filled_behind front known bytes position buffer e filled = filled_within front bytes (front_behind front known bytes e) position buffer filled
