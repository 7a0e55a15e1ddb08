-- Octets one after the other, each from its place on.
use Rattle.std.proofs.Common.{◌≡◌, ℕ, ◌+◌, ◌-◌, ◌<◌, ◌≤◌, Bool, true, false, List, ◌∷◌, ◌++◌, length, get_or, take, drop, nat_lt, nat_eq, if◌then◌else◌, refl, ap, sym, subst, ◌∙◌, arith}
use Rattle.std.proofs.lemmas.Bool.Decides.{nat_tests, Decides-eqb}
use Rattle.std.proofs.lemmas.List.{length-append, drop-take, length-drop, length-take, drop-drop, take_at, drop_at, get_or-drop}

-- from this place on, these octets are all that is there
pub record IsFrom (place : ℕ) (more whole : List ℕ) : Type 0 where
  pub rest : drop place whole ≡ more
  pub inside : place + length more ≡ length whole

-- behind the octets in front
pub behind : (place next : ℕ) (bytes more whole : List ℕ) → next ≡ place + length bytes → IsFrom place (bytes ++ more) whole → IsFrom next more whole
behind place next bytes more whole is from = record {
  rest =
      ap (λ (n : ℕ). drop n whole) is ∙ sym (drop-drop (length bytes) place whole) ∙ ap (drop (length bytes)) from.rest
      ∙ drop_at bytes more (length bytes) refl;
  inside = let size = length-append bytes more in let inside = from.inside in omega (arith, size, inside, is);
}

-- the same place
pub from-at : (place next : ℕ) (more whole : List ℕ) → place ≡ next → IsFrom place more whole → IsFrom next more whole
from-at place next more whole is = subst (λ (p : ℕ). IsFrom p more whole) is

-- how many octets are left
pub left : (place : ℕ) (more whole : List ℕ) → IsFrom place more whole → length whole - place ≡ length more
left place more whole from = let inside = from.inside in omega (arith, inside)

-- the octets in front
pub front : (place : ℕ) (bytes more whole : List ℕ) → IsFrom place (bytes ++ more) whole → take (length bytes) (drop place whole) ≡ bytes
front place bytes more whole from = ap (take (length bytes)) from.rest ∙ take_at bytes more (length bytes) refl

-- all from a place on
pub from-place : (place : ℕ) (whole : List ℕ) → place ≤ length whole → IsFrom place (drop place whole) whole
from-place place whole inside = record { rest = refl; inside = let size = length-drop place whole in omega (arith, size, inside) }

-- one octet in front
pub octet-first : (place x : ℕ) (more whole : List ℕ) → IsFrom place (x ∷ more) whole → get_or whole place 0 ≡ x
octet-first place x more whole from =
    let there : get_or (drop place whole) 0 0 ≡ get_or whole (place + 0) 0 = get_or-drop place whole 0 0 in
    let same : place + 0 ≡ place = omega arith in
    ap (λ i. get_or whole i 0) (sym same) ∙ sym there ∙ ap (λ l. get_or l 0 0) from.rest

-- cut behind the octets in front
pub cut : (place size : ℕ) (bytes more whole : List ℕ) → size ≡ place + length bytes → IsFrom place (bytes ++ more) whole → IsFrom place bytes (take size whole)
cut place size bytes more whole is from = record {
  rest = ap (λ (n : ℕ). drop place (take n whole)) is ∙ drop-take place (length bytes) whole ∙ front place bytes more whole from;
  inside = let inside = from.inside in omega (arith, length-take size whole, length-append bytes more, inside, is);
}

-- tests that are decided
pub passes : {A : Type 0} (test : Bool) (x y : A) → test ≡ false → (if test then x else y) ≡ y
passes true x y is = absurd (cc is)
passes false x y is = refl

pub holds : {A : Type 0} (test : Bool) (x y : A) → test ≡ true → (if test then x else y) ≡ x
holds true x y is = refl
holds false x y is = absurd (cc is)

pub not-below : (m n : ℕ) → m ≤ n → nat_lt n m ≡ false
not-below m n fits = grind (arith, nat_tests)

pub is-below : (m n : ℕ) → n < m → nat_lt n m ≡ true
is-below m n fits = grind (arith, nat_tests)

pub are-equal : (m n : ℕ) → m ≡ n → nat_eq m n ≡ true
are-equal m n is = (Decides-eqb m n).1 is

pub are-unequal : (m n : ℕ) → n < m → nat_eq m n ≡ false
are-unequal m n fits = grind (arith, nat_tests)

pub enough : (m n : ℕ) → nat_lt n m ≡ false → m ≤ n
enough m n test = grind (arith, nat_tests)

pub below : (m n : ℕ) → nat_lt n m ≡ true → n < m
below m n test = grind (arith, nat_tests)
