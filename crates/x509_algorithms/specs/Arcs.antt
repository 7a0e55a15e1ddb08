-- Object identifiers that differ in their last octet alone.
use Rattle.std.proofs.Common.{◌≡◌, ℕ, Bool, true, false, List, [], ◌∷◌, ◌++◌, Option, None, Some, take, drop, length, refl, ap}
use Rattle.std.specs.Prelude.{◌&&◌, nat_eq}
use Rattle.std.specs.Cmp.Lexicographic.{pointwise}
use Rattle.std.proofs.lemmas.Bool.{eqb-true}

abbrev pub only_octet : List ℕ → Option ℕ
only_octet [] = None
only_octet (octet ∷ []) = Some octet
only_octet (octet ∷ other ∷ octets) = None

abbrev pub when : {T : Type 0} → Bool → Option T → Option T
when true value = value
when false value = None

-- the one octet after the prefix, where the content is no more than these
abbrev pub octet_behind : List ℕ → List ℕ → Option ℕ
octet_behind [] content = only_octet content
octet_behind (first ∷ prefix) [] = None
octet_behind (first ∷ prefix) (octet ∷ content) = when (nat_eq octet first) (octet_behind prefix content)

-- there is an octet, and it satisfies the predicate
abbrev pub is_among : (ℕ → Bool) → Option ℕ → Bool
is_among holds None = false
is_among holds (Some octet) = holds octet

abbrev pub or_zero : Option ℕ → ℕ
or_zero None = 0
or_zero (Some octet) = octet

-- nistAlgorithms, hashAlgs: 2.16.840.1.101.3.4.2
abbrev pub nist_hashes : List ℕ
nist_hashes = 0x60 ∷ 0x86 ∷ 0x48 ∷ 1 ∷ 0x65 ∷ 3 ∷ 4 ∷ 2 ∷ []

some_one : (a b : ℕ) → Some a ≡ Some b → a ≡ b
some_one a b e = cc

none_some : (b : ℕ) → None ≡ Some b → ⊥
none_some b e = cc

only-is : (content : List ℕ) (octet : ℕ) → only_octet content ≡ Some octet → content ≡ octet ∷ []
only-is [] octet e = absurd (none_some octet e)
only-is (o ∷ []) octet e = ap (λ (x : ℕ). x ∷ []) (some_one o octet e)
only-is (o ∷ p ∷ content) octet e = absurd (none_some octet e)

when-is : {T : Type 0} (b : Bool) (v : Option T) (t : T) → when b v ≡ Some t → (b ≡ true) × (v ≡ Some t)
when-is true v t e = (refl, e)
when-is false v t e = absurd (cc (e))

pub octet_behind_is : (prefix content : List ℕ) (octet : ℕ) → octet_behind prefix content ≡ Some octet → content ≡ prefix ++ octet ∷ []
octet_behind_is [] content octet e = only-is content octet e
octet_behind_is (first ∷ prefix) [] octet e = absurd (none_some octet e)
octet_behind_is (first ∷ prefix) (o ∷ content) octet e =
    let parts = when-is (nat_eq o first) (octet_behind prefix content) octet e in
    λ i. eqb-true o first parts.0 i ∷ octet_behind_is prefix content octet parts.1 i

rest_of : (is also : Bool) (v w : Option ℕ) → (is && also) ≡ true → (also ≡ true → v ≡ w) → when is v ≡ w
rest_of true also v w e same = same e
rest_of false also v w e same = absurd (cc (e))

none_of : (is also : Bool) (v : Option ℕ) → (is && also) ≡ false → (also ≡ false → v ≡ None) → when is v ≡ None
none_of true also v e same = same e
none_of false also v e same = refl

pub octet_behind_none : (prefix content : List ℕ) → pointwise nat_eq (take (length prefix) content) prefix ≡ false → octet_behind prefix content ≡ None
octet_behind_none [] content e = absurd (cc (e))
octet_behind_none (first ∷ prefix) [] e = refl
octet_behind_none (first ∷ prefix) (o ∷ content) e =
    none_of (nat_eq o first) (pointwise nat_eq (take (length prefix) content) prefix) (octet_behind prefix content) e (octet_behind_none prefix content)

pub octet_behind_rest : (prefix content : List ℕ) → pointwise nat_eq (take (length prefix) content) prefix ≡ true
    → octet_behind prefix content ≡ only_octet (drop (length prefix) content)
octet_behind_rest [] content e = refl
octet_behind_rest (first ∷ prefix) [] e = absurd (cc (e))
octet_behind_rest (first ∷ prefix) (o ∷ content) e =
    rest_of (nat_eq o first) (pointwise nat_eq (take (length prefix) content) prefix) (octet_behind prefix content) (only_octet (drop (length prefix) content)) e
    (octet_behind_rest prefix content)
