-- The fields of a SEQUENCE, one after another: what they begin with, and that they are told from one another.
use Rattle.std.proofs.Common.{◌≡◌, ℕ, true, not, List, [], ◌∷◌, ◌++◌, Option, None, Some, refl, sym, ap, ◌∙◌, inl, inr}
use Rattle.std.proofs.lemmas.Bool.{or_cases, or_left, or_right, and_parts, not-true, eqb-true, both_ways}
use Rattle.std.proofs.lemmas.List.Folds.{list_any-append}
use Rattle.std.specs.Prelude.{◌==◌, IsTrue}
use Rattle.std.specs.List.{list_any, list_all}
use Rattle.asn1_der.specs.Tree.{Tree, Trees, more, ders, AreWhole, put, trees_of}
use Rattle.asn1_der.specs.Firsts.{Firsts, any_octet, one_of, may_begin, either, apart, BeginsAmong}
use Rattle.asn1_der.specs.Seen.{Seen, as_is, Alike, seen_option, seen_list}
use Rattle.asn1_der.proofs.Alike.{alike-none, alike-some, alike-nil, alike-cons}
use Rattle.asn1_der.proofs.Spelling.{IsInjective, IsInjectiveAs, der-front, der-begins, der-nonempty, der-first}

-- each value begins with one of them
abbrev pub AllBeginAmong : {A : Type 0} → Firsts → (A → Tree) → Type 0
AllBeginAmong {A} firsts tree = (a : A) → BeginsAmong firsts (tree a)

-- where the fields are written as anything, they start with one of them
abbrev pub StartAmong : {B : Type 0} → Firsts → (B → Trees) → Type 0
StartAmong {B} firsts trees = (b : B) → AreWhole (trees b) → (octet : ℕ) (rest : List ℕ) → ders (trees b) ≡ octet ∷ rest → IsTrue (may_begin firsts octet)

-- fields that are written alike are the same
abbrev pub AreInjective : {B : Type 0} → (B → Trees) → Type 0
AreInjective {B} trees = (x y : B) → AreWhole (trees x) → AreWhole (trees y) → ders (trees x) ≡ ders (trees y) → x ≡ y

-- or show the same
abbrev pub AreInjectiveAs : {B : Type 0} → (B → B → Type 0) → (B → Trees) → Type 0
AreInjectiveAs {B} Same trees = (x y : B) → AreWhole (trees x) → AreWhole (trees y) → ders (trees x) ≡ ders (trees y) → Same x y

-- what begins a value of the one type begins one of either
pub may_begin-either_left : (firsts others : Firsts) (octet : ℕ) → IsTrue (may_begin firsts octet) → IsTrue (may_begin (either firsts others) octet)
may_begin-either_left any_octet others octet begins = refl
may_begin-either_left (one_of octets) any_octet octet begins = refl
may_begin-either_left (one_of octets) (one_of others) octet begins =
    list_any-append (λ x. x == octet) octets others ∙ or_left _ _ begins

pub may_begin-either_right : (firsts others : Firsts) (octet : ℕ) → IsTrue (may_begin others octet) → IsTrue (may_begin (either firsts others) octet)
may_begin-either_right any_octet others octet begins = refl
may_begin-either_right (one_of octets) any_octet octet begins = refl
may_begin-either_right (one_of octets) (one_of others) octet begins =
    list_any-append (λ x. x == octet) octets others ∙ or_right _ _ begins

-- no octet begins values of both types, where they are apart
apart_none : (octets : List ℕ) (others : Firsts) (octet : ℕ) → list_all (λ x. not (may_begin others x)) octets ≡ true → list_any (λ x. x == octet) octets ≡ true → may_begin others octet ≡ true → ⊥
apart_none [] others octet all any also = cc
apart_none (first ∷ octets) others octet all any also =
    let parts = and_parts (not (may_begin others first)) (list_all (λ x. not (may_begin others x)) octets) all in
    elim (or_cases (first == octet) (list_any (λ x. x == octet) octets) any) [
      | inl same ↦ both_ways (may_begin others first) (not-true _ parts.0) (ap (λ (x : ℕ). may_begin others x) (eqb-true first octet same) ∙ also)
      | inr later ↦ apart_none octets others octet parts.1 later also
    ]

pub apart-none : (firsts others : Firsts) (octet : ℕ) → apart firsts others ≡ true → IsTrue (may_begin firsts octet) → IsTrue (may_begin others octet) → ⊥
apart-none (one_of octets) others octet distinct begins also = apart_none octets others octet distinct begins also
apart-none any_octet (one_of []) octet distinct begins also = cc
apart-none any_octet (one_of (first ∷ octets)) octet distinct begins also = cc
apart-none any_octet any_octet octet distinct begins also = cc

-- the front of a joined text is empty where the whole is
left_empty : (a b : List ℕ) → a ++ b ≡ [] → a ≡ []
left_empty [] b e = refl
left_empty (x ∷ a) b e = absurd (cc)

-- A field, and those behind it. `tree` writes the field, with one of `firsts` in front, and `trees` those behind it,
-- which begin with one of `others`.
module _ (A B : Type 0) (tree : A → Tree) (trees : B → Trees) (firsts others : Firsts) where
  pub required-starts : AllBeginAmong firsts tree → (a : A) (b : B) → AreWhole (more (tree a) (trees b)) → (octet : ℕ) (rest : List ℕ) → ders (more (tree a) (trees b)) ≡ octet ∷ rest → IsTrue (may_begin firsts octet)
  required-starts begins a b whole octet rest e =
      der-begins firsts (tree a) whole.0 (begins a) octet rest (ders (trees b)) e

  pub optional-starts : AllBeginAmong firsts tree → StartAmong others trees → (o : Option A) (b : B) → AreWhole (put tree o (trees b)) → (octet : ℕ) (rest : List ℕ) → ders (put tree o (trees b)) ≡ octet ∷ rest → IsTrue (may_begin (either firsts others) octet)
  optional-starts begins starts None b whole octet rest e = may_begin-either_right firsts others octet (starts b whole octet rest e)
  optional-starts begins starts (Some a) b whole octet rest e = may_begin-either_left firsts others octet (required-starts begins a b whole octet rest e)

  pub required-injective_as : (One : A → A → Type 0) (Other : B → B → Type 0) → IsInjectiveAs One tree → AreInjectiveAs Other trees → (v w : A) (x y : B) → AreWhole (more (tree v) (trees x)) → AreWhole (more (tree w) (trees y)) → ders (more (tree v) (trees x)) ≡ ders (more (tree w) (trees y)) → One v w × Other x y
  required-injective_as One Other head tail v w x y whole also e =
      let parts = der-front (tree v) (tree w) (ders (trees x)) (ders (trees y)) whole.0 also.0 e in
      (head v w whole.0 also.0 parts.0, tail x y whole.1 also.1 parts.1)

  pub required-injective : IsInjective tree → AreInjective trees → (v w : A) (x y : B) → AreWhole (more (tree v) (trees x)) → AreWhole (more (tree w) (trees y)) → ders (more (tree v) (trees x)) ≡ ders (more (tree w) (trees y)) → (v ≡ w) × (x ≡ y)
  required-injective head tail = required-injective_as (λ v w. v ≡ w) (λ x y. x ≡ y) head tail

  -- where the field is missing in the one and there in the other, the first octet tells them apart
  optional_mixed : apart firsts others ≡ true → AllBeginAmong firsts tree → StartAmong others trees → (w : A) (x y : B) → AreWhole (trees x) → AreWhole (more (tree w) (trees y)) → ders (trees x) ≡ ders (more (tree w) (trees y)) → ⊥
  optional_mixed distinct begins starts w x y whole also e =
      let front = der-first (tree w) also.0 in
      let text : ders (more (tree w) (trees y)) ≡ front.octet ∷ (front.rest ++ ders (trees y)) =
      ap (λ (spelled : List ℕ). spelled ++ ders (trees y)) front.is in
      apart-none firsts others front.octet distinct
      (required-starts begins w y also front.octet (front.rest ++ ders (trees y)) text)
      (starts x whole front.octet (front.rest ++ ders (trees y)) (e ∙ text))

  pub optional-injective_as : (seen : Seen A) (Other : B → B → Type 0) → IsInjectiveAs (Alike seen) tree → AreInjectiveAs Other trees → apart firsts others ≡ true → AllBeginAmong firsts tree → StartAmong others trees → (o p : Option A) (x y : B) → AreWhole (put tree o (trees x)) → AreWhole (put tree p (trees y)) → ders (put tree o (trees x)) ≡ ders (put tree p (trees y)) → Alike (seen_option seen) o p × Other x y
  optional-injective_as seen Other head tail distinct begins starts None None x y whole also e = (alike-none seen, tail x y whole also e)
  optional-injective_as seen Other head tail distinct begins starts None (Some w) x y whole also e = absurd (optional_mixed distinct begins starts w x y whole also e)
  optional-injective_as seen Other head tail distinct begins starts (Some v) None x y whole also e = absurd (optional_mixed distinct begins starts v y x also whole (sym e))
  optional-injective_as seen Other head tail distinct begins starts (Some v) (Some w) x y whole also e =
      let parts = required-injective_as (Alike seen) Other head tail v w x y whole also e in
      (alike-some seen v w parts.0, parts.1)

  pub optional-injective : IsInjective tree → AreInjective trees → apart firsts others ≡ true → AllBeginAmong firsts tree → StartAmong others trees → (o p : Option A) (x y : B) → AreWhole (put tree o (trees x)) → AreWhole (put tree p (trees y)) → ders (put tree o (trees x)) ≡ ders (put tree p (trees y)) → (o ≡ p) × (x ≡ y)
  optional-injective head tail = optional-injective_as as_is (λ x y. x ≡ y) head tail

-- The elements of a SEQUENCE OF, which `tree` writes.
module _ (A : Type 0) (tree : A → Tree) where
  pub many-starts : (firsts : Firsts) → AllBeginAmong firsts tree → (values : List A) → AreWhole (trees_of tree values) → (octet : ℕ) (rest : List ℕ) → ders (trees_of tree values) ≡ octet ∷ rest → IsTrue (may_begin firsts octet)
  many-starts firsts begins [] whole octet rest e = cc
  many-starts firsts begins (value ∷ values) whole octet rest e =
      der-begins firsts (tree value) whole.0 (begins value) octet rest (ders (trees_of tree values)) e

  pub many-injective_as : (seen : Seen A) → IsInjectiveAs (Alike seen) tree → (values others : List A) → AreWhole (trees_of tree values) → AreWhole (trees_of tree others) → ders (trees_of tree values) ≡ ders (trees_of tree others) → Alike (seen_list seen) values others
  many-injective_as seen head [] [] whole also e = alike-nil seen
  many-injective_as seen head [] (w ∷ others) whole also e = absurd (der-nonempty (tree w) also.0 (left_empty _ _ (sym e)))
  many-injective_as seen head (v ∷ values) [] whole also e = absurd (der-nonempty (tree v) whole.0 (left_empty _ _ e))
  many-injective_as seen head (v ∷ values) (w ∷ others) whole also e =
      let parts = der-front (tree v) (tree w) (ders (trees_of tree values)) (ders (trees_of tree others)) whole.0 also.0 e in
      alike-cons seen v w values others (head v w whole.0 also.0 parts.0) (many-injective_as seen head values others whole.1 also.1 parts.1)

  pub many-injective : IsInjective tree → (values others : List A) → AreWhole (trees_of tree values) → AreWhole (trees_of tree others) → ders (trees_of tree values) ≡ ders (trees_of tree others) → values ≡ others
  many-injective head = many-injective_as as_is head
