-- What makes `==` equality of values: of options, structs and enums, from that of their parts.
use Rattle.std.proofs.Common.{◌≡◌, Bool, true, false, List, refl, sym, ap}
use Rattle.std.specs.Prelude.{◌&&◌, ⊤, Option, Some, None}
use mathlib.Core.Bool.{true≢false}
use mathlib.Core.List.{[], ◌∷◌}
use mathlib.Core.Logic.{◌⊎◌, inl, inr}
use denote.Struct.Field.{Field}
use denote.Struct.Values.{Values}
use denote.Struct.Cover.{Cover-one}
use denote.Struct.Declared.{Declared as Struct}
use denote.Enum.Bare.{Bare, sameb, tag_one}
use denote.Enum.Declared.{Record, Declared, tag_of, values_one, left_or, right_or}
use denote.Enum.Compared.{Each, by}
use Rattle.std.specs.Bool.{Decides}
use Rattle.std.specs.Cmp.{unsigned_Decides}
use Rattle.std.specs.Option.{option_eq}
use Rattle.std.proofs.lemmas.Bool.Decides.{Decides-and}

-- the test is true exactly of two equal values
abbrev pub IsEquality : {K : Type 0} → (K → K → Bool) → Type 0
IsEquality {K} test = (v w : K) → Decides (test v w) (v ≡ w)

-- values that are distinguished by what f gives of them
pub told_by : {K J : Type 0} (f : K → J) {E : J → J → Bool} → IsEquality E → ((v w : K) → f v ≡ f w → v ≡ w) → IsEquality (λ v w. E (f v) (f w))
told_by f same told v w = (λ e. told v w ((same (f v) (f w)).0 e), λ e. (same (f v) (f w)).1 (ap f e))

pub both : {A B : Type 0} {E : A → A → Bool} {F : B → B → Bool} → IsEquality E → IsEquality F → IsEquality (λ (v w : A × B). E v.0 w.0 && F v.1 w.1)
both {A} {B} {E} {F} left right v w =
    let parts = Decides-and (E v.0 w.0) (F v.1 w.1) (left v.0 w.0) (right v.1 w.1) in
    (λ e. let p = parts.0 e in λ i. (p.0 i, p.1 i), λ e. parts.1 (λ i. (e i).0, λ i. (e i).1))

pub options : {K : Type 0} {E : K → K → Bool} → IsEquality E → IsEquality (option_eq E)
options same None None = (λ _. refl, λ _. refl)
options same None (Some w) = (λ e. absurd (true≢false (sym e)), λ e. ap (option_eq (λ _ _. true) None) (sym e))
options same (Some v) None = (λ e. absurd (true≢false (sym e)), λ e. ap (option_eq (λ _ _. true) None) e)
options same (Some v) (Some w) = (λ e. ap Some ((same v w).0 e), λ e. (same v w).1 (ap (held v) e))
  where
    held : {K : Type 0} → K → Option K → K
    held k None = k
    held k (Some v) = v

-- ---- a struct: the test of its last field, or of a field and those behind it by `both`
pub last : {K : Type 0} {E : K → K → Bool} → IsEquality E → IsEquality (λ (v w : K × Unit {0}). E v.0 w.0)
last same v w = (λ e. let p = (same v.0 w.0).0 e in λ i. (p i, tt), λ e. (same v.0 w.0).1 (λ i. (e i).0))

pub no_field : IsEquality (λ (v w : Unit {0}). true)
no_field v w = (λ _. refl, λ _. refl)

pub fields : (T : Struct) {E : Values T.parts → Values T.parts → Bool} → IsEquality E → IsEquality (λ (v w : T.D). E (T.as_values v) (T.as_values w))
fields T same = told_by T.as_values same (λ v w e. Cover-one T.cover T.propositions v w e)

-- an enum with no field
pub bare : (D : Declared) → Bare D.parts → IsEquality (sameb D)
bare D none v w =
    let same = unsigned_Decides (tag_of D v) (tag_of D w) in
    (λ e. tag_one D none v w (same.0 e), λ e. same.1 (ap (tag_of D) e))

-- ---- an enum with fields

-- a test of two values of one variant
pub record Tested (K : Type 0) : Type 0 where
  pub test : K → K → Bool
  pub same : IsEquality test

abbrev pub Variants : List (List Field) → Type 0
Variants [] = ⊤
Variants (Fs ∷ Fss) = Tested (Values Fs) × Variants Fss

abbrev pub tests : (Fss : List (List Field)) → Variants Fss → Each Bool Fss
tests [] all = tt
tests (Fs ∷ Fss) all = (all.0.test, tests Fss all.1)

-- a variant with no field, or with one, before the others
abbrev pub or_none : {R : Type 0} → R → Tested (Unit {0}) × R
or_none rest = (record { test = λ _ _. true; same = λ v w. (λ _. refl, λ _. refl) }, rest)

abbrev pub or_field : {K : Type 0} {E : K → K → Bool} {R : Type 0} → IsEquality E → R → Tested (K × Unit {0}) × R
or_field {K} {E} same rest = (
  record {
    test = λ v w. E v.0 w.0;
    same = λ v w. (λ e. let p = (same v.0 w.0).0 e in λ i. (p i, tt), λ e. (same v.0 w.0).1 (λ i. (e i).0));
  },
  rest,
)

abbrev is_left : {A B : Type 0} → A ⊎ B → Bool
is_left (inl x) = true
is_left (inr y) = false

choices : (Fss : List (List Field)) (all : Variants Fss) → IsEquality (by false false Fss (tests Fss all))
choices [] all v w = absurd v
choices (Fs ∷ Fss) all (inl v) (inl w) = (λ e. ap inl ((all.0.same v w).0 e), λ e. (all.0.same v w).1 (ap (left_or v) e))
choices (Fs ∷ Fss) all (inl v) (inr w) = (λ e. absurd (true≢false (sym e)), λ e. ap is_left (sym e))
choices (Fs ∷ Fss) all (inr v) (inl w) = (λ e. absurd (true≢false (sym e)), λ e. ap is_left e)
choices (Fs ∷ Fss) all (inr v) (inr w) = let rest = choices Fss all.1 v w in (λ e. ap inr (rest.0 e), λ e. rest.1 (ap (right_or v) e))

pub variants : (N : Record) (all : Variants N.parts) → IsEquality (λ (v w : N.D). by false false N.parts (tests N.parts all) (N.as_values v) (N.as_values w))
variants N all = told_by N.as_values (choices N.parts all) (values_one N)
