-- What makes a copy the value: of lists, options, structs and enums, from that of their parts.
use Rattle.std.proofs.Common.{◌≡◌, refl, ap}
use Rattle.std.proofs.lemmas.List.Elements.{same_from_all_zip}
use Rattle.std.specs.List.{AllZip}
use Rattle.std.specs.Prelude.{⊤, Option, Some, None}
use denote.Struct.Cover.{Cover-one}
use denote.Struct.Declared.{Declared as Struct}
use denote.Struct.Values.{Values}

-- what the relation calls a copy of a value is the value
abbrev pub IsCopied : {K : Type 0} → (K → K → Type 0) → Type 0
IsCopied {K} Copy = (value copy : K) → Copy value copy → copy ≡ value

pub equal : {K : Type 0} → IsCopied (λ (v w : K). w ≡ v)
equal v w e = e

-- values that are distinguished by what f gives of them
pub told_by : {K J : Type 0} (f : K → J) {C : J → J → Type 0} → IsCopied C → ((v w : K) → f v ≡ f w → v ≡ w) → IsCopied (λ v w. C (f v) (f w))
told_by f copied told v w c = told w v (copied (f v) (f w) c)

abbrev pub BothOrNone : {K : Type 0} → (K → K → Type 0) → Option K → Option K → Type 0
BothOrNone C None None = ⊤
BothOrNone C None (Some y) = ⊥
BothOrNone C (Some x) None = ⊥
BothOrNone C (Some x) (Some y) = C x y

pub options : {K : Type 0} {C : K → K → Type 0} → IsCopied C → IsCopied (BothOrNone C)
options copied None None c = refl
options copied None (Some y) c = absurd c
options copied (Some x) None c = absurd c
options copied (Some x) (Some y) c = ap Some (copied x y c)

pub lists : {K : Type 0} {C : K → K → Type 0} → IsCopied C → IsCopied (AllZip C)
lists {K} {C} copied v w c = same_from_all_zip C v w c copied

-- ---- a struct: its last field, or a field and those behind it; behind the last of a record's row stands nothing
pub last : {K : Type 0} {C : K → K → Type 0} → IsCopied C → IsCopied (λ (v w : K × Unit {0}). C v.0 w.0)
last copied v w c = λ i. (copied v.0 w.0 c i, tt)

pub both : {K L : Type 0} {C : K → K → Type 0} {D : L → L → Type 0} → IsCopied C → IsCopied D → IsCopied (λ (v w : K × L). C v.0 w.0 × D v.1 w.1)
both left right v w c = λ i. (left v.0 w.0 c.0 i, right v.1 w.1 c.1 i)

pub end : IsCopied (λ (v w : Unit {0}). Unit {0})
end v w c = refl

pub fields : (T : Struct) {C : Values T.parts → Values T.parts → Type 0} → IsCopied C → IsCopied (λ (v w : T.D). C (T.as_values v) (T.as_values w))
fields T copied = told_by T.as_values copied (λ v w e. Cover-one T.cover T.propositions v w e)
