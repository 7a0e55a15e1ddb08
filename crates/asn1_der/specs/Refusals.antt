-- Which values a type refuses to write, and how.
use Rattle.std.specs.Prelude.{◌≡◌, List, [], ◌∷◌, Option, None, Some}
use Rattle.asn1_der.specs.declared.error.Asn1DerError.{Asn1DerError}
use Rattle.asn1_der.specs.declared.error.Asn1DerError.TheVariants.{UnsupportedValue, UnsupportedType}
use Rattle.asn1_der.specs.declared.error.Unsupported.{Unsupported}
use Rattle.asn1_der.specs.declared.error.Unsupported.TheVariants.{OneValue, WholeType}

-- what a type's refusals say of a value: a type with none refuses none
abbrev pub refusal_of : {A : Type 0} → Option (A → Option Unsupported) → A → Option Unsupported
refusal_of None value = None
refusal_of (Some refuses) value = refuses value

-- the first refusal of two
abbrev pub first_refusal : Option Unsupported → Option Unsupported → Option Unsupported
first_refusal None other = other
first_refusal (Some why) other = Some why

-- the refusal of a value that may be missing
abbrev pub refusal_of_option : {A : Type 0} → Option (A → Option Unsupported) → Option A → Option Unsupported
refusal_of_option None value = None
refusal_of_option (Some refuses) None = None
refusal_of_option (Some refuses) (Some value) = refuses value

-- the first refusal in a list
abbrev pub refusal_in : {A : Type 0} → (A → Option Unsupported) → List A → Option Unsupported
refusal_in refuses [] = None
refusal_in refuses (value ∷ values) = first_refusal (refuses value) (refusal_in refuses values)

-- the first refusal among the values of a list: a type of elements with none refuses none
abbrev pub refusal_of_list : {A : Type 0} → Option (A → Option Unsupported) → List A → Option Unsupported
refusal_of_list None values = None
refusal_of_list (Some refuses) values = refusal_in refuses values

-- the refusals of a type made of another: those of a part, and those of a list
abbrev pub part_refusal : {A B : Type 0} → (B → A) → Option (A → Option Unsupported) → Option (B → Option Unsupported)
part_refusal part None = None
part_refusal part (Some refuses) = Some (λ value. refuses (part value))

abbrev pub list_refusal : {A : Type 0} → Option (A → Option Unsupported) → Option (List A → Option Unsupported)
list_refusal None = None
list_refusal (Some refuses) = Some (refusal_in refuses)

-- the fault that says so
abbrev pub RefusedAs : Option Unsupported → Asn1DerError → Type 0
RefusedAs None fault = ⊥
RefusedAs (Some OneValue) fault = fault ≡ UnsupportedValue
RefusedAs (Some WholeType) fault = fault ≡ UnsupportedType
