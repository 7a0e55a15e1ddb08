-- A value at the front of some bytes, and the bytes after it.
use Rattle.std.specs.Prelude.{◌≡◌, ℕ, Bool, true, false, List, [], ◌∷◌, ◌++◌, Option, None, Some, ◌⊎◌}
use Rattle.asn1_der.specs.Firsts.{Firsts, may_begin}
use Rattle.asn1_der.specs.declared.error.Asn1DerError.{Asn1DerError}
use Rattle.asn1_der.specs.declared.error.Asn1DerError.TheVariants.{Memory}

-- the bytes begin with some that are read as the value, and `rest` follows them
abbrev pub Leads : {T : Type 0} → (T → List ℕ → Type 0) → T → List ℕ → List ℕ → Type 0
Leads reads value bytes rest = (front : List ℕ) × reads value front × (bytes ≡ front ++ rest)

-- the bytes begin with one of these octets
abbrev pub begins : Firsts → List ℕ → Bool
begins firsts [] = false
begins firsts (octet ∷ bytes) = may_begin firsts octet

-- the bytes begin with a value that may be missing, and `rest` follows: it is there exactly where one of its first octets is
abbrev pub LeadsOptional : {T : Type 0} → Firsts → (T → List ℕ → Type 0) → Option T → List ℕ → List ℕ → Type 0
LeadsOptional firsts reads None bytes rest = (begins firsts bytes ≡ false) × (rest ≡ bytes)
LeadsOptional firsts reads (Some value) bytes rest = (begins firsts bytes ≡ true) × Leads reads value bytes rest

-- memory ran out, or no value fits
abbrev pub IsMissing : {T : Type 0} → (T → Type 0) → Asn1DerError → Type 0
IsMissing {T} fits fault = (fault ≡ Memory) ⊎ ((value : T) → fits value → ⊥)
