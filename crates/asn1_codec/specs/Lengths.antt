-- Length octets that begin an input (X.690, sections 8.1.3 and 10.1).
use Rattle.std.specs.Prelude.{◌≡◌, ℕ, ◌<◌, ◌≤◌, ◌^◌, List, ◌∷◌, ◌++◌, length}
use Rattle.asn1_der.specs.Length.{length_octets}
use Rattle.asn1_der.specs.declared.error.Asn1DerError.{Asn1DerError}
use Rattle.asn1_der.specs.declared.error.Asn1DerError.TheVariants.{TruncatedData, InvalidData}

-- the bytes are the length octets of a length that a machine of 64 bits can hold
abbrev pub AreLengthOctets : List ℕ → Type 0
AreLengthOctets bytes = (count : ℕ) × (count < 2 ^ 64) × (bytes ≡ length_octets count)

-- so many octets, at most eight, follow the first in all length octets that begin with it
abbrev pub IsFollowing : ℕ → ℕ → Type 0
IsFollowing first more = (more ≤ 8) × ((n : ℕ) (rest : List ℕ) → length_octets n ≡ first ∷ rest → length rest ≡ more)

-- why no such bytes begin the input: it ends inside some of them, or it can't be gone on with to begin with any
abbrev pub IsWanting : (List ℕ → Type 0) → List ℕ → Asn1DerError → Type 0
IsWanting P input TruncatedData = (more : List ℕ) × P (input ++ more) × (1 ≤ length more)
IsWanting P input InvalidData = (more bytes rest : List ℕ) → P bytes → input ++ more ≡ bytes ++ rest → ⊥
IsWanting P input fault = ⊥
