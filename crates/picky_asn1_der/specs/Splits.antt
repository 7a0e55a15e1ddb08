-- The element that begins an input (X.690, section 8.1), where its tag is in one octet.
use Rattle.std.specs.Prelude.{◌≡◌, ℕ, ◌<◌, ◌≤◌, ◌^◌, true, List, [], ◌∷◌, ◌++◌, length, refl}
use Rattle.asn1_der.specs.Length.{element, length_octets}
use Rattle.picky_asn1_der.specs.Raw.{Raw, has_low_number}
use Rattle.asn1_der.specs.declared.error.Asn1DerError.{Asn1DerError}
use Rattle.asn1_der.specs.declared.error.Asn1DerError.TheVariants.{TruncatedData, InvalidData}
use Rattle.asn1_der.specs.Octets.{sequence_octet}

-- all bytes of an element
abbrev pub raw_bytes : Raw → List ℕ
raw_bytes raw = element raw.first raw.content

-- the input is this element and the rest behind it
abbrev pub SplitsInto : List ℕ → Raw → List ℕ → Type 0
SplitsInto input raw rest = (has_low_number raw.first ≡ true) × (input ≡ element raw.first raw.content ++ rest)

-- no element whose tag is in one octet begins the input
abbrev pub IsNoSplit : List ℕ → Type 0
IsNoSplit input = (raw : Raw) (rest : List ℕ) → SplitsInto input raw rest → ⊥

-- the bytes are one element, which a machine of 64 bits can hold
abbrev pub IsOneElement : List ℕ → Type 0
IsOneElement bytes = (raw : Raw) × (has_low_number raw.first ≡ true) × (length raw.content < 2 ^ 64) × (bytes ≡ element raw.first raw.content)

-- why the bytes are no element: they end inside one, or no further bytes make one of them
abbrev pub IsNotOne : List ℕ → Asn1DerError → Type 0
IsNotOne bytes TruncatedData = (IsOneElement bytes → ⊥) × ((more : List ℕ) × IsOneElement (bytes ++ more))
IsNotOne bytes InvalidData = (more : List ℕ) → IsOneElement (bytes ++ more) → ⊥
IsNotOne bytes fault = ⊥

-- `30 03 02 01 07 05 00` begins with the SEQUENCE of the INTEGER 7
split-sequence : SplitsInto (48 ∷ 3 ∷ 2 ∷ 1 ∷ 7 ∷ 5 ∷ 0 ∷ []) (record { first = sequence_octet; content = 2 ∷ 1 ∷ 7 ∷ [] }) (5 ∷ 0 ∷ [])
unfolding element length_octets
split-sequence = (refl, refl)
