-- Length octets after the first (X.690, section 8.1.3.5).
use Rattle.std.specs.Prelude.{◌≡◌, ℕ, ◌<◌, List, ◌∷◌}
use Rattle.asn1_der.specs.Length.{length_octets}
use Rattle.asn1_codec.specs.Reading.{Reading, Took}

-- the bytes are the length octets after the first of a length below the limit
abbrev pub IsLengthTail : ℕ → ℕ → List ℕ → Type 0
IsLengthTail limit first bytes = (count : ℕ) × (count < limit) × (length_octets count ≡ first ∷ bytes)

-- a call took the length octets after the first
abbrev pub TookTail : ℕ → ℕ → Reading → Reading → Type 0
TookTail first count old new = (bytes : List ℕ) × (length_octets count ≡ first ∷ bytes) × Took bytes old new
