-- A constructed element of which the content is being read or written.
use Rattle.std.specs.Prelude.{◌≡◌, ℕ, ◌+◌, ◌<◌, false, List, ◌∷◌, length}
use Rattle.asn1_der.specs.Length.{length_octets}
use Rattle.asn1_der.specs.declared.error.Asn1DerError.{Asn1DerError}
use Rattle.asn1_der.specs.declared.error.Asn1DerError.TheVariants.{InvalidSink}
use Rattle.asn1_codec.specs.Reading.{Reading, Took, within}
use Rattle.asn1_codec.specs.Writing.{Writing}

-- a call took an identifier octet and length octets; as many octets as these say may be taken now, and so many others
-- behind them
abbrev pub Opened : ℕ → ℕ → Reading → Reading → Type 0
Opened tag outside old new =
    (behind : Reading) × Took (tag ∷ length_octets new.limit) old behind × (new ≡ within new.limit behind) × (outside + new.limit ≡ behind.limit)

-- the bytes are more than is missing of the content that is being written, and nothing was written
abbrev pub IsPastContent : ℕ → List ℕ → Writing → Writing → Asn1DerError → Type 0
IsPastContent missing bytes old new fault =
    (fault ≡ InvalidSink) × (missing < length bytes) × (old.failed ≡ false) × (new ≡ old)
