-- What comes next from a source, and why something wanted doesn't.
use Rattle.std.specs.Prelude.{ℕ, List, Option, None, Some, ⊤}
use Rattle.std.specs.Io.KnownBytes.{IsAtEnd}
use Rattle.asn1_codec.specs.Lengths.{IsWanting}
use Rattle.asn1_der.specs.declared.error.Asn1DerError.{Asn1DerError}
use Rattle.asn1_der.specs.declared.error.Asn1DerError.TheVariants.{TruncatedData, InvalidData, Other}

-- why no octet is next: the source is at its end, or it failed
abbrev pub IsNoOctet : Option (List ℕ) → Asn1DerError → Type 0
IsNoOctet left TruncatedData = IsAtEnd left
IsNoOctet left (Other kind) = ⊤
IsNoOctet left fault = ⊥

-- why no such bytes begin what is left, where that is known
abbrev pub IsWantingIn : (List ℕ → Type 0) → Option (List ℕ) → Asn1DerError → Type 0
IsWantingIn P None fault = ⊤
IsWantingIn P (Some input) fault = IsWanting P input fault

-- why no such bytes are next: what is left ends inside some of them, or can't be gone on with to begin with any; or
-- the source failed
abbrev pub IsWantingNext : (List ℕ → Type 0) → Option (List ℕ) → Asn1DerError → Type 0
IsWantingNext P left TruncatedData = IsWantingIn P left TruncatedData
IsWantingNext P left InvalidData = IsWantingIn P left InvalidData
IsWantingNext P left (Other kind) = ⊤
IsWantingNext P left fault = ⊥
