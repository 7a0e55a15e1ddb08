-- Why no frame was written.
use Rattle.std.specs.Prelude.{◌≡◌, ℕ, ◌+◌, ◌≤◌, ◌^◌, List, length, Option, None, ◌⊎◌}
use Rattle.std.specs.declared.io.ErrorKind.{ErrorKind}
use Rattle.std.specs.declared.io.ErrorKind.TheVariants.{OutOfMemory, InvalidInput}
use Rattle.asn1_der.specs.declared.error.Asn1DerError.{Asn1DerError}
use Rattle.asn1_der.specs.declared.error.Asn1DerError.TheVariants.{Memory}
use Rattle.asn1_der.specs.declared.error.Unsupported.{Unsupported}

-- memory ran out, or a length is past its two bytes
abbrev pub IsTooLong : List ℕ → List ℕ → ErrorKind → Type 0
IsTooLong ap private e = (e ≡ OutOfMemory) ⊎ ((e ≡ InvalidInput) × (2 ^ 16 ≤ 6 + length ap + length private))

-- memory ran out, or the type of a value refuses to write it
abbrev pub IsUnwritten : Option Unsupported → ErrorKind → Type 0
IsUnwritten refusal e = (e ≡ OutOfMemory) ⊎ ((e ≡ InvalidInput) × (refusal ≡ None → ⊥))

-- a part has no bytes, or both are too long for a frame
abbrev pub IsUnframable : Option Unsupported → Option Unsupported → List ℕ → List ℕ → ErrorKind → Type 0
IsUnframable first second ap private e = IsUnwritten first e ⊎ (IsUnwritten second e ⊎ IsTooLong ap private e)

-- what a part that isn't written is answered by
abbrev pub write_kind : Asn1DerError → ErrorKind
write_kind Memory = OutOfMemory
write_kind fault = InvalidInput
