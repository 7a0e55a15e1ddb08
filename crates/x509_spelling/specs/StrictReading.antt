-- What reading from a strict spelling answers.
use Rattle.std.specs.Prelude.{◌≡◌, ◌⊎◌, ℕ, List}
use Rattle.asn1_der.specs.declared.error.Asn1DerError.{Asn1DerError}
use Rattle.asn1_der.specs.declared.error.Asn1DerError.TheVariants.{Memory, InvalidData}
use Rattle.x509_spelling.specs.declared.fault.X509Fault.{X509Fault}
use Rattle.x509_spelling.specs.declared.fault.X509Fault.TheVariants as fault

-- a fault of X.509 as one of the DER layer
abbrev pub der_fault_of : X509Fault → Asn1DerError
der_fault_of fault.Memory = Memory
der_fault_of other = InvalidData

-- Inside a message of Kerberos a value of X.509 is read from its DER alone: each deviation is refused (X.690, section 10).
-- Test: `SEQUENCE:auth_pack_without_null` of `pkinit_refused.txt`.
abbrev pub IsNoStrict : {T : Type 0} → (T → List ℕ → ℕ → Type 0) → List ℕ → Asn1DerError → Type 0
IsNoStrict {T} spells bytes told =
    (told ≡ Memory) ⊎ ((told ≡ InvalidData) × ((value : T) → spells value bytes 0 → ⊥))
