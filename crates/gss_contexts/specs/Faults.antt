-- The faults of tokens, and what of devices they tell.
use Rattle.std.specs.Prelude.{◌≡◌, ℕ, List, Option, Some, ◌⊎◌}
use Rattle.std.specs.Io.KnownBytes.{Consumes}
use Rattle.std.specs.declared.io.ErrorKind.{ErrorKind}
use Rattle.std.specs.declared.io.ErrorKind.TheVariants.{WriteZero, OutOfMemory}
use Rattle.asn1_der.specs.declared.error.Asn1DerError.{Asn1DerError}
use Rattle.asn1_der.specs.declared.error.Asn1DerError.TheVariants as der
use Rattle.byte_streams.specs.declared.exact.WholeFault.{WholeFault}
use Rattle.byte_streams.specs.declared.exact.WholeFault.TheVariants as whole
use Rattle.byte_streams.specs.Counting.{one_more}
use Rattle.byte_streams.specs.Whole.{after_whole_fault}
use Rattle.byte_streams.specs.Faults.{TellsWholeFault}
use Rattle.gss_contexts.specs.declared.message_tokens.error.GssApiMessageError.{GssApiMessageError}
use Rattle.gss_contexts.specs.declared.message_tokens.error.GssApiMessageError.TheVariants.{InvalidId, InvalidMechanismOid, IoError, InvalidMicFiller, InvalidWrapFiller, Asn1Error, Memory}

-- the fault's number
abbrev pub fault_number : GssApiMessageError → ℕ
fault_number (InvalidId _ _) = 1
fault_number (InvalidMechanismOid _ _) = 2
fault_number (IoError _) = 3
fault_number (InvalidMicFiller _) = 4
fault_number (InvalidWrapFiller _) = 5
fault_number (Asn1Error _) = 6
fault_number Memory = 7

-- a fault of DER, and the kind of a device's fault
abbrev pub of_der_fault : Asn1DerError → GssApiMessageError
of_der_fault der.Memory = Memory
of_der_fault fault = Asn1Error fault

abbrev pub of_kind : ErrorKind → GssApiMessageError
of_kind OutOfMemory = Memory
of_kind kind = IoError kind

-- the fault of a write that stopped
abbrev pub of_whole_fault : WholeFault → GssApiMessageError
of_whole_fault whole.Full = IoError WriteZero
of_whole_fault (whole.Failed kind) = IoError kind
of_whole_fault whole.Memory = Memory

-- a write stopped with this fault: the device counted it and holds its kind
pub record IsWriteFault (old new : ℕ) (last : Option ErrorKind) (fault : GssApiMessageError) : Type 0 where
  pub stop : WholeFault
  pub answered : fault ≡ of_whole_fault stop
  pub counted : new ≡ after_whole_fault old stop
  pub told : TellsWholeFault last stop

-- the device failed with this fault, and counted it
pub record IsDeviceFault (old new : ℕ) (last : Option ErrorKind) (fault : GssApiMessageError) : Type 0 where
  pub cause : ErrorKind
  pub answered : fault ≡ IoError cause
  pub counted : new ≡ one_more old
  pub told : last ≡ Some cause

-- memory ran out, or the device failed behind some bytes
abbrev pub IsRestFault : Option (List ℕ) → Option (List ℕ) → ℕ → ℕ → Option ErrorKind → GssApiMessageError → Type 0
IsRestFault left after old new last fault =
    ((fault ≡ Memory) × (new ≡ old)) ⊎ (IsDeviceFault old new last fault × (came : List ℕ) × Consumes left after came)
