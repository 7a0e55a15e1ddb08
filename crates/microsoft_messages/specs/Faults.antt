-- The faults of a PAC, and what of devices they tell.
use Rattle.std.specs.Prelude.{◌≡◌, ℕ, Option, None, Some}
use Rattle.std.specs.declared.io.ErrorKind.{ErrorKind}
use Rattle.std.specs.declared.io.ErrorKind.TheVariants.{UnexpectedEof, WriteZero, OutOfMemory}
use Rattle.byte_streams.specs.declared.exact.WholeFault.{WholeFault}
use Rattle.byte_streams.specs.declared.exact.WholeFault.TheVariants as whole
use Rattle.byte_streams.specs.Counting.{one_more}
use Rattle.byte_streams.specs.Whole.{after_whole_fault}
use Rattle.byte_streams.specs.Faults.{TellsWholeFault}
use Rattle.microsoft_messages.specs.declared.pac.error.PacError.{PacError}
use Rattle.microsoft_messages.specs.declared.pac.error.PacError.TheVariants.{IoError, InvalidRange, Memory}

-- the kind of a device's fault
abbrev pub of_kind : ErrorKind → PacError
of_kind OutOfMemory = Memory
of_kind kind = IoError kind

-- what is answered where bytes are missing: the fault of the device that stopped, or that they end
abbrev pub short_of : Option ErrorKind → PacError
short_of None = IoError UnexpectedEof
short_of (Some kind) = IoError kind

-- what is answered where a buffer ends past the bytes
abbrev pub range_of : Option ErrorKind → PacError
range_of None = InvalidRange
range_of (Some kind) = IoError kind

-- the fault of a write that stopped
abbrev pub of_whole_fault : WholeFault → PacError
of_whole_fault whole.Full = IoError WriteZero
of_whole_fault (whole.Failed kind) = IoError kind
of_whole_fault whole.Memory = Memory

-- a write stopped with this fault: the device counted it and holds its kind
pub record IsWriteFault (old new : ℕ) (last : Option ErrorKind) (fault : PacError) : Type 0 where
  pub stop : WholeFault
  pub answered : fault ≡ of_whole_fault stop
  pub counted : new ≡ after_whole_fault old stop
  pub told : TellsWholeFault last stop

-- the device failed with this fault, and counted it
pub record IsDeviceFault (old new : ℕ) (last : Option ErrorKind) (fault : PacError) : Type 0 where
  pub cause : ErrorKind
  pub answered : fault ≡ IoError cause
  pub counted : new ≡ one_more old
  pub told : last ≡ Some cause
