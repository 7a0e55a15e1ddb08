-- What stopped a source before its end, or a write before all was written.
use Rattle.std.specs.Prelude.{◌≡◌, ◌⊎◌, ℕ, List, Option, Some, MatchOption}
use Rattle.std.specs.Io.KnownBytes.{IsAtEnd}
use Rattle.std.specs.declared.io.ErrorKind.{ErrorKind}
use Rattle.std.specs.declared.io.ErrorKind.TheVariants.{WriteZero, OutOfMemory, UnexpectedEof}
use Rattle.byte_streams.specs.Counting.{one_more}
use Rattle.byte_streams.specs.Whole.{after_whole_fault}
use Rattle.byte_streams.specs.Faults.{TellsWholeFault}
use Rattle.byte_streams.specs.declared.exact.WholeFault.{WholeFault}
use Rattle.byte_streams.specs.declared.exact.WholeFault.TheVariants as whole_fault

-- the device came to its end and no call failed, or it failed with this kind of fault and counted it
abbrev pub IsStop : ℕ → ℕ → Option ErrorKind → Option ErrorKind → Type 0
IsStop old new last fault = MatchOption fault (new ≡ old) (λ kind. (new ≡ one_more old) × (last ≡ Some kind))

-- no call of the device failed, or one did and was counted
abbrev pub FailedAtMostOnce : ℕ → ℕ → Type 0
FailedAtMostOnce old new = (new ≡ old) ⊎ (new ≡ one_more old)

-- a read stopped with this kind: the bytes ended and no call failed, or the device failed with this kind of fault and counted it
abbrev pub IsReadStop : Option (List ℕ) → ℕ → ℕ → Option ErrorKind → ErrorKind → Type 0
IsReadStop after old new last kind =
    ((kind ≡ UnexpectedEof) × (new ≡ old) × IsAtEnd after) ⊎ ((new ≡ one_more old) × (last ≡ Some kind))

-- what a write that stopped is answered by
abbrev pub stop_kind : WholeFault → ErrorKind
stop_kind whole_fault.Full = WriteZero
stop_kind (whole_fault.Failed kind) = kind
stop_kind whole_fault.Memory = OutOfMemory

-- a write stopped with this fault: the device counted it and holds its kind
pub record IsWriteStop (old new : ℕ) (last : Option ErrorKind) (kind : ErrorKind) : Type 0 where
  pub stop : WholeFault
  pub answered : kind ≡ stop_kind stop
  pub counted : new ≡ after_whole_fault old stop
  pub told : TellsWholeFault last stop
