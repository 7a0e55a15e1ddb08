-- What a sink tells of the last write that failed: the device's own kind of fault, and none where it took nothing.
use Rattle.std.specs.Prelude.{◌≡◌, ◌≢◌, ℕ, ◌<◌, Option, None, Some, ⊤, Result, MatchResult}
use Rattle.std.specs.declared.io.ErrorKind.{ErrorKind}
use Rattle.std.specs.declared.io.ErrorKind.TheVariants.{Interrupted}
use Rattle.byte_streams.specs.declared.sink.SinkFault.{SinkFault}
use Rattle.byte_streams.specs.declared.sink.SinkFault.TheVariants as some
use Rattle.byte_streams.specs.declared.exact.WholeFault.{WholeFault}
use Rattle.byte_streams.specs.declared.exact.WholeFault.TheVariants as whole

-- the sink names the device's kind of fault, if the device failed
abbrev pub TellsFault : Option ErrorKind → SinkFault → Type 0
TellsFault last (some.Failed kind) = last ≡ Some kind
TellsFault last some.Memory = ⊤

-- what the sink says after a write of so many bytes: no fault of the device, if it took none of them, or the write's own fault
abbrev pub TellsWrite : Option ErrorKind → Result ℕ SinkFault → ℕ → Type 0
TellsWrite last r offered = MatchResult r (λ n. n ≡ 0 → 0 < offered → last ≡ None) (TellsFault last)

-- the fault isn't that of an interrupted write, which is tried again
abbrev pub IsRetried : SinkFault → Type 0
IsRetried (some.Failed kind) = kind ≢ Interrupted
IsRetried some.Memory = ⊤

-- nor is the fault of a whole write
abbrev pub IsWholeRetried : WholeFault → Type 0
IsWholeRetried whole.Full = ⊤
IsWholeRetried (whole.Failed kind) = kind ≢ Interrupted
IsWholeRetried whole.Memory = ⊤

-- what the sink says after a whole write that stopped
abbrev pub TellsWholeFault : Option ErrorKind → WholeFault → Type 0
TellsWholeFault last whole.Full = last ≡ None
TellsWholeFault last (whole.Failed kind) = last ≡ Some kind
TellsWholeFault last whole.Memory = ⊤
