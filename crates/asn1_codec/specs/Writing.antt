-- What a serializer has written, and what a call adds to it.
use Rattle.std.specs.Prelude.{◌≡◌, ℕ, ◌^◌, ◌≤◌, Bool, true, false, IsTrue, List, [], length, take, Option, None, Some, ◌⊎◌}
use Rattle.std.specs.Borrow.{GName}
use Rattle.std.specs.declared.io.ErrorKind.{ErrorKind}
use Rattle.std.specs.Io.KnownBytes.{Appends}
use Rattle.byte_streams.specs.Counting.{one_more}
use Rattle.byte_streams.specs.Room.{TakenRoom, IsPast, IsUnbounded}
use Rattle.asn1_der.specs.declared.error.Asn1DerError.{Asn1DerError}
use Rattle.asn1_der.specs.declared.error.Asn1DerError.TheVariants.{InvalidSink, Memory, Other}
use Rattle.asn1_der.specs.declared.error.Unsupported.{Unsupported}
use Rattle.asn1_der.specs.Refusals.{RefusedAs}

-- the bytes that the sink holds, and how many more it takes, where they are known; whether a call failed; how many
-- calls of the sink failed, and why the last of them did; whether the bytes are in memory that grows; the
-- references that are written through
pub record Writing : Type 0 where
  pub held : Option (List ℕ)
  pub room : Option ℕ
  pub failed : Bool
  pub faults : ℕ
  pub kind : Option ErrorKind
  pub grows : Bool
  pub through : List GName

-- a call wrote these bytes after those that were there
pub record Wrote (bytes : List ℕ) (old new : Writing) : Type 0 where
  pub held : Appends old.held new.held bytes
  pub room : TakenRoom old.room new.room (length bytes)
  pub sound_before : old.failed ≡ false
  pub sound_after : new.failed ≡ false
  pub faults : new.faults ≡ old.faults
  pub grows : new.grows ≡ old.grows
  pub same : new.through ≡ old.through

-- the bytes are more than a length can say
abbrev pub IsTooLong : List ℕ → Type 0
IsTooLong bytes = 2 ^ 64 ≤ length bytes

-- How a call that was to write these bytes may fail. `Memory`: the sink grows, or the bytes are 2^64 or more. The sink's own
-- kind: its room is unbounded. `InvalidSink`: the bytes exceed its room.
abbrev pub IsSinkFault : List ℕ → Writing → Writing → Asn1DerError → Type 0
IsSinkFault bytes old new Memory = (new.faults ≡ old.faults) × (IsTrue old.grows ⊎ IsTooLong bytes)
IsSinkFault bytes old new (Other kind) = (new.faults ≡ one_more old.faults) × (new.kind ≡ Some kind) × IsUnbounded old.room
IsSinkFault bytes old new InvalidSink = (new.faults ≡ one_more old.faults) × (new.kind ≡ None) × IsPast old.room (length bytes)
IsSinkFault bytes old new fault = ⊥

-- a call that was to write these bytes failed, as each does after a failed one, or by a fault of the sink or of the
-- memory, which no value meets that its type refuses; a front of the bytes is written
pub record NotWrote (refusal : Option Unsupported) (bytes : List ℕ) (old new : Writing) (fault : Asn1DerError) : Type 0 where
  pub front : (n : ℕ) × Appends old.held new.held (take n bytes)
  pub failed : new.failed ≡ true
  pub grows : new.grows ≡ old.grows
  pub same : new.through ≡ old.through
  pub cause : ((old.failed ≡ true) × (fault ≡ InvalidSink) × (new.faults ≡ old.faults))
      ⊎ ((old.failed ≡ false) × IsSinkFault bytes old new fault × ((refusal ≡ None) ⊎ IsTooLong bytes))

-- the writing after a failed call
abbrev pub halted : Writing → Writing
halted w = record {
  held = w.held;
  room = w.room;
  failed = true;
  faults = w.faults;
  kind = w.kind;
  grows = w.grows;
  through = w.through;
}

-- a call wrote a value that its type doesn't refuse, and gave its length
abbrev pub WroteValue : Option Unsupported → List ℕ → Writing → Writing → ℕ → Type 0
WroteValue refusal bytes old new count = Wrote bytes old new × (count ≡ length bytes) × (refusal ≡ None)

-- a call wrote nothing of a value that its type refuses, or failed
abbrev pub NotWroteValue : Option Unsupported → List ℕ → Writing → Writing → Asn1DerError → Type 0
NotWroteValue refusal bytes old new fault =
    (RefusedAs refusal fault × Wrote [] old new) ⊎ NotWrote refusal bytes old new fault

-- a call on a whole serializer wrote nothing of a value that its type refuses, or failed; after a failed call only its sink is known
abbrev pub NotWroteTo : Option Unsupported → List ℕ → Writing → Writing → Asn1DerError → Type 0
NotWroteTo refusal bytes old new fault =
    (RefusedAs refusal fault × Wrote [] old new) ⊎ NotWrote refusal bytes old (halted new) fault

-- a call wrote the values before the first that its type refuses, or failed
abbrev pub NotWroteFields : Option Unsupported → List ℕ → Writing → Writing → Asn1DerError → Type 0
NotWroteFields refusal bytes old new fault =
    (RefusedAs refusal fault × ((n : ℕ) × Wrote (take n bytes) old new)) ⊎ NotWrote None bytes old new fault

-- the length of a spelling is known, or the type refuses the value, or no number says it
abbrev pub Measured : Option Unsupported → List ℕ → ℕ → Type 0
Measured refusal bytes count = (count ≡ length bytes) × (refusal ≡ None)

-- the length of a spelling isn't known: the type refuses the value, or no number says the length
abbrev pub NotMeasured : Asn1DerError → Option Unsupported → List ℕ → Asn1DerError → Type 0
NotMeasured too_long refusal bytes fault = RefusedAs refusal fault ⊎ ((fault ≡ too_long) × IsTooLong bytes)

-- what a fault that wrote nothing leaves: `Memory` halts the writing, another fault changes nothing
abbrev pub left_by : Asn1DerError → Writing → Writing
left_by Memory w = halted w
left_by fault w = w

-- what a sink shows of itself, as a writing
abbrev pub at_sink : {W : Type 0} → (W → Option (List ℕ)) → (W → Option ℕ) → (W → ℕ) → (W → Option ErrorKind) → Bool → (W → List GName) → Bool → W → Writing
at_sink written room faults kind grows through failed w = record {
  held = written w;
  room = room w;
  failed = failed;
  faults = faults w;
  kind = kind w;
  grows = grows;
  through = through w;
}
