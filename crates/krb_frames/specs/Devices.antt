-- What serving does to its three devices.
use Rattle.std.specs.Prelude.{◌≡◌, ℕ, List, Option, Some, Result}
use Rattle.std.specs.Io.KnownBytes.{Appends}
use Rattle.krb_time.specs.Units.{Micros}
use Rattle.krb_frames.specs.Serving.{CountsReadFault, CountsWriteFault, DeviceBytes, IsServed, KeepsReadCounts, KeepsWriteCount, Left, Serves, WhereKnown, at, device_bytes}
use Rattle.krb_frames.specs.declared.fault.ServeFault.{ServeFault}
use Rattle.krb_frames.specs.Moments.{each_time}

-- the bytes that a device has left to give, or holds, where they are known; and how many of its calls failed
pub record Device : Type 0 where
  pub bytes : Option (List ℕ)
  pub failed : ℕ

-- the devices that random bytes and messages are read from, and the one that replies are written to
pub record Devices : Type 0 where
  pub words : Device
  pub reader : Device
  pub writer : Device

-- A device with these bytes, where they are known, and this count of failed calls.
abbrev pub device : Option (List ℕ) → ℕ → Device
device bytes failed = record { bytes = bytes; failed = failed }

-- The devices of the random bytes, of the messages and of the replies.
abbrev pub devices : Device → Device → Device → Devices
devices words reader writer = record { words = words; reader = reader; writer = writer }

-- their bytes
abbrev pub bytes_of : Devices → DeviceBytes
bytes_of own = device_bytes own.reader.bytes own.words.bytes own.writer.bytes

-- What was written, the answer and what is left are those of serving the stream, each message at some moment, for a responder that replies
-- so and may want memory for these messages.
abbrev pub IsOutputByClock : (List ℕ → Micros → List ℕ → Option (List ℕ) → Type 0) → (List ℕ → Type 0) → Devices → Devices → Result ℕ ServeFault → Type 0
IsOutputByClock replies wants old new result = Serves replies wants (λ _. Unit {0}) (bytes_of old) (bytes_of new) result

-- The same with each message at this moment.
abbrev pub IsOutputAt : (List ℕ → Micros → List ℕ → Option (List ℕ) → Type 0) → (List ℕ → Type 0) → Micros → Devices → Devices → Result ℕ ServeFault → Type 0
IsOutputAt replies wants moment old new result = WhereKnown old.reader.bytes (λ stream. WhereKnown old.words.bytes (λ words.
    (written : List ℕ) × (left : Left) × Appends old.writer.bytes new.writer.bytes written
    × (new.reader.bytes ≡ Some left.stream) × (new.words.bytes ≡ Some left.words)
    × IsServed replies wants (at (each_time moment) stream words) written result left))

-- a fault of a device is answered where a call of it failed, and no failed call is passed over
pub record AnswersFailures (old new : Devices) (result : Result ℕ ServeFault) : Type 0 where
  pub read_failed : CountsReadFault result old.reader.failed new.reader.failed old.words.failed new.words.failed
  pub write_failed : CountsWriteFault result old.writer.failed new.writer.failed
  pub read_kept : KeepsReadCounts result old.reader.failed new.reader.failed old.words.failed new.words.failed
  pub write_kept : KeepsWriteCount result old.writer.failed new.writer.failed

-- serving at this moment, of the devices' bytes and of their failures
abbrev pub ServesAt : (List ℕ → Micros → List ℕ → Option (List ℕ) → Type 0) → (List ℕ → Type 0) → Micros → Devices → Devices → Result ℕ ServeFault → Type 0
ServesAt replies wants moment old new result = IsOutputAt replies wants moment old new result × AnswersFailures old new result
