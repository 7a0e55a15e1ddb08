-- What is known of a device whose bytes stopped too soon.
use Rattle.std.proofs.Common.{◌≡◌, ℕ, ◌<◌, List, Option, None, Some, unwrap_or, refl, inl, inr}
use Rattle.std.specs.Io.KnownBytes.{IsAtEnd}
use Rattle.std.specs.declared.io.ErrorKind.{ErrorKind}
use Rattle.std.specs.declared.io.ErrorKind.TheVariants.{UnexpectedEof}
use Rattle.byte_streams.specs.Stops.{IsStop, FailedAtMostOnce, IsReadStop}

-- a source that was read up to its end or its first fault failed once at most
pub stopped-once : (fault last : Option ErrorKind) (old new : ℕ) → IsStop old new last fault → FailedAtMostOnce old new
stopped-once None last old new stop = inl stop
stopped-once (Some kind) last old new stop = inr stop.0

-- fewer bytes came than were asked for
pub short-stop : (after : Option (List ℕ)) (fault last : Option ErrorKind) (old new count size : ℕ) → IsStop old new last fault
    → (fault ≡ None → count < size → IsAtEnd after) → count < size → IsReadStop after old new last (unwrap_or fault UnexpectedEof)
short-stop after None last old new count size stop ends few = inl (refl, stop, ends refl few)
short-stop after (Some kind) last old new count size stop ends few = inr stop
