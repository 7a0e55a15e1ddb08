-- What a watched device shows.
use Rattle.std.specs.Prelude.{ℕ, Option}
use Rattle.std.specs.declared.io.ErrorKind.{ErrorKind}
use Rattle.byte_streams.specs.declared.watched.Watched.{Watched}

-- the device
abbrev pub watched_device : {D : Type 0} → Watched D → D
watched_device w = w.device

-- how many of its calls failed
abbrev pub watched_failures : {D : Type 0} → Watched D → ℕ
watched_failures w = w.failures

-- why the last of them failed: none where it took nothing
abbrev pub watched_fault : {D : Type 0} → Watched D → Option ErrorKind
watched_fault w = w.last_fault
