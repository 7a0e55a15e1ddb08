-- The moments that messages tell, as a time and its microseconds (RFC 4120, sections 5.2.3, 5.2.4), in microseconds.
use Rattle.std.specs.Prelude.{◌+◌, ◌*◌, nat_lt, Option, None, Some, ℤ, pos, negsuc, if◌then◌else◌}
use Rattle.krb_time.specs.Units.{Micros, Seconds}

-- none where the microseconds aren't part of a second
abbrev pub moment_at : Seconds → ℤ → Option Micros
moment_at second (pos micros) = if nat_lt micros 1000000 then Some (second * 1000000 + micros) else None
moment_at second (negsuc n) = None
