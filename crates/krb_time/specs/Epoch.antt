-- A machine's clock counts from 1970-01-01 00:00:00 UTC.
use Rattle.std.specs.Prelude.{ℕ, ◌+◌, ◌-◌, ◌*◌, min}
use Rattle.krb_time.specs.Units.{Micros, Seconds}
use Rattle.krb_time.specs.declared.calendar.TheConstants.{EPOCH}

-- The moment in microseconds that is so many seconds and microseconds after 1970-01-01 00:00:00 UTC.
abbrev pub micros_after_epoch : Seconds → Micros → Micros
micros_after_epoch seconds micros = (EPOCH + seconds) * 1000000 + micros

-- The seconds since 1970-01-01 00:00:00 UTC in 32 bits: 0 before that, and the greatest number past it.
abbrev pub since_epoch : Seconds → ℕ
since_epoch seconds = min (seconds - EPOCH) 4294967295
