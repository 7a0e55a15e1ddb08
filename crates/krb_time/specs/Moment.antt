use Rattle.std.specs.Prelude.{◌<◌}
use Rattle.krb_time.specs.Units.{Micros}

-- the microseconds since 0000-01-01 00:00:00 UTC are those of a moment of the years 0 to 9999, which have
-- 315,569,520,000 seconds
abbrev pub IsMoment : Micros → Type 0
IsMoment micros = micros < 315569520000000000
