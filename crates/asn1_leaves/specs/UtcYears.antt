-- The years of which a UTCTime writes two digits (RFC 5280, section 4.1.2.5.1).
use Rattle.std.specs.Prelude.{ℕ}
use Rattle.std.specs.Int.{IsInRange}

-- A UTCTime is of the years 1950 to 2049 (RFC 5280, section 4.1.2.5.1). Test: `utc_times` of `identifiers.rt`.
abbrev pub IsUtcYear : ℕ → Type 0
IsUtcYear = IsInRange 1950 2049
