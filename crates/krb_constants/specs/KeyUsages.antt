-- Key usages in definitions (RFC 3961, section 3; RFC 4120, section 7.5.1).
use Rattle.std.specs.Prelude.{ℕ, ℤ}
use Rattle.std.specs.Int.{cast_unsigned, w32}

-- the key usage of a constant, as the 32 bits from which keys are derived
abbrev pub key_usage : ℤ → ℕ
key_usage = cast_unsigned w32
