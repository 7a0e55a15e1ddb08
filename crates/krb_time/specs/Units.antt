-- Spans of time and points in it: these are distinguished by name alone.
use Rattle.std.specs.Prelude.{ℕ}

abbrev pub Micros : Type 0
Micros = ℕ

abbrev pub Seconds : Type 0
Seconds = ℕ
