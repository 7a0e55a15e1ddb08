-- Clock skew (RFC 4120, sections 1.6, 5.9.1): by how much two clocks that agree may differ.
use Rattle.std.specs.Prelude.{◌+◌, ◌≤◌, nat_lt, Bool, ◌||◌}
use Rattle.krb_time.specs.Units.{Micros}

-- The clock skew is at most a day, in microseconds.
abbrev pub IsWithinDay : Micros → Type 0
IsWithinDay skew = skew ≤ 86400000000

-- a moment is before another one by more than the skew
abbrev pub is_before : Micros → Micros → Micros → Bool
is_before skew moment other = nat_lt (moment + skew) other

-- two moments differ by more than the skew
abbrev pub is_far : Micros → Micros → Micros → Bool
is_far skew moment other = is_before skew moment other || is_before skew other moment
