-- The time of a line: ISO 8601 in UTC, with microseconds (RFC 3339, section 5.6).
use Rattle.std.specs.Prelude.{◌≡◌, ℕ, ◌/◌, ◌%◌, List, ◌++◌, codes, refl}
use Rattle.std.specs.Fmt.{decimal, digits}
use Rattle.asn1_leaves.specs.declared.date.GeneralizedTime.{GeneralizedTime}

-- a number below 100
abbrev pub two_digits : ℕ → List ℕ
two_digits number = decimal (number / 10) ++ decimal (number % 10)

unfoldable pub date_text : GeneralizedTime → List ℕ
date_text t = two_digits (t.year / 100) ++ two_digits (t.year % 100) ++ codes "-" ++ two_digits t.month ++ codes "-" ++ two_digits t.day

unfoldable pub time_text : GeneralizedTime → List ℕ
time_text t = two_digits t.hour ++ codes ":" ++ two_digits t.minute ++ codes ":" ++ two_digits t.second

-- microseconds below 1,000,000
unfoldable pub fraction_text : ℕ → List ℕ
fraction_text micros = two_digits (micros / 10000) ++ two_digits (micros / 100 % 100) ++ two_digits (micros % 100)

abbrev pub stamp_text : GeneralizedTime → ℕ → List ℕ
stamp_text second micros = date_text second ++ codes "T" ++ time_text second ++ codes "." ++ fraction_text micros ++ codes "Z"

pub fraction_text-17 : fraction_text 17 ≡ codes "000017"
unfolding digits fraction_text
fraction_text-17 = refl
