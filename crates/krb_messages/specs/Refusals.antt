-- How a request is judged, and the codes of errors (RFC 4120, section 7.5.9), whose names are the constants'.
use Rattle.std.specs.Prelude.{ℕ, Result, Ok, Err}
use Rattle.krb_messages.specs.declared.refusal.Refusal.{Refusal}
use Rattle.krb_messages.specs.declared.refusal.Refusal.TheVariants.{Krb, Memory}

abbrev pub Code : Type 0
Code = ℕ

-- memory aside, what was judged is an outcome of a table's: a value, or the code of an error
abbrev pub IsJudged : {T : Type 0} → (Result T Code → Type 0) → Result T Refusal → Type 0
IsJudged gives (Ok value) = gives (Ok value)
IsJudged gives (Err (Krb code)) = gives (Err code)
IsJudged gives (Err Memory) = Unit {0}
