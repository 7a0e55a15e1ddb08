-- Why a command was not done: its text and the program's status.
use Rattle.std.specs.Prelude.{◌≡◌, ℕ, List, codes, Option, IfSome, string_bytes}
use Rattle.krb_commands.specs.Printable.{printable_text}
use Rattle.krb_commands.specs.declared.stop.Stop.{Stop}
use Rattle.krb_commands.specs.declared.stop.Stop.TheVariants.{Refused, Failed, Usage, Memory}

-- 1 for a refusal, and else 2
abbrev pub status_of : Stop → ℕ
status_of (Refused text) = 1
status_of (Failed text) = 2
status_of (Usage text) = 2
status_of Memory = 2

-- The line of a stop: its text, in which each octet that isn't printable is a backslash, `x` and two hexadecimal digits.
abbrev pub stop_text : Stop → List ℕ
stop_text (Refused text) = printable_text (string_bytes text)
stop_text (Failed text) = printable_text (string_bytes text)
stop_text (Usage text) = printable_text (string_bytes text)
stop_text Memory = codes "out of memory"

-- The stop is a refusal with this text, if the text is known, or memory ran out.
abbrev pub IsRefusal : Option (List ℕ) → Stop → Type 0
IsRefusal words (Refused text) = IfSome words (λ shown. string_bytes text ≡ shown)
IsRefusal words (Failed text) = ⊥
IsRefusal words (Usage text) = ⊥
IsRefusal words Memory = Unit {0}

-- The stop is a failure with this text, if the text is known, or memory ran out.
abbrev pub IsFailure : Option (List ℕ) → Stop → Type 0
IsFailure words (Refused text) = ⊥
IsFailure words (Failed text) = IfSome words (λ shown. string_bytes text ≡ shown)
IsFailure words (Usage text) = ⊥
IsFailure words Memory = Unit {0}

-- The stop says that the program doesn't take its arguments, with this text, if the text is known, or memory ran out.
abbrev pub IsUsage : Option (List ℕ) → Stop → Type 0
IsUsage words (Refused text) = ⊥
IsUsage words (Failed text) = ⊥
IsUsage words (Usage text) = IfSome words (λ shown. string_bytes text ≡ shown)
IsUsage words Memory = Unit {0}
