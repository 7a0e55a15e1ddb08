-- The order of lines: one line of a realm before all accounts, and the accounts in the order of their names, each name once.
use Rattle.std.specs.Prelude.{ℕ, ◌+◌, Bool, true, false, if◌then◌else◌, List, [], ◌∷◌, length, Option, None, Some, Result, Ok, Err}
use Rattle.std.specs.List.{position_from}
use Rattle.std.specs.Option.{unwrap_or}
use Rattle.std.specs.Ordering.{is_lt}
use Rattle.picky_asn1.specs.Bytes.{Bytes}
use Rattle.krb_realm_accounts.specs.Accounts.{name_cmp}
use Rattle.krb_account_texts.specs.Steps.{◌>>=◌}
use Rattle.krb_account_texts.specs.declared.fault.LineFault.{LineFault}
use Rattle.krb_account_texts.specs.declared.fault.LineFault.TheVariants as fault
use Rattle.krb_account_texts.specs.declared.fault.TextFault.{TextFault}
use Rattle.krb_account_texts.specs.declared.fault.TextFault.TheVariants as text_fault
use Rattle.krb_account_texts.specs.declared.line.Line.{Line}
use Rattle.krb_account_texts.specs.declared.line.Line.TheVariants as line
use Rattle.krb_account_texts.specs.declared.line.RealmLine.{RealmLine}

-- A name is before another: by the first component that differs, and there by the first character that differs.
abbrev pub is_before : List Bytes → List Bytes → Bool
is_before name other = is_lt (name_cmp name other)

-- A line may follow, where there is a realm's line before it or not, and this is the name of the account before it, or no component.
abbrev pub judged_next : Bool → List Bytes → Line → Result (Unit {0}) LineFault
judged_next has_realm last (line.Comment text) = Ok tt
judged_next has_realm last (line.Realm own) = if has_realm then Err fault.SecondRealm else Ok tt
judged_next has_realm last (line.Account own) =
    if has_realm then (if is_before last own.name.name_string.0 then Ok tt else Err fault.Order) else Err fault.NoRealm

-- Whether there is a realm's line up to this one.
abbrev pub realm_after : Bool → Line → Bool
realm_after has_realm (line.Realm own) = true
realm_after has_realm _ = has_realm

-- The name of the last account up to this line.
abbrev pub name_after : List Bytes → Line → List Bytes
name_after last (line.Account own) = own.name.name_string.0
name_after last _ = last

-- The refusal of the line of this number.
abbrev pub of_line : ℕ → Result (Unit {0}) LineFault → Result (Unit {0}) TextFault
of_line number (Ok done) = Ok done
of_line number (Err e) = Err (text_fault.Line number e)

-- The lines from the one of this number on are in order, after lines with a realm's line or without, the last of whose accounts has this
-- name. A text without a realm lacks its line after the last one.
abbrev pub in_order : ℕ → Bool → List Bytes → List Line → Result (Unit {0}) TextFault
in_order number has_realm last [] = if has_realm then Ok tt else Err (text_fault.Line number fault.NoRealm)
in_order number has_realm last (own ∷ lines) =
    of_line number (judged_next has_realm last own) >>= λ _. in_order (number + 1) (realm_after has_realm own) (name_after last own) lines

-- The first realm's line.
abbrev pub realm_among : List Line → Option RealmLine
realm_among [] = None
realm_among (line.Realm own ∷ lines) = Some own
realm_among (_ ∷ lines) = realm_among lines

-- The line is an account's whose name is after this one.
abbrev pub is_after : List Bytes → Line → Bool
is_after name (line.Account own) = is_before name own.name.name_string.0
is_after name _ = false

-- The place of a further account of this name: before the first account whose name is after it, else at the end.
abbrev pub place_for : List Bytes → List Line → ℕ
place_for name lines = unwrap_or (position_from (is_after name) 0 lines) (length lines)
