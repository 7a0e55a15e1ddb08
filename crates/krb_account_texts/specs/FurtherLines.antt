-- What follows the key in an account's line, where the account has attributes or older keys: its last second, its greatest lifetime, its
-- marks, and a field for each older key, the newest first.
use Rattle.std.specs.Prelude.{ℕ, ◌-◌, ◌==◌, ◌||◌, nat_lt, Bool, true, false, if◌then◌else◌, List, [], ◌++◌, length, codes}
use Rattle.std.specs.List.{flat_map}
use Rattle.std.specs.Fmt.{decimal}
use Rattle.hex.specs.Hex.{encode_lower}
use Rattle.krb_time.specs.declared.calendar.TheConstants.{EPOCH}
use Rattle.krb_realm_accounts.specs.Account.{AccountKeyRecord, AccountRecord, is_set}
use Rattle.krb_realm_accounts.specs.declared.attributes.Attributes.{Attributes}
use Rattle.krb_settings.specs.Fields.{suite_name}

-- The last second of the account, counted from 1970-01-01 00:00:00, or `-` if it doesn't end.
abbrev pub ends_text : ℕ → List ℕ
ends_text ends = if ends == 0 then codes "-" else decimal (ends - EPOCH)

-- The greatest lifetime in seconds, or `-` if the account has none of its own.
abbrev pub lifetime_text : ℕ → List ℕ
lifetime_text lifetime = if lifetime == 0 then codes "-" else decimal lifetime

-- The words of the marks that are set: the account is switched off, its password has to be changed, there is no ticket for it as a service.
-- There is a comma between each two, and `-` stands for none.
unfoldable pub marks_text : Bool → Bool → Bool → List ℕ
marks_text false false false = codes "-"
marks_text true false false = codes "off"
marks_text false true false = codes "must-change"
marks_text true true false = codes "off,must-change"
marks_text false false true = codes "no-service"
marks_text true false true = codes "off,no-service"
marks_text false true true = codes "must-change,no-service"
marks_text true true true = codes "off,must-change,no-service"

-- The words of the marks of attributes.
abbrev pub marks_of : Attributes → List ℕ
marks_of attributes = marks_text attributes.is_off attributes.must_change attributes.is_no_service

-- An older key: its suite, its kvno and the key, with a colon between each two.
abbrev pub older_text : AccountKeyRecord → List ℕ
older_text own = suite_name own.suite ++ (codes ":" ++ (decimal own.kvno ++ (codes ":" ++ encode_lower own.key)))

-- Each older key in a field of its own.
abbrev pub former_text : List AccountKeyRecord → List ℕ
former_text = flat_map (λ own. codes "\t" ++ older_text own)

-- The account has attributes or older keys.
abbrev pub has_further : AccountRecord → Bool
has_further own = is_set own.attributes || nat_lt 0 (length own.former)

-- What follows the key: nothing, or these fields.
abbrev pub further_fields : AccountRecord → List ℕ
further_fields own =
    if has_further own then
    codes "\t" ++ (ends_text own.attributes.ends ++ (codes "\t" ++ (lifetime_text own.attributes.lifetime ++ (codes "\t" ++ (marks_of own.attributes ++ former_text own.former)))))
    else []
