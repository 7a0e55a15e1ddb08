-- The texts of messages about settings files.
use Rattle.std.specs.Prelude.{ℕ, nat_le, if◌then◌else◌, List, [], ◌++◌, length, codes, string_bytes, Option, None, Some}
use Rattle.std.specs.List.{flat_map, join_by}
use Rattle.std.specs.Option.{unwrap_or}
use Rattle.std.specs.Fmt.{◌++?◌, decimal, debug_items, debug_str}
use Rattle.toml.specs.Data.{as_str}
use Rattle.toml.specs.View.{view}
use Rattle.toml.specs.declared.value.Value.{Value}
use Rattle.krb_settings.specs.Fields.{field_name}
use Rattle.krb_settings.specs.declared.field.Field.{Field}
use Rattle.krb_settings.specs.declared.place.Place.{Place}
use Rattle.krb_settings.specs.declared.place.Place.TheVariants as place
use Rattle.krb_settings.specs.declared.remark.Remark.{Remark}
use Rattle.krb_settings.specs.declared.warning.Found.{Found}
use Rattle.krb_settings.specs.declared.warning.TheConstants.{REALM_CONTROL, REALM_AT, REALM_BLANK, REALM_LOWER, NAME_SLASH, NAME_AT, NAME_CONTROL, NAME_BLANK, PASSWORD_EMPTY, PASSWORD_SHORT, PASSWORD_BREAK, PASSWORD_EXAMPLE, PASSWORD_ROUNDS, KEY_EXAMPLE, KEY_REPEATED, KEY_PARITY, KEY_WEAK, KEY_REALM}
use Rattle.krb_settings.specs.declared.warning.Warning.{Warning}
use Rattle.krb_settings.specs.declared.warning.Warning.TheVariants as warning
use Rattle.krb_settings.specs.declared.rules.Slip.{Slip}
use Rattle.krb_settings.specs.declared.rules.Slip.TheVariants as slip

-- what messages about a table begin with: nothing for the file's own table, and the number of an account
abbrev pub place_text : Place → List ℕ
place_text place.File = []
place_text (place.Account number) = codes "account " ++ decimal number ++ codes ": "

-- why a text is no name
abbrev pub slip_text : Slip → List ℕ
slip_text slip.Empty = codes "is empty"
slip_text (slip.TooLong count) = codes "has " ++ decimal count ++ codes " characters"
slip_text (slip.NotAscii number) = codes "has a character that is not ASCII at " ++ decimal number
slip_text slip.Other = codes "is no name"

-- the names of fields, `, ` between each two
abbrev pub names_text : List Field → List ℕ
names_text = join_by field_name (codes ", ")

-- names of fields with `, ` before each
abbrev pub further_names_text : List Field → List ℕ
further_names_text = flat_map (λ field. codes ", " ++ field_name field)

-- what is said of a slip
abbrev pub warning_text : Warning → List ℕ
warning_text warning.RealmControl = REALM_CONTROL.now
warning_text warning.RealmAt = REALM_AT.now
warning_text warning.RealmBlank = REALM_BLANK.now
warning_text warning.RealmLower = REALM_LOWER.now
warning_text warning.NameSlash = NAME_SLASH.now
warning_text warning.NameAt = NAME_AT.now
warning_text warning.NameControl = NAME_CONTROL.now
warning_text warning.NameBlank = NAME_BLANK.now
warning_text warning.PasswordEmpty = PASSWORD_EMPTY.now
warning_text warning.PasswordShort = PASSWORD_SHORT.now
warning_text warning.PasswordBreak = PASSWORD_BREAK.now
warning_text warning.PasswordExample = PASSWORD_EXAMPLE.now
warning_text warning.PasswordRounds = PASSWORD_ROUNDS.now
warning_text warning.KeyExample = KEY_EXAMPLE.now
warning_text warning.KeyRepeated = KEY_REPEATED.now
warning_text warning.KeyParity = KEY_PARITY.now
warning_text warning.KeyWeak = KEY_WEAK.now
warning_text warning.KeyOfRealm = KEY_REALM.now
warning_text (warning.KeyOfAccount number) = codes "key is account " ++ decimal number ++ codes "'s too: expected a key of its own"

-- a warning of a table
abbrev pub found_text : Found → List ℕ
found_text found = codes "warning: " ++ place_text found.place ++ warning_text found.warning

-- a word of at most 30 bytes is quoted and escaped, as by `{:?}`. Of a longer one stands its length. Where a quoted word isn't
-- ASCII, std states no text
abbrev pub word_text : List ℕ → Option (List ℕ)
word_text word = if nat_le (length word) 30 then debug_str word else Some (codes "of " ++ decimal (length word) ++ codes " bytes")

-- a component is quoted and escaped, as by `{:?}`. A value that is no text is shown as the empty one. Where a component isn't
-- ASCII, std states no text
abbrev pub component_text : Value → Option (List ℕ)
component_text component = debug_str (unwrap_or (as_str (view component)) [])

-- the components of a name: `[` before the first, `, ` before each other, and `]` at the end. It has a text if each component has
abbrev pub components_text : List Value → Option (List ℕ)
components_text components = debug_items component_text (codes "[") components ++? Some (codes "]")

-- what precedes the words of a remark: its line, if it has one
abbrev pub line_text : Option ℕ → List ℕ
line_text None = codes ": "
line_text (Some line) = codes ":" ++ decimal line ++ codes ": "

-- what follows the file's name: `:LINE: WORDS` or `: WORDS`
abbrev pub remark_text : Remark → List ℕ
remark_text remark = line_text remark.line ++ string_bytes remark.text
