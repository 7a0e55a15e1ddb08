-- The fields of the tables of a settings file, and what each may hold.
use Rattle.std.specs.Prelude.{ℕ, nat_eq, ok_or, pos, Bool, if◌then◌else◌, List, [], ◌∷◌, codes, Option, None, Some, Result, Ok, Err}
use Rattle.std.specs.List.{find, list_any, list_all}
use Rattle.std.specs.Cmp.Lexicographic.{pointwise}
use Rattle.hex.specs.Hex.{decode_of}
use Rattle.toml.specs.Data.{Data, string, integer, array, Items, Members, no_members, member, get_member}
use Rattle.krb_crypto.specs.declared.suite.CipherSuite.{CipherSuite}
use Rattle.krb_crypto.specs.declared.suite.CipherSuite.TheVariants.{Aes128CtsHmacSha196, Aes256CtsHmacSha196, Des3CbcSha1Kd, Aes128CtsHmacSha256128, Aes256CtsHmacSha384192}
use Rattle.krb_crypto.specs.Suites.{cipher_suites}
use Rattle.krb_settings.specs.Steps.{◌>>=◌}
use Rattle.krb_settings.specs.declared.field.Field.{Field}
use Rattle.krb_settings.specs.declared.field.Field.TheVariants.{Account, Key, Lifetime, Name, Password, Realm, Skew, Suite}
use Rattle.krb_settings.specs.declared.fault.TableFault.{TableFault}
use Rattle.krb_settings.specs.declared.fault.TableFault.TheVariants.{UnknownKey, Missing, WrongType, UnknownSuite, BadDigits}

-- The key of a field in a settings file.
abbrev pub field_name : Field → List ℕ
field_name Account = codes "account"
field_name Key = codes "key"
field_name Lifetime = codes "lifetime"
field_name Name = codes "name"
field_name Password = codes "password"
field_name Realm = codes "realm"
field_name Skew = codes "skew"
field_name Suite = codes "suite"

-- the key is the name of one of the fields
abbrev pub is_among : List Field → List ℕ → Bool
is_among fields key = list_any (λ field. pointwise nat_eq key (field_name field)) fields

-- the keys of a table
abbrev pub keys_in : Members → List (List ℕ)
keys_in no_members = []
keys_in (member key value rest) = key ∷ keys_in rest

-- each key of a table is the name of one of the fields
abbrev pub has_only : List Field → Members → Bool
has_only fields document = list_all (is_among fields) (keys_in document)

-- nothing where a table has only keys that name these fields, else the fault of an unknown key
abbrev pub only : List Field → Members → Result (Unit {0}) TableFault
-- Each key of a table is the name of one of its fields. Test: `unknown key "skwe"`, `unknown key "pasword"`.
only fields document = if has_only fields document then Ok tt else Err UnknownKey

-- what a field holds, where the table has it
abbrev pub present : Field → Option Data → Result Data TableFault
-- Each field that a table needs is there. Test: `no realm` of `files.txt`, `no suite` of `files.txt`.
present field None = Err (Missing field)
present field (Some value) = Ok value

-- what a field of a table holds, or that it is missing
abbrev pub value_at : Field → Members → Result Data TableFault
value_at field document = present field (get_member (field_name field) document)

-- the text that a field holds
abbrev pub text_of : Field → Data → Result (List ℕ) TableFault
text_of field (string text) = Ok text
-- A component, a realm, a suite, a key and a password are texts. Test: `realm is a whole number`, `password is a whole number`.
text_of field _ = Err (WrongType field)

-- the whole number that a field holds, which isn't negative
abbrev pub natural_of : Field → Data → Result ℕ TableFault
natural_of field (integer (pos n)) = Ok n
-- The skew and the lifetime are whole numbers that aren't negative. Test: `skew is a text`, `skew is -5`, `lifetime is -1`.
natural_of field _ = Err (WrongType field)

-- the list that a field holds
abbrev pub list_of : Field → Data → Result Items TableFault
list_of field (array items) = Ok items
-- The name of an account is a list. Test: `name is a text`.
list_of field _ = Err (WrongType field)

-- the text in a field of a table
abbrev pub text_at : Field → Members → Result (List ℕ) TableFault
text_at field document = value_at field document >>= text_of field

-- the whole number in a field of a table, which isn't negative
abbrev pub natural_at : Field → Members → Result ℕ TableFault
natural_at field document = value_at field document >>= natural_of field

-- the name of a suite (RFC 3961, section 8; RFC 3962, section 7; RFC 8009, section 4)
unfoldable pub suite_name : CipherSuite → List ℕ
suite_name Aes128CtsHmacSha196 = codes "aes128-cts-hmac-sha1-96"
suite_name Aes256CtsHmacSha196 = codes "aes256-cts-hmac-sha1-96"
suite_name Des3CbcSha1Kd = codes "des3-cbc-sha1-kd"
suite_name Aes128CtsHmacSha256128 = codes "aes128-cts-hmac-sha256-128"
suite_name Aes256CtsHmacSha384192 = codes "aes256-cts-hmac-sha384-192"

-- the suite of a name
unfoldable pub suite_named : List ℕ → Result CipherSuite TableFault
-- A suite has one of five names (RFC 3961, section 8; RFC 3962, section 7; RFC 8009, section 4). Test: `unknown suite`.
suite_named name = ok_or (find (λ suite. pointwise nat_eq name (suite_name suite)) cipher_suites) UnknownSuite

-- The suite that the field `suite` of a table names.
abbrev pub suite_at : Members → Result CipherSuite TableFault
suite_at document = text_at Suite document >>= suite_named

-- the bytes of a decoding, or the fault that the digits are wrong
abbrev pub digits_told : {E : Type 0} → Result (List ℕ) E → Result (List ℕ) TableFault
digits_told (Ok bytes) = Ok bytes
-- A key is pairs of hexadecimal digits. Test: `character 10 of key is no hexadecimal digit`, `key has 63 hexadecimal digits`.
digits_told (Err _) = Err BadDigits

-- the bytes that hexadecimal digits write, two a byte, or the fault that the digits are wrong
abbrev pub bytes_of : List ℕ → Result (List ℕ) TableFault
bytes_of digits = digits_told (decode_of digits)

-- the bytes that the hexadecimal digits in the field `key` of a table write
abbrev pub key_at : Members → Result (List ℕ) TableFault
key_at document = text_at Key document >>= bytes_of
