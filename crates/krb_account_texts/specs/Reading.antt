-- How a text of accounts is read.
use Rattle.std.specs.Prelude.{ℕ, ◌+◌, ◌-◌, ◌*◌, ◌==◌, ◌&&◌, ◌||◌, nat_eq, nat_lt, nat_le, not, Bool, true, false, if◌then◌else◌, List, [], ◌∷◌, length, take, slice_index, slice_index_or, codes, drop, Option, None, Some, option_and_then, ok_or, Result, Ok, Err}
use Rattle.std.specs.List.{find, list_all, slice_split, starts_with}
use Rattle.std.specs.Cmp.Lexicographic.{pointwise}
use Rattle.hex.specs.Hex.{decode_of}
use Rattle.picky_asn1.specs.Bytes.{Bytes}
use Rattle.krb_messages.specs.NameReading.{components_in, is_ascii}
use Rattle.krb_messages.specs.declared.name_reading.NameTextFault.{NameTextFault}
use Rattle.krb_realm_accounts.specs.Names.{are_components, is_realm_name}
use Rattle.krb_time.specs.declared.calendar.TheConstants.{EPOCH}
use Rattle.krb_realm_accounts.specs.Account.{AccountKeyRecord, AccountRecord, are_falling}
use Rattle.krb_realm_accounts.specs.declared.attributes.Attributes.{Attributes}
use Rattle.krb_realm_accounts.specs.declared.attributes.TheConstants.{NO_ATTRIBUTES}
use Rattle.krb_realm_accounts.specs.declared.limits.TheConstants.{FORMER_LIMIT}
use Rattle.krb_realm_accounts.specs.Settings.{SettingsRecord}
use Rattle.krb_realm_accounts.specs.declared.policy.Policy.{Policy}
use Rattle.krb_realm_accounts.specs.declared.policy.TheConstants.{NO_POLICY}
use Rattle.krb_realm_accounts.specs.declared.settings.TheConstants.{LIFETIME_LIMIT, SKEW_LIMIT}
use Rattle.krb_crypto.specs.declared.suite.CipherSuite.{CipherSuite}
use Rattle.krb_crypto.specs.Suites.{cipher_key_size, cipher_suites}
use Rattle.krb_settings.specs.Fields.{suite_name}
use Rattle.krb_account_texts.specs.FurtherLines.{marks_of}
use Rattle.krb_account_texts.specs.Lines.{WrittenLine, comment, realm, account, disabled_mark}
use Rattle.krb_account_texts.specs.Steps.{◌>>=◌, each_from}
use Rattle.krb_account_texts.specs.declared.fields.TheConstants.{NUMBER_LIMIT}
use Rattle.krb_account_texts.specs.declared.further.TheConstants.{ALL_MARKS}
use Rattle.krb_account_texts.specs.declared.fault.LineFault.{LineFault}
use Rattle.krb_account_texts.specs.declared.fault.LineFault.TheVariants as fault
use Rattle.krb_account_texts.specs.declared.fault.TextFault.{TextFault}
use Rattle.krb_account_texts.specs.declared.fault.TextFault.TheVariants as text_fault
use Rattle.krb_account_texts.specs.declared.words.Words.{Words}

-- The parts between tabs.
abbrev pub fields : List ℕ → List (List ℕ)
fields = slice_split (λ octet. octet == 9)

-- The components of a name, which are a principal's.
abbrev pub judged_name : Result (List Bytes) NameTextFault → Result (List Bytes) LineFault
judged_name (Ok name) = if are_components name then Ok name else Err fault.Name
judged_name (Err _) = Err fault.Name

-- The name that a text spells, in its components, or that it spells none.
unfoldable pub name_in : List ℕ → Result (List Bytes) LineFault
name_in text = judged_name (components_in text)

-- The suite of a name.
unfoldable pub suite_in : List ℕ → Result CipherSuite LineFault
suite_in word = ok_or (find (λ suite. pointwise nat_eq word (suite_name suite)) cipher_suites) fault.Suite

-- The number with a further decimal digit, if it is below 2^32.
abbrev pub next_number : ℕ → ℕ → Option ℕ
next_number number digit =
    if nat_lt digit 48 || nat_lt 57 digit then None
    else (if nat_lt (10 * number + (digit - 48)) NUMBER_LIMIT then Some (10 * number + (digit - 48)) else None)

-- A number in decimal digits, after those that were read.
abbrev pub digits_behind : ℕ → List ℕ → Option ℕ
digits_behind number [] = Some number
digits_behind number (digit ∷ digits) = option_and_then (λ (next : ℕ). digits_behind next digits) (next_number number digit)

-- The number below 2^32 that decimal digits write, if there is a digit.
unfoldable pub number_in : List ℕ → Option ℕ
number_in digits = if length digits == 0 then None else digits_behind 0 digits

-- A kvno counts from 1.
abbrev pub judged_kvno : Option ℕ → Result ℕ LineFault
judged_kvno None = Err fault.Kvno
judged_kvno (Some kvno) = if kvno == 0 then Err fault.Kvno else Ok kvno

-- The kvno that decimal digits write, if it is a number from 1 to below 2^32.
abbrev pub kvno_in : List ℕ → Result ℕ LineFault
kvno_in digits = judged_kvno (number_in digits)

-- The octets that hexadecimal digits write, two for an octet.
abbrev pub octets_told : {E : Type 0} → LineFault → Result (List ℕ) E → Result (List ℕ) LineFault
octets_told otherwise (Ok octets) = Ok octets
octets_told otherwise (Err _) = Err otherwise

-- The salt of these octets, each of which is below 128: ETYPE-INFO2 has it in a KerberosString (RFC 4120, sections 5.2.1 and 5.2.7.5).
abbrev pub some_salt : List ℕ → Result (Option Bytes) LineFault
some_salt octets = if is_ascii octets then Ok (Some octets) else Err fault.SaltOctet

-- The salt that hexadecimal digits write, or none for `-`.
unfoldable pub salt_in : List ℕ → Result (Option Bytes) LineFault
salt_in text = if pointwise nat_eq text (codes "-") then Ok None else octets_told fault.Salt (decode_of text) >>= some_salt

-- A key of its suite's length.
abbrev pub sized_key : CipherSuite → List ℕ → Result Bytes LineFault
sized_key suite octets = if length octets == cipher_key_size suite then Ok octets else Err fault.Key

-- The key that hexadecimal digits spell, of its suite's length.
unfoldable pub key_in : CipherSuite → List ℕ → Result Bytes LineFault
key_in suite text = octets_told fault.Key (decode_of text) >>= sized_key suite

-- The number that decimal digits write, or 0 for `-`.
abbrev pub number_or_dash : LineFault → List ℕ → Result ℕ LineFault
number_or_dash otherwise text = if pointwise nat_eq text (codes "-") then Ok 0 else ok_or (number_in text) otherwise

-- An account's last second, from the seconds since 1970. Number 0 is none.
abbrev pub since_epoch : ℕ → ℕ
since_epoch seconds = if seconds == 0 then 0 else seconds + EPOCH

-- The last second of an account, or 0 if it doesn't end.
unfoldable pub ends_in : List ℕ → Result ℕ LineFault
ends_in text = number_or_dash fault.Ends text >>= (λ seconds. Ok (since_epoch seconds))

-- The greatest lifetime of an account, or 0 if it has none of its own.
unfoldable pub lifetime_in : List ℕ → Result ℕ LineFault
lifetime_in text = number_or_dash fault.Lifetime text

-- The attributes that are marks, by their words.
unfoldable pub marks_in : List ℕ → Result Attributes LineFault
marks_in text = ok_or (find (λ marks. pointwise nat_eq text (marks_of marks)) ALL_MARKS) fault.Marks

-- The older key of a suite, a kvno and a key.
abbrev pub older_by : List ℕ → List ℕ → List ℕ → Result AccountKeyRecord LineFault
older_by suite kvno key = do
  own_suite ← suite_in suite
  own_kvno ← kvno_in kvno
  own_key ← key_in own_suite key
  Ok (record { suite = own_suite; key = own_key; kvno = own_kvno })

-- The older key of these parts: suite, kvno and key.
abbrev pub older_of : List (List ℕ) → Result AccountKeyRecord LineFault
older_of (suite ∷ kvno ∷ key ∷ []) = older_by suite kvno key
older_of _ = Err fault.OlderKey

-- The parts between colons (58).
abbrev pub colon_parts : List ℕ → List (List ℕ)
colon_parts = slice_split (λ octet. octet == 58)

-- The older key that a field writes. Its place among the fields doesn't count.
abbrev pub older_in : ℕ → List ℕ → Result AccountKeyRecord LineFault
older_in place text = older_of (colon_parts text)

-- Older keys of which there are no more than an account keeps, and whose kvnos fall from this one on.
abbrev pub judged_former : ℕ → List AccountKeyRecord → Result (List AccountKeyRecord) LineFault
judged_former kvno keys = if nat_le (length keys) FORMER_LIMIT && are_falling kvno keys then Ok keys else Err fault.OlderKey

-- The older keys that fields write, each one of them.
unfoldable pub former_in : ℕ → List (List ℕ) → Result (List AccountKeyRecord) LineFault
former_in kvno fields = each_from older_in 1 fields >>= judged_former kvno

-- What follows the key.
pub record FurtherRecord : Type 0 where
  pub attributes : Attributes
  pub former : List AccountKeyRecord

-- What these fields say that follow the key: there are none, or the last second, the greatest lifetime, the marks and the older keys.
unfoldable pub marked_in : ℕ → List ℕ → List ℕ → List ℕ → List (List ℕ) → Result FurtherRecord LineFault
marked_in kvno ends lifetime marks keys = do
  own_ends ← ends_in ends
  own_lifetime ← lifetime_in lifetime
  own_marks ← marks_in marks
  own_former ← former_in kvno keys
  Ok (record { attributes = record own_marks { ends = own_ends; lifetime = own_lifetime }; former = own_former })

abbrev pub marked_among : ℕ → List (List ℕ) → Result FurtherRecord LineFault
marked_among kvno (ends ∷ lifetime ∷ marks ∷ keys) = marked_in kvno ends lifetime marks keys
marked_among kvno _ = Err fault.Fields

abbrev pub further_in : ℕ → List (List ℕ) → Result FurtherRecord LineFault
further_in kvno [] = Ok (record { attributes = NO_ATTRIBUTES; former = [] })
further_in kvno (field ∷ fields) = marked_among kvno (field ∷ fields)

-- The account with what follows its key.
abbrev pub with_further : CipherSuite → Bytes → ℕ → Option Bytes → FurtherRecord → AccountRecord
with_further suite key kvno salt further = record { suite = suite; key = key; kvno = kvno; salt = salt; former = further.former; attributes = further.attributes }

-- The account's line of these fields, disabled or not, or the first fault in their order.
unfoldable pub account_in : Bool → List ℕ → List ℕ → List ℕ → List ℕ → List ℕ → List (List ℕ) → Result WrittenLine LineFault
account_in is_disabled name suite kvno salt key further = do
  own_name ← name_in name
  own_suite ← suite_in suite
  own_kvno ← kvno_in kvno
  own_salt ← salt_in salt
  own_key ← key_in own_suite key
  own_further ← further_in own_kvno further
  Ok (account own_name (with_further own_suite own_key own_kvno own_salt own_further) is_disabled)

-- No character is below 32 (space).
abbrev pub is_printed : Bytes → Bool
is_printed = list_all (λ character. nat_le 32 character)

-- The text as a realm's name, if it is one and has no character below 32 (space).
unfoldable pub realm_name_in : List ℕ → Result Bytes LineFault
realm_name_in text = if is_realm_name text && is_printed text then Ok text else Err fault.RealmName

-- The seconds that decimal digits write.
unfoldable pub seconds_in : List ℕ → Result ℕ LineFault
seconds_in digits = ok_or (number_in digits) fault.Seconds

-- The settings of this clock skew and greatest lifetime, if both are in their ranges.
unfoldable pub settings_of : ℕ → ℕ → Result SettingsRecord LineFault
settings_of skew lifetime =
    if nat_le skew SKEW_LIMIT && (nat_le 1 lifetime && nat_le lifetime LIFETIME_LIMIT) then Ok (record { skew = skew; lifetime = lifetime; policy = NO_POLICY })
    else Err fault.Seconds

-- No word.
abbrev pub no_words : Words
no_words = record { policy = NO_POLICY; guards_passwords = false; is_certified = false }

-- A word may follow where neither it nor a later one is there. The words are `limits-des3`, `forwardable`, `proxiable`, `renewable=` with
-- seconds, `guards-passwords`, `pkinit-agility`, `pkinit-sha1` and `pkinit`, in this order.
abbrev pub may_certify : Words → Bool
may_certify words = not words.is_certified

abbrev pub may_take_sha1 : Words → Bool
may_take_sha1 words = not words.policy.pkinit_sha1 && may_certify words

abbrev pub may_be_agile : Words → Bool
may_be_agile words = not words.policy.pkinit_agility && may_take_sha1 words

abbrev pub may_guard : Words → Bool
may_guard words = not words.guards_passwords && may_be_agile words

abbrev pub may_renew : Words → Bool
may_renew words = (words.policy.renewable_life == 0) && may_guard words

abbrev pub may_proxy : Words → Bool
may_proxy words = not words.policy.proxiable && may_renew words

abbrev pub may_forward : Words → Bool
may_forward words = not words.policy.forwardable && may_proxy words

abbrev pub may_limit : Words → Bool
may_limit words = not words.policy.limits_des3 && may_forward words

-- The words with one more.
abbrev pub limited : Words → Words
limited words = record { policy = record words.policy { limits_des3 = true }; guards_passwords = words.guards_passwords; is_certified = words.is_certified }

abbrev pub forwarded : Words → Words
forwarded words = record { policy = record words.policy { forwardable = true }; guards_passwords = words.guards_passwords; is_certified = words.is_certified }

abbrev pub proxied : Words → Words
proxied words = record { policy = record words.policy { proxiable = true }; guards_passwords = words.guards_passwords; is_certified = words.is_certified }

abbrev pub renewed : ℕ → Words → Words
renewed life words = record { policy = record words.policy { renewable_life = life }; guards_passwords = words.guards_passwords; is_certified = words.is_certified }

abbrev pub guarding : Words → Words
guarding words = record { policy = words.policy; guards_passwords = true; is_certified = words.is_certified }

abbrev pub agile : Words → Words
agile words = record { policy = record words.policy { pkinit_agility = true }; guards_passwords = words.guards_passwords; is_certified = words.is_certified }

abbrev pub with_sha1 : Words → Words
with_sha1 words = record { policy = record words.policy { pkinit_sha1 = true }; guards_passwords = words.guards_passwords; is_certified = words.is_certified }

abbrev pub certified : Words → Words
certified words = record { policy = words.policy; guards_passwords = words.guards_passwords; is_certified = true }

-- The words, if the last one may follow those before it.
abbrev pub if_may : Bool → Words → Result Words LineFault
if_may may words = if may then Ok words else Err fault.Words

-- A greatest renewable life is a second at least, and a year of 365 days at most.
abbrev pub judged_life : Option ℕ → Result ℕ LineFault
judged_life None = Err fault.Renewable
judged_life (Some life) = if nat_le 1 life && nat_le life LIFETIME_LIMIT then Ok life else Err fault.Renewable

-- The greatest renewable life that decimal digits write.
abbrev pub life_in : List ℕ → Result ℕ LineFault
life_in digits = judged_life (number_in digits)

-- The words with a greatest renewable life of these digits, if it may follow them.
abbrev pub with_life : Words → List ℕ → Result Words LineFault
with_life words digits =
    if may_renew words then life_in digits >>= (λ life. Ok (renewed life words)) else Err fault.Words

-- What the word of a greatest renewable life begins with.
abbrev pub renewable_mark : List ℕ
renewable_mark = codes "renewable="

-- The word is that of a greatest renewable life.
abbrev pub is_renewable : List ℕ → Bool
is_renewable word = starts_with nat_eq word renewable_mark

-- The words with one more, if it is one and may follow them.
unfoldable pub next_words : Words → List ℕ → Result Words LineFault
next_words words word =
    if pointwise nat_eq word (codes "limits-des3") then if_may (may_limit words) (limited words)
    else (if pointwise nat_eq word (codes "forwardable") then if_may (may_forward words) (forwarded words)
    else (if pointwise nat_eq word (codes "proxiable") then if_may (may_proxy words) (proxied words)
    else (if pointwise nat_eq word (codes "guards-passwords") then if_may (may_guard words) (guarding words)
    else (if pointwise nat_eq word (codes "pkinit-agility") then if_may (may_be_agile words) (agile words)
    else (if pointwise nat_eq word (codes "pkinit-sha1") then if_may (may_take_sha1 words) (with_sha1 words)
    else (if pointwise nat_eq word (codes "pkinit") then if_may (may_certify words) (certified words)
    else (if is_renewable word then with_life words (drop (length renewable_mark) word) else Err fault.Words)))))))

-- The words with each of these behind them.
abbrev pub words_behind : Words → List (List ℕ) → Result Words LineFault
words_behind words [] = Ok words
words_behind words (word ∷ more) = next_words words word >>= (λ next. words_behind next more)

-- What the words of a realm's line say: the policy, whether passwords are guarded, and whether logins by certificate are answered. A comma
-- (44) is between each two.
unfoldable pub words_in : List ℕ → Result Words LineFault
words_in text = words_behind no_words (slice_split (λ octet. octet == 44) text)

-- The settings with this policy.
abbrev pub with_policy : Policy → SettingsRecord → SettingsRecord
with_policy policy settings = record { skew = settings.skew; lifetime = settings.lifetime; policy = policy }

-- What logins by certificate are answered by, if digits are given: one octet or more.
abbrev pub some_pkinit : List ℕ → Result (Option Bytes) LineFault
some_pkinit octets = if length octets == 0 then Err fault.Pkinit else Ok (Some octets)

-- What logins by certificate are answered by, as hexadecimal digits write it, if digits are given.
abbrev pub pkinit_in : Option (List ℕ) → Result (Option Bytes) LineFault
pkinit_in None = Ok None
pkinit_in (Some digits) = octets_told fault.Pkinit (decode_of digits) >>= some_pkinit

-- The realm's line of these fields, of this policy and of whether passwords are guarded, or the first fault in their order.
unfoldable pub realm_in : List ℕ → List ℕ → List ℕ → Policy → Bool → Option (List ℕ) → Result WrittenLine LineFault
realm_in name skew lifetime policy guards digits = do
  own_name ← realm_name_in name
  own_skew ← seconds_in skew
  own_lifetime ← seconds_in lifetime
  settings ← settings_of own_skew own_lifetime
  pkinit ← pkinit_in digits
  Ok (realm own_name (with_policy policy settings) guards pkinit)

-- The realm's line of three fields, of words that were read, and of what logins by certificate are answered by, or `-` where they aren't.
abbrev pub realm_by : List ℕ → List ℕ → List ℕ → List ℕ → Words → Result WrittenLine LineFault
realm_by name skew lifetime digits words =
    if words.is_certified then realm_in name skew lifetime words.policy words.guards_passwords (Some digits)
    else (if pointwise nat_eq digits (codes "-") then realm_in name skew lifetime words.policy words.guards_passwords None else Err fault.NoPkinit)

-- The realm's line of three fields and two further ones: the words of policy, guarded passwords and logins by certificate, and what these
-- are answered by.
abbrev pub realm_with : List ℕ → List ℕ → List ℕ → List ℕ → List ℕ → Result WrittenLine LineFault
realm_with name skew lifetime words digits = words_in words >>= realm_by name skew lifetime digits

-- The line of an account of these fields: of its five, and what follows them.
abbrev pub active_of : List (List ℕ) → Result WrittenLine LineFault
active_of (name ∷ suite ∷ kvno ∷ salt ∷ key ∷ further) = account_in false name suite kvno salt key further
active_of _ = Err fault.Fields

-- The realm's line of these fields: of four, the first of which is the word `realm`, or of these with two further ones.
abbrev pub realm_line_of : List (List ℕ) → Result WrittenLine LineFault
realm_line_of (word ∷ name ∷ skew ∷ lifetime ∷ []) = if pointwise nat_eq word (codes "realm") then realm_in name skew lifetime NO_POLICY false None else Err fault.Fields
realm_line_of (word ∷ name ∷ skew ∷ lifetime ∷ words ∷ digits ∷ []) =
    if pointwise nat_eq word (codes "realm") then realm_with name skew lifetime words digits else Err fault.Fields
realm_line_of _ = Err fault.Fields

-- There are as many fields as the realm's line has.
abbrev pub has_realm_fields : List (List ℕ) → Bool
has_realm_fields fields = (length fields == 4) || (length fields == 6)

-- The line of these fields: the realm's, by their number, or that of an account.
abbrev pub line_of : List (List ℕ) → Result WrittenLine LineFault
line_of fields = if has_realm_fields fields then realm_line_of fields else active_of fields

-- The line of a disabled account, of these fields.
abbrev pub disabled_of : List (List ℕ) → Result WrittenLine LineFault
disabled_of (name ∷ suite ∷ kvno ∷ salt ∷ key ∷ further) = account_in true name suite kvno salt key further
disabled_of _ = Err fault.DisabledFields

-- The text begins with the mark of a disabled account: `#disabled` and a tab.
abbrev pub is_disabled : List ℕ → Bool
is_disabled text = starts_with nat_eq text disabled_mark

-- A line that begins with the mark of a disabled account is the line of one. Another one that begins with `#` (35) is a comment.
unfoldable pub line_in : List ℕ → Result WrittenLine LineFault
line_in text =
    if is_disabled text then disabled_of (fields (drop (length disabled_mark) text))
    else (if slice_index text 0 == 35 then Ok (comment text) else line_of (fields text))

-- The result of reading the line of this number. Its fault names the number, unless memory ran out.
abbrev pub at_line : {A : Type 0} → ℕ → Result A LineFault → Result A TextFault
at_line number (Ok x) = Ok x
at_line number (Err fault.Memory) = Err text_fault.Memory
at_line number (Err e) = Err (text_fault.Line number e)

-- The line of this text, or its fault with the number of the line.
abbrev pub numbered : ℕ → List ℕ → Result WrittenLine TextFault
numbered number text = at_line number (line_in text)

-- Nothing may follow the last line feed.
abbrev pub is_ended : List (List ℕ) → Bool
is_ended parts = length (slice_index_or parts (length parts - 1) []) == 0

-- Each line in turn, the first of which has number 1.
abbrev pub lines_of : List (List ℕ) → Result (List WrittenLine) TextFault
lines_of parts = if is_ended parts then each_from numbered 1 (take (length parts - 1) parts) else Err (text_fault.NoEnd (length parts))

-- The lines of a text, or its first fault with the number of its line.
unfoldable pub lines_in : List ℕ → Result (List WrittenLine) TextFault
lines_in text = lines_of (slice_split (λ octet. octet == 10) text)
