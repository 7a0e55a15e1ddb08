-- What is likely a slip in a settings file that writes a realm, in the order of the file's accounts.
use Rattle.std.specs.Prelude.{ℕ, suc, ◌+◌, ◌-◌, nat_eq, nat_lt, nat_le, Bool, true, false, ◌&&◌, ◌||◌, not, if◌then◌else◌, List, [], ◌∷◌, ◌++◌, length, map, filter, take, slice_index, Option, None, Some}
use Rattle.std.specs.List.{list_any, list_all, position_from}
use Rattle.std.specs.Cmp.Lexicographic.{pointwise}
use Rattle.krb_crypto.specs.declared.suite.CipherSuite.{CipherSuite}
use Rattle.krb_crypto.specs.declared.suite.CipherSuite.TheVariants.{Des3CbcSha1Kd, Aes128CtsHmacSha256128, Aes256CtsHmacSha384192}
use Rattle.krb_settings.specs.Written.{WrittenAccount, WrittenRealm, WrittenSecret, password, key}
use Rattle.krb_settings.specs.WeakKeys.{has_odd_parity, has_weak_part}
use Rattle.krb_settings.specs.declared.cases.TheConstants.{EXAMPLE_KEYS, EXAMPLE_PASSWORD}
use Rattle.krb_settings.specs.declared.place.Place.{Place}
use Rattle.krb_settings.specs.declared.place.Place.TheVariants as place
use Rattle.krb_settings.specs.declared.warning.Found.{Found}
use Rattle.krb_settings.specs.declared.warning.Warning.{Warning}
use Rattle.krb_settings.specs.declared.warning.Warning.TheVariants as warning

-- a test, and what is warned of where it holds
abbrev pub Case : Type 0
Case = Bool × Warning

-- the warnings whose tests hold
unfoldable pub met : Place → List Case → List Found
met place cases = map (λ (case : Case). record { place = place; warning = case.1 }) (filter (λ case. case.0) cases)

-- the character is a blank
abbrev pub is_blank : ℕ → Bool
is_blank c = nat_eq c 32

-- the character is a control character of ASCII
abbrev pub is_control : ℕ → Bool
is_control c = nat_lt c 32 || nat_eq c 127

-- the character is a lower-case letter of ASCII
abbrev pub is_lower : ℕ → Bool
is_lower c = nat_le 97 c && nat_le c 122

-- the character is `@`
abbrev pub is_at : ℕ → Bool
is_at c = nat_eq c 64

-- the character is `/`
abbrev pub is_slash : ℕ → Bool
is_slash c = nat_eq c 47

-- A realm's name has no control character, `@`, blank or lower-case letter, or there is a warning. Test: `realm has a blank`.
abbrev pub realm_cases : List ℕ → List Case
realm_cases name =
    (list_any is_control name, warning.RealmControl)
    ∷ (list_any is_at name, warning.RealmAt)
    ∷ (list_any is_blank name, warning.RealmBlank)
    ∷ (list_any is_lower name, warning.RealmLower)
    ∷ []

-- the first or the last character is a blank
abbrev pub has_blank_end : List ℕ → Bool
has_blank_end part = is_blank (slice_index part 0) || is_blank (slice_index part (length part - 1))

-- A component has no slash, `@` or control character, and no blank at an end, or there is a warning. Test: `a component of name has a
-- slash`, `a component of name begins or ends with a blank`.
abbrev pub name_cases : List (List ℕ) → List Case
name_cases name =
    (list_any (list_any is_slash) name, warning.NameSlash)
    ∷ (list_any (list_any is_at) name, warning.NameAt)
    ∷ (list_any (list_any is_control) name, warning.NameControl)
    ∷ (list_any has_blank_end name, warning.NameBlank)
    ∷ []

-- the last octet is a line feed or a carriage return
abbrev pub ends_in_break : List ℕ → Bool
ends_in_break text =
    let last = slice_index text (length text - 1) in
    nat_eq last 10 || nat_eq last 13

-- a password's key takes 32,768 rounds of PBKDF2 (RFC 8009, section 4)
abbrev pub has_many_rounds : CipherSuite → Bool
has_many_rounds Aes128CtsHmacSha256128 = true
has_many_rounds Aes256CtsHmacSha384192 = true
has_many_rounds _ = false

-- A password has at least 12 octets, ends in no line break, isn't the example's and is of no suite of RFC 8009, or there is a warning.
-- Test: `password has fewer than 12 octets` of `files.txt`, `password ends in a line break`.
abbrev pub password_cases : CipherSuite → List ℕ → List Case
password_cases suite text =
    (nat_eq (length text) 0, warning.PasswordEmpty)
    ∷ (nat_lt 0 (length text) && nat_lt (length text) 12, warning.PasswordShort)
    ∷ (ends_in_break text, warning.PasswordBreak)
    ∷ (pointwise nat_eq text EXAMPLE_PASSWORD.now, warning.PasswordExample)
    ∷ (has_many_rounds suite, warning.PasswordRounds)
    ∷ []

-- one octet, again and again
abbrev pub is_repeated : List ℕ → Bool
is_repeated octets = if nat_eq (length octets) 0 then false else list_all (λ octet. nat_eq octet (slice_index octets 0)) octets

-- the suite is that of triple DES
abbrev pub is_des3 : CipherSuite → Bool
is_des3 Des3CbcSha1Kd = true
is_des3 _ = false

-- A key is none of the example's and not one octet repeated, or there is a warning. Test: `key is one of examples/settings.toml, which
-- everyone knows`, `key is one octet repeated` of `files.txt`.
-- A key of triple DES has odd parity and no weak or semi-weak DES key in it, or there is a warning (RFC 3961, section 6.3.1). Test: `key
-- has an octet of even parity`, `key has a weak or semi-weak DES key in it` of `files.txt`.
abbrev pub key_cases : CipherSuite → List ℕ → List Case
key_cases suite octets =
    (list_any (λ example. pointwise nat_eq octets example) EXAMPLE_KEYS, warning.KeyExample)
    ∷ (is_repeated octets, warning.KeyRepeated)
    ∷ (is_des3 suite && not (has_odd_parity octets), warning.KeyParity)
    ∷ (is_des3 suite && (has_odd_parity octets && has_weak_part octets), warning.KeyWeak)
    ∷ []

-- an account has this key
abbrev pub is_secret : List ℕ → WrittenSecret → Bool
is_secret octets (password _) = false
is_secret octets (key other) = pointwise nat_eq octets other

-- the key is the realm's, or that of an earlier account, of which the first is named
abbrev pub holder_case : Option ℕ → Case
holder_case None = (false, warning.KeyOfAccount 0)
holder_case (Some index) = (true, warning.KeyOfAccount (index + 1))

-- An account's key is neither the realm's nor an earlier account's, or there is a warning. Test: `key is the realm's too`, `key is account
-- 1's too`.
abbrev pub shared_cases : List ℕ → List WrittenAccount → List ℕ → List Case
shared_cases realm_key earlier octets =
    (pointwise nat_eq octets realm_key, warning.KeyOfRealm)
    ∷ holder_case (position_from (λ (account : WrittenAccount). is_secret octets account.secret) 0 earlier)
    ∷ []

-- the warnings of an account's secret, by the accounts before it
abbrev pub secret_found : Place → WrittenRealm → List WrittenAccount → CipherSuite → WrittenSecret → List Found
secret_found at realm earlier suite (password text) = met at (password_cases suite text)
secret_found at realm earlier suite (key octets) = met at (key_cases suite octets) ++ met at (shared_cases realm.key earlier octets)

-- the warnings of the account at this index of the realm's accounts
abbrev pub account_found : WrittenRealm → ℕ → WrittenAccount → List Found
account_found realm index account =
    let at = place.Account (index + 1) in
    met at (name_cases account.name) ++ secret_found at realm (take index realm.accounts) account.suite account.secret

-- the warnings of these accounts, the first of which is at this index of the realm's accounts
abbrev pub accounts_found : WrittenRealm → ℕ → List WrittenAccount → List Found
accounts_found realm index [] = []
accounts_found realm index (account ∷ rest) = account_found realm index account ++ accounts_found realm (suc index) rest

-- The warnings of a realm are those of its name, then of its key, then of each account, in the order of the file's accounts. Test:
-- `warning` of `files.txt`.
abbrev pub warnings : WrittenRealm → List Found
warnings realm = met place.File (realm_cases realm.name) ++ met place.File (key_cases realm.suite realm.key) ++ accounts_found realm 0 realm.accounts
