-- The lines of a text of accounts, and what each is written as. A tab (9) is between each two fields, and a line feed (10) after each
-- line.
use Rattle.std.specs.Prelude.{ℕ, ◌==◌, nat_lt, Bool, if◌then◌else◌, List, [], ◌∷◌, ◌++◌, length, slice_index, codes, string_bytes, Option, None, Some, is_some}
use Rattle.std.specs.List.{flat_map}
use Rattle.std.specs.Fmt.{decimal}
use Rattle.hex.specs.Hex.{encode_lower}
use Rattle.picky_asn1.specs.Bytes.{Bytes}
use Rattle.krb_messages.specs.NameText.{name_text}
use Rattle.krb_realm_accounts.specs.Account.{AccountRecord}
use Rattle.krb_realm_accounts.specs.Settings.{SettingsRecord}
use Rattle.krb_realm_accounts.specs.declared.policy.Policy.{Policy}
use Rattle.krb_settings.specs.Fields.{suite_name}
use Rattle.krb_account_texts.specs.FurtherLines.{further_fields}
use Rattle.krb_account_texts.specs.declared.line.Line.{Line}
use Rattle.krb_account_texts.specs.declared.line.Line.TheVariants as line

-- a comment, the realm's name, its settings, whether it guards passwords and what logins by certificate are answered by, or an account's
-- name, what the realm knows of it, and whether it is disabled
pub data WrittenLine : Type 0 where
  comment : Bytes → WrittenLine
  realm : Bytes → SettingsRecord → Bool → Option Bytes → WrittenLine
  account : List Bytes → AccountRecord → Bool → WrittenLine

-- What a line of the program says.
abbrev pub written : Line → WrittenLine
written (line.Comment text) = comment (string_bytes text)
written (line.Realm own) = realm own.name own.settings own.guards_passwords own.pkinit
written (line.Account own) = account own.name.name_string.0 own.account own.is_disabled

-- The salt in hexadecimal digits, or `-` if there is none.
abbrev pub salt_text : Option Bytes → List ℕ
salt_text None = codes "-"
salt_text (Some salt) = encode_lower salt

-- A word before a text of words, with a comma (44) between them, if the word is there.
abbrev pub before : Bool → List ℕ → List ℕ → List ℕ
before is word text = if is then (if length text == 0 then word else word ++ 44 ∷ text) else text

-- The word of a greatest renewable life, in seconds.
abbrev pub renewable_word : ℕ → List ℕ
renewable_word life = codes "renewable=" ++ decimal life

-- The words of logins by certificate, each where it is set, with a comma between each two.
abbrev pub pkinit_words : Policy → Bool → List ℕ
pkinit_words policy is_certified =
    before policy.pkinit_agility (codes "pkinit-agility") (before policy.pkinit_sha1 (codes "pkinit-sha1") (before is_certified (codes "pkinit") []))

-- The same with the word of guarded passwords before them.
abbrev pub last_words : Policy → Bool → Bool → List ℕ
last_words policy guards is_certified = before guards (codes "guards-passwords") (pkinit_words policy is_certified)

-- The words of policy, of guarded passwords and of logins by certificate, each where it is set, with a comma between each two.
unfoldable pub words_text : Policy → Bool → Bool → List ℕ
words_text policy guards is_certified =
    before policy.limits_des3 (codes "limits-des3") (before policy.forwardable (codes "forwardable") (before policy.proxiable (codes "proxiable")
    (before (nat_lt 0 policy.renewable_life) (renewable_word policy.renewable_life) (last_words policy guards is_certified))))

-- What follows in the realm's line, of words and octets: nothing where there is no word, and else both.
abbrev pub further_by : List ℕ → List ℕ → List ℕ
further_by words octets = if length words == 0 then [] else codes "\t" ++ (words ++ (codes "\t" ++ octets))

-- What follows in the realm's line: nothing, or two fields. The first one has the words. The second one has what logins by certificate are
-- answered by in hexadecimal digits, or `-`.
abbrev pub further_text : Policy → Bool → Option Bytes → List ℕ
further_text policy guards pkinit = further_by (words_text policy guards (is_some pkinit)) (salt_text pkinit)

-- The realm's line: the word `realm`, the name, the clock skew and the greatest lifetime in seconds, and what follows of policy, guarded
-- passwords and logins by certificate.
abbrev pub realm_text : Bytes → SettingsRecord → Bool → Option Bytes → List ℕ
realm_text name settings guards pkinit =
    codes "realm" ++ (codes "\t" ++ (name ++ (codes "\t" ++ (decimal settings.skew ++ (codes "\t" ++ (decimal settings.lifetime ++ further_text settings.policy guards pkinit))))))

-- The text of a name where a line begins: a backslash (92) precedes a `#` (35), with which a comment would begin.
abbrev pub guarded : List ℕ → List ℕ
guarded text = if slice_index text 0 == 35 then 92 ∷ text else text

-- An account's fields: the name as RFC 1964 writes it (section 2.1.3), the suite, the kvno, the salt and the key, and what follows where
-- the account has attributes or older keys.
abbrev pub account_fields : List Bytes → AccountRecord → List ℕ
account_fields name own =
    guarded (name_text name) ++ (codes "\t" ++ (suite_name own.suite ++ (codes "\t" ++ (decimal own.kvno ++ (codes "\t" ++ (salt_text own.salt ++ (codes "\t" ++ (encode_lower own.key ++ further_fields own))))))))

-- What the line of a disabled account begins with.
abbrev pub disabled_mark : List ℕ
disabled_mark = codes "#disabled\t"

-- An account's line: its fields, behind the mark where it is disabled.
abbrev pub account_text : List Bytes → AccountRecord → Bool → List ℕ
account_text name own is_disabled = if is_disabled then disabled_mark ++ account_fields name own else account_fields name own

-- the text of a line, without its line feed
abbrev pub line_text : WrittenLine → List ℕ
line_text (comment text) = text
line_text (realm name settings guards pkinit) = realm_text name settings guards pkinit
line_text (account name own is_disabled) = account_text name own is_disabled

-- Each line, and a line feed after it.
abbrev pub text_of : List WrittenLine → List ℕ
text_of = flat_map (λ own. line_text own ++ 10 ∷ [])
