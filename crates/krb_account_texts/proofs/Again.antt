-- What is written of a line is read as that line.
use Rattle.std.proofs.Common.{◌≡◌, inl, inr, cond, ℕ, zero, suc, ◌+◌, ◌/◌, ◌<◌, ◌≤◌, ◌^◌, ◌==◌, ◌&&◌, ◌||◌, nat_eq, nat_le, not, Bool, true, false, List, [], ◌∷◌, ◌++◌, length, map, slice_index, codes, Option, None, Some, is_some, Result, Ok, IsTrue, refl, ap, sym, subst, ◌∙◌, arith}
use Rattle.std.specs.List.{list_all}
use Rattle.std.specs.Option.{option_map}
use Rattle.std.proofs.lemmas.List.{append-nil}
use Rattle.std.specs.Fmt.{decimal}
use Rattle.std.proofs.lemmas.Bool.{and_parts}
use Rattle.std.proofs.lemmas.Bool.Decides.{eqb_tells, nat_tests}
use Rattle.hex.specs.Hex.{encode_lower}
use Rattle.hex.proofs.HexLemmas.{decode_of-encode_lower}
use Rattle.picky_asn1.specs.Bytes.{Bytes}
use Rattle.krb_messages.specs.NameText.{name_text}
use Rattle.krb_messages.specs.NameReading.{are_ascii, components_in, is_ascii}
use Rattle.krb_messages.proofs.PrintedNames.{name-read}
use Rattle.krb_realm_accounts.specs.Account.{AccountRecord}
use Rattle.krb_realm_accounts.specs.Names.{AreComponents, is_realm_name}
use Rattle.krb_realm_accounts.specs.Settings.{SettingsRecord}
use Rattle.krb_realm_accounts.specs.declared.policy.Policy.{Policy}
use Rattle.krb_realm_accounts.specs.declared.policy.TheConstants.{NO_POLICY}
use Rattle.krb_settings.specs.Fields.{suite_name}
use Rattle.krb_account_texts.specs.FurtherLines.{ends_text, further_fields, has_further, lifetime_text, marks_of, older_text}
use Rattle.krb_account_texts.specs.Lines.{WrittenLine, comment, realm, account, account_fields, disabled_mark, guarded, line_text, further_by, realm_text, salt_text, words_text}
use Rattle.krb_account_texts.specs.Reading.{account_in, active_of, disabled_of, fields, has_realm_fields, is_disabled, is_printed, judged_name, line_in, line_of, name_in, no_words, pkinit_in, realm_by, realm_in, realm_name_in, realm_line_of, seconds_in, settings_of}
use Rattle.krb_account_texts.specs.Steps.{◌>>=◌}
use Rattle.krb_account_texts.specs.Writable.{ArePkinitBytes, IsAccount, IsComment, IsRealm, IsWritable}
use Rattle.krb_account_texts.specs.declared.fault.LineFault.{LineFault}
use Rattle.krb_account_texts.specs.declared.words.Words.{Words}
use Rattle.krb_account_texts.proofs.Feeds.{fed-part, fed-plain}
use Rattle.krb_account_texts.proofs.FieldsAgain.{key-again, kvno-again, salt-again, suite-again}
use Rattle.krb_account_texts.proofs.FurtherAgain.{further-again, further-cells, further-fed-by, further_parts, parts_where}
use Rattle.krb_account_texts.proofs.Numbers.{decimal-read}
use Rattle.krb_account_texts.proofs.Plain.{all-both, all-cons, is_all_plain, is_plain, plain-decimal, plain-hex, plain-name, plain-suite}
use Rattle.krb_account_texts.proofs.Tabs.{tab-last, tab-part}
use Rattle.krb_account_texts.proofs.Worded.{further-more, no-words, plain-words, says, words-read}

-- names
ascii-realm : (name : Bytes) → IsTrue (is_realm_name name) → IsTrue (is_ascii name)
ascii-realm name is = (and_parts _ _ is).1

ascii-all : (name : List Bytes) → IsTrue (list_all is_realm_name name) → IsTrue (are_ascii name)
ascii-all [] are = refl
ascii-all (component ∷ name) are =
    let both = and_parts (is_realm_name component) (list_all is_realm_name name) are in
    rw (ascii-realm component both.0, ascii-all name both.1) refl

pub ascii-name : (name : List Bytes) → AreComponents name → IsTrue (are_ascii name)
ascii-name name are = ascii-all name (and_parts _ _ are).1

pub name-again : (name : List Bytes) → AreComponents name → name_in (name_text name) ≡ Ok name
unfolding name_in
name-again [] are = cc are
name-again (first ∷ further) are =
    let ascii = ascii-name (first ∷ further) are in
    ap judged_name (name-read first further ascii) ∙ rw are refl

-- a name where a line begins: a backslash before a `#` counts for nothing
guarded-read : (text : List ℕ) → name_in (guarded text) ≡ name_in text
unfolding name_in components_in
guarded-read [] = refl
guarded-read (c ∷ text) = elim (eqb_tells c 35) [
  | inl mark ↦ subst (λ (first : ℕ). name_in (guarded (first ∷ text)) ≡ name_in (first ∷ text)) (sym mark.1) refl
  | inr other ↦ rw other.0 refl
]

first-again : (name : List Bytes) → AreComponents name → name_in (guarded (name_text name)) ≡ Ok name
first-again name are = guarded-read (name_text name) ∙ name-again name are

-- the octet with which an account's fields begin is no `#`
begins-otherwise : (text more : List ℕ) → (slice_index (guarded text ++ 9 ∷ more) 0 == 35) ≡ false
begins-otherwise [] more = refl
begins-otherwise (c ∷ text) more = elim (eqb_tells c 35) [
  | inl mark ↦ subst (λ (first : ℕ). (slice_index (guarded (first ∷ text) ++ 9 ∷ more) 0 == 35) ≡ false) (sym mark.1) refl
  | inr other ↦ rw other.0 other.0
]

unmarked : (text : List ℕ) → (slice_index text 0 == 35) ≡ false → is_disabled text ≡ false
unmarked [] other = refl
unmarked (c ∷ text) other = let apart : nat_eq 35 c ≡ false = grind (arith, nat_tests) in rw apart refl

plain-marked : (b : Bool) (text : List ℕ) → is_all_plain text ≡ true → is_all_plain (cond b (92 ∷ text) text) ≡ true
plain-marked true text plain = all-cons is_plain 92 text refl plain
plain-marked false text plain = plain

plain-first : (name : List Bytes) → AreComponents name → is_all_plain (guarded (name_text name)) ≡ true
plain-first name are = plain-marked (slice_index (name_text name) 0 == 35) (name_text name) (plain-name name (ascii-name name are))

account-again : (is_off : Bool) (name : List Bytes) (own : AccountRecord) → IsAccount name own
    → account_in is_off (guarded (name_text name)) (suite_name own.suite) (decimal own.kvno) (salt_text own.salt) (encode_lower own.key) (further_parts own) ≡ Ok (account name own is_off)
unfolding account_in
account-again is_off name own is =
    rw (first-again name is.name_is, suite-again own.suite, kvno-again own.kvno is.from_one is.kvno_fits, salt-again own.salt is.salt_is, key-again own.suite own.key is.key_size is.key_bytes, further-again name own is) refl

-- the parts of an account's line
plain-salt : (salt : Option Bytes) → is_all_plain (salt_text salt) ≡ true
plain-salt None = refl
plain-salt (Some salt) = plain-hex salt

account-parts : (name : List Bytes) (own : AccountRecord) → IsAccount name own
    → fields (account_fields name own) ≡ guarded (name_text name) ∷ suite_name own.suite ∷ decimal own.kvno ∷ salt_text own.salt ∷ encode_lower own.key ∷ further_parts own
account-parts name own is =
    let first : List ℕ = guarded (name_text name) in
    let salt : List ℕ = salt_text own.salt in
    let key : List ℕ = encode_lower own.key ++ further_fields own in
    let kvno : List ℕ = decimal own.kvno in
    let suite : List ℕ = suite_name own.suite in
    tab-part first (suite ++ 9 ∷ (kvno ++ 9 ∷ (salt ++ 9 ∷ key))) (plain-first name is.name_is)
    ∙ ap (λ parts. first ∷ parts)
    (tab-part suite (kvno ++ 9 ∷ (salt ++ 9 ∷ key)) (plain-suite own.suite)
    ∙ ap (λ parts. suite ∷ parts)
    (tab-part kvno (salt ++ 9 ∷ key) (plain-decimal own.kvno (omega (arith, is.kvno_fits)))
    ∙ ap (λ parts. kvno ∷ parts)
    (tab-part salt key (plain-salt own.salt) ∙ ap (λ parts. salt ∷ parts) (further-cells name own is))))

-- the parts are an account's, and no realm's: there are five, or eight and more
enough : (own : AccountRecord) (name suite kvno salt key : List ℕ) → line_of (name ∷ suite ∷ kvno ∷ salt ∷ key ∷ further_parts own) ≡ account_in false name suite kvno salt key (further_parts own)
enough own name suite kvno salt key = by (has_further own)
  where
    eight : (a b c d e f g h : List ℕ) (more : List (List ℕ)) → has_realm_fields (a ∷ b ∷ c ∷ d ∷ e ∷ f ∷ g ∷ h ∷ more) ≡ false
    eight a b c d e f g h more =
        let parts : List (List ℕ) = a ∷ b ∷ c ∷ d ∷ e ∷ f ∷ g ∷ h ∷ more in
        let long : length parts ≡ 8 + length more = omega arith in
        let not_four : (length parts == 4) ≡ false = grind (arith, nat_tests) in
        let not_six : (length parts == 6) ≡ false = grind (arith, nat_tests) in
        λ i. not_four i || not_six i

    by : (further : Bool) → line_of (name ∷ suite ∷ kvno ∷ salt ∷ key ∷ parts_where further own) ≡ account_in false name suite kvno salt key (parts_where further own)
    by true =
        let parts : List (List ℕ) = name ∷ suite ∷ kvno ∷ salt ∷ key ∷ parts_where true own in
        ap (λ (is : Bool). cond is (realm_line_of parts) (active_of parts))
        (eight name suite kvno salt key (ends_text own.attributes.ends) (lifetime_text own.attributes.lifetime) (marks_of own.attributes) (map older_text own.former))
    by false = refl

account-line : (name : List Bytes) (own : AccountRecord) → IsAccount name own → line_in (account_fields name own) ≡ Ok (account name own false)
unfolding line_in
account-line name own is =
    let text : List ℕ = account_fields name own in
    let more : List ℕ = suite_name own.suite ++ 9 ∷ (decimal own.kvno ++ 9 ∷ (salt_text own.salt ++ 9 ∷ (encode_lower own.key ++ further_fields own))) in
    let begins : (slice_index text 0 == 35) ≡ false = begins-otherwise (name_text name) more in
    rw (unmarked text begins, begins) (ap line_of (account-parts name own is) ∙ enough own (guarded (name_text name)) (suite_name own.suite) (decimal own.kvno) (salt_text own.salt) (encode_lower own.key) ∙ account-again false name own is)

disabled-line : (name : List Bytes) (own : AccountRecord) → IsAccount name own → line_in (disabled_mark ++ account_fields name own) ≡ Ok (account name own true)
unfolding line_in
disabled-line name own is = ap disabled_of (account-parts name own is) ∙ account-again true name own is

-- the realm's line
printed-plain : (c : ℕ) → nat_le 32 c ≡ true → is_plain c ≡ true
printed-plain c printed = grind (arith, nat_tests)

name-printed : (name : Bytes) → IsTrue (is_printed name) → is_all_plain name ≡ true
name-printed [] printed = refl
name-printed (c ∷ name) printed =
    let both = and_parts (nat_le 32 c) (is_printed name) printed in
    rw (printed-plain c both.0, name-printed name both.1) refl

seconds-again : (seconds : ℕ) → seconds < 4294967296 → seconds_in (decimal seconds) ≡ Ok seconds
unfolding seconds_in
seconds-again seconds fits = rw (decimal-read seconds fits) refl

settings-again : (settings : SettingsRecord) → settings.skew ≤ 86400 → 1 ≤ settings.lifetime → settings.lifetime ≤ 31536000
    → settings_of settings.skew settings.lifetime ≡ Ok (record { skew = settings.skew; lifetime = settings.lifetime; policy = NO_POLICY })
unfolding settings_of
settings-again settings skew from_one lifetime =
    let first : nat_le settings.skew 86400 ≡ true = grind (arith, nat_tests) in
    let second : nat_le 1 settings.lifetime ≡ true = grind (arith, nat_tests) in
    let third : nat_le settings.lifetime 31536000 ≡ true = grind (arith, nat_tests) in
    rw (first, second, third) refl

pkinit-again : (pkinit : Option Bytes) → ArePkinitBytes pkinit → pkinit_in (option_map encode_lower pkinit) ≡ Ok pkinit
pkinit-again None are = refl
pkinit-again (Some octets) are =
    let bytes = are.0 in
    let count = are.1 in
    let some : (length octets == 0) ≡ false = grind (arith, nat_tests) in
    rw (decode_of-encode_lower octets bytes, some) refl

realm-again : (name : Bytes) (settings : SettingsRecord) (guards : Bool) (pkinit : Option Bytes) → IsRealm name settings pkinit
    → realm_in name (decimal settings.skew) (decimal settings.lifetime) settings.policy guards (option_map encode_lower pkinit) ≡ Ok (realm name settings guards pkinit)
unfolding realm_in realm_name_in
realm-again name settings guards pkinit is =
    let skew = is.settings_are.0 in
    let from_one = is.settings_are.1.0 in
    let lifetime = is.settings_are.1.1 in
    rw (is.name_is, is.printed, seconds-again settings.skew (omega arith), seconds-again settings.lifetime (omega arith), settings-again settings skew from_one lifetime, pkinit-again pkinit is.pkinit_are) refl

-- the parts of the realm's line
realm-parts : (name : Bytes) (settings : SettingsRecord) (pkinit : Option Bytes) → IsRealm name settings pkinit → (last : List ℕ) (parts : List (List ℕ))
    → fields (decimal settings.lifetime ++ last) ≡ decimal settings.lifetime ∷ parts
    → fields (codes "realm" ++ 9 ∷ (name ++ 9 ∷ (decimal settings.skew ++ 9 ∷ (decimal settings.lifetime ++ last)))) ≡ codes "realm" ∷ name ∷ decimal settings.skew ∷ decimal settings.lifetime ∷ parts
realm-parts name settings pkinit is last parts behind =
    let skew : List ℕ = decimal settings.skew in
    let lifetime : List ℕ = decimal settings.lifetime ++ last in
    let skew_is = is.settings_are.0 in
    tab-part (codes "realm") (name ++ 9 ∷ (skew ++ 9 ∷ lifetime)) refl
    ∙ ap (λ more. codes "realm" ∷ more)
    (tab-part name (skew ++ 9 ∷ lifetime) (name-printed name is.printed)
    ∙ ap (λ more. name ∷ more)
    (tab-part skew lifetime (plain-decimal settings.skew (omega arith)) ∙ ap (λ more. skew ∷ more) behind))

plain-lifetime : (name : Bytes) (settings : SettingsRecord) (pkinit : Option Bytes) → IsRealm name settings pkinit → is_all_plain (decimal settings.lifetime) ≡ true
plain-lifetime name settings pkinit is = let lifetime_is = is.settings_are.1.1 in plain-decimal settings.lifetime (omega arith)

-- the further fields of the realm's line, and the line that they have
abbrev words_fields : List ℕ → List ℕ → List (List ℕ)
words_fields [] octets = []
words_fields (c ∷ words) octets = (c ∷ words) ∷ octets ∷ []

-- two plain fields after a plain one
two-parts : (first words last : List ℕ) → is_all_plain first ≡ true → is_all_plain words ≡ true → is_all_plain last ≡ true
    → fields (first ++ 9 ∷ (words ++ 9 ∷ last)) ≡ first ∷ words ∷ last ∷ []
two-parts first words last plain_first plain_words plain_last =
    tab-part first (words ++ 9 ∷ last) plain_first
    ∙ ap (λ more. first ∷ more) (tab-part words last plain_words ∙ ap (λ more. words ∷ more) (tab-last last plain_last))

further-parts : (lifetime words octets : List ℕ) → is_all_plain lifetime ≡ true → is_all_plain words ≡ true → is_all_plain octets ≡ true
    → fields (lifetime ++ further_by words octets) ≡ lifetime ∷ words_fields words octets
further-parts lifetime [] octets plain_lifetime plain_words plain_octets = rw append-nil (tab-last lifetime plain_lifetime)
further-parts lifetime (c ∷ words) octets plain_lifetime plain_words plain_octets =
    ap (λ (more : List ℕ). fields (lifetime ++ more)) (further-more c words octets) ∙ two-parts lifetime (c ∷ words) octets plain_lifetime plain_words plain_octets

none-line : (name skew lifetime : List ℕ) (policy : Policy) (guards : Bool) (pkinit : Option Bytes) → no_words ≡ says policy guards (is_some pkinit)
    → line_of (codes "realm" ∷ name ∷ skew ∷ lifetime ∷ []) ≡ realm_in name skew lifetime policy guards (option_map encode_lower pkinit)
none-line name skew lifetime policy guards None same = ap (λ (words : Words). realm_in name skew lifetime words.policy words.guards_passwords None) same
none-line name skew lifetime policy guards (Some octets) same = let off : false ≡ true = ap (λ (words : Words). words.is_certified) same in absurd (cc (off))

pkinit-line : (name skew lifetime : List ℕ) (policy : Policy) (guards : Bool) (pkinit : Option Bytes)
    → realm_by name skew lifetime (salt_text pkinit) (says policy guards (is_some pkinit)) ≡ realm_in name skew lifetime policy guards (option_map encode_lower pkinit)
pkinit-line name skew lifetime policy guards None = refl
pkinit-line name skew lifetime policy guards (Some octets) = refl

further-line : (name skew lifetime : List ℕ) (policy : Policy) (guards : Bool) (pkinit : Option Bytes) → policy.renewable_life ≤ 31536000 → (words : List ℕ)
    → words_text policy guards (is_some pkinit) ≡ words
    → line_of (codes "realm" ∷ name ∷ skew ∷ lifetime ∷ words_fields words (salt_text pkinit)) ≡ realm_in name skew lifetime policy guards (option_map encode_lower pkinit)
further-line name skew lifetime policy guards pkinit few [] is = none-line name skew lifetime policy guards pkinit (no-words policy guards (is_some pkinit) few is)
further-line name skew lifetime policy guards pkinit few (c ∷ words) is =
    ap (λ (own : Result Words LineFault). own >>= realm_by name skew lifetime (salt_text pkinit)) (words-read policy guards (is_some pkinit) c words few is)
    ∙ pkinit-line name skew lifetime policy guards pkinit

realm-line : (name : Bytes) (settings : SettingsRecord) (guards : Bool) (pkinit : Option Bytes) → IsRealm name settings pkinit
    → line_in (realm_text name settings guards pkinit) ≡ Ok (realm name settings guards pkinit)
unfolding line_in
realm-line name settings guards pkinit is =
    let lifetime : List ℕ = decimal settings.lifetime in
    let words : List ℕ = words_text settings.policy guards (is_some pkinit) in
    let octets : List ℕ = salt_text pkinit in
    let last = further-parts lifetime words octets (plain-lifetime name settings pkinit is) (plain-words settings.policy guards (is_some pkinit) is.life_is) (plain-salt pkinit) in
    ap line_of (realm-parts name settings pkinit is (further_by words octets) (words_fields words octets) last)
    ∙ further-line name (decimal settings.skew) lifetime settings.policy guards pkinit is.life_is words refl ∙ realm-again name settings guards pkinit is

comment-line : (text : Bytes) → IsComment text → line_in text ≡ Ok (comment text)
unfolding line_in
comment-line text is =
    let begins : (slice_index text 0 == 35) ≡ true = rw is.begins refl in
    rw (is.unmarked, begins) refl

pub line-again : (line : WrittenLine) → IsWritable line → line_in (line_text line) ≡ Ok line
line-again (comment text) is = comment-line text is
line-again (realm name settings guards pkinit) is = realm-line name settings guards pkinit is
line-again (account name own true) is = disabled-line name own is
line-again (account name own false) is = account-line name own is

realm-front : (name : Bytes) (settings : SettingsRecord) (pkinit : Option Bytes) → IsRealm name settings pkinit → (last : List ℕ)
    → list_all (λ octet. not (octet == 10)) (decimal settings.lifetime ++ last) ≡ true
    → list_all (λ octet. not (octet == 10)) (codes "realm" ++ 9 ∷ (name ++ 9 ∷ (decimal settings.skew ++ 9 ∷ (decimal settings.lifetime ++ last)))) ≡ true
realm-front name settings pkinit is last fed =
    let skew = is.settings_are.0 in
    fed-part (codes "realm") (name ++ 9 ∷ (decimal settings.skew ++ 9 ∷ (decimal settings.lifetime ++ last))) refl
    (fed-part name (decimal settings.skew ++ 9 ∷ (decimal settings.lifetime ++ last)) (name-printed name is.printed)
    (fed-part (decimal settings.skew) (decimal settings.lifetime ++ last) (plain-decimal settings.skew (omega arith)) fed))

two-fed : (first words last : List ℕ) → is_all_plain first ≡ true → is_all_plain words ≡ true → is_all_plain last ≡ true
    → list_all (λ octet. not (octet == 10)) (first ++ 9 ∷ (words ++ 9 ∷ last)) ≡ true
two-fed first words last plain_first plain_words plain_last = fed-part first (words ++ 9 ∷ last) plain_first (fed-part words last plain_words (fed-plain last plain_last))

further-fed : (lifetime words octets : List ℕ) → is_all_plain lifetime ≡ true → is_all_plain words ≡ true → is_all_plain octets ≡ true
    → list_all (λ octet. not (octet == 10)) (lifetime ++ further_by words octets) ≡ true
further-fed lifetime [] octets plain_lifetime plain_words plain_octets = rw append-nil (fed-plain lifetime plain_lifetime)
further-fed lifetime (c ∷ words) octets plain_lifetime plain_words plain_octets =
    ap (λ (more : List ℕ). list_all (λ octet. not (octet == 10)) (lifetime ++ more)) (further-more c words octets)
    ∙ two-fed lifetime (c ∷ words) octets plain_lifetime plain_words plain_octets

realm-fed : (name : Bytes) (settings : SettingsRecord) (guards : Bool) (pkinit : Option Bytes) → IsRealm name settings pkinit
    → list_all (λ octet. not (octet == 10)) (realm_text name settings guards pkinit) ≡ true
realm-fed name settings guards pkinit is =
    let words : List ℕ = words_text settings.policy guards (is_some pkinit) in
    let octets : List ℕ = salt_text pkinit in
    realm-front name settings pkinit is (further_by words octets)
    (further-fed (decimal settings.lifetime) words octets (plain-lifetime name settings pkinit is) (plain-words settings.policy guards (is_some pkinit) is.life_is) (plain-salt pkinit))

fields-fed : (name : List Bytes) (own : AccountRecord) → IsAccount name own → list_all (λ octet. not (octet == 10)) (account_fields name own) ≡ true
fields-fed name own is =
    let key : List ℕ = encode_lower own.key ++ further_fields own in
    fed-part (guarded (name_text name)) (suite_name own.suite ++ 9 ∷ (decimal own.kvno ++ 9 ∷ (salt_text own.salt ++ 9 ∷ key))) (plain-first name is.name_is)
    (fed-part (suite_name own.suite) (decimal own.kvno ++ 9 ∷ (salt_text own.salt ++ 9 ∷ key)) (plain-suite own.suite)
    (fed-part (decimal own.kvno) (salt_text own.salt ++ 9 ∷ key) (plain-decimal own.kvno (omega (arith, is.kvno_fits)))
    (fed-part (salt_text own.salt) key (plain-salt own.salt) (further-fed-by name own is))))

pub line-fed : (line : WrittenLine) → IsWritable line → list_all (λ octet. not (octet == 10)) (line_text line) ≡ true
line-fed (comment text) is = is.line
line-fed (realm name settings guards pkinit) is = realm-fed name settings guards pkinit is
line-fed (account name own true) is = all-both (λ octet. not (octet == 10)) disabled_mark (account_fields name own) refl (fields-fed name own is)
line-fed (account name own false) is = fields-fed name own is
