-- What follows the key in an account's line is read as it was written.
use Rattle.std.proofs.Common.{◌≡◌, inl, inr, ℕ, ◌+◌, ◌-◌, ◌<◌, ◌≤◌, ◌^◌, ◌==◌, nat_eq, nat_le, nat_lt, not, Bool, true, false, cond, List, [], ◌∷◌, ◌++◌, length, map, codes, Result, Ok, refl, sym, ap, subst, ◌∙◌, arith}
use Rattle.std.specs.List.{AllByRecursion, list_all}
use Rattle.std.specs.Fmt.{decimal}
use Rattle.std.specs.Cmp.Lexicographic.{pointwise}
use Rattle.std.proofs.lemmas.Bool.{and_parts, or_parts}
use Rattle.std.proofs.lemmas.Bool.Decides.{eqb_tells, nat_tests}
use Rattle.std.proofs.lemmas.List.{append-nil}
use Rattle.hex.specs.Hex.{IsBytes, encode_lower}
use Rattle.picky_asn1.specs.Bytes.{Bytes}
use Rattle.krb_time.specs.declared.calendar.TheConstants.{EPOCH}
use Rattle.krb_crypto.specs.Suites.{cipher_key_size}
use Rattle.krb_crypto.specs.declared.suite.CipherSuite.{CipherSuite}
use Rattle.krb_crypto.specs.declared.suite.CipherSuite.TheVariants.{Aes128CtsHmacSha196, Aes256CtsHmacSha196, Des3CbcSha1Kd, Aes128CtsHmacSha256128, Aes256CtsHmacSha384192}
use Rattle.krb_settings.specs.Fields.{suite_name}
use Rattle.krb_realm_accounts.specs.Account.{AccountKeyRecord, AccountRecord, AreBefore, are_falling, is_set}
use Rattle.krb_realm_accounts.specs.declared.attributes.TheConstants.{NO_ATTRIBUTES}
use Rattle.krb_realm_accounts.proofs.Unset.{unset}
use Rattle.krb_account_texts.specs.FurtherLines.{ends_text, former_text, further_fields, has_further, lifetime_text, marks_of, marks_text, older_text}
use Rattle.krb_account_texts.specs.Reading.{colon_parts, ends_in, fields, former_in, further_in, lifetime_in, marked_in, marks_in, number_or_dash, older_in, older_of}
use Rattle.krb_account_texts.specs.Steps.{each_from}
use Rattle.krb_account_texts.specs.Writable.{IsAccount, IsEnd}
use Rattle.krb_account_texts.specs.declared.fault.LineFault.{LineFault}
use Rattle.krb_account_texts.specs.declared.fault.LineFault.TheVariants as fault
use Rattle.krb_account_texts.proofs.Feeds.{fed-part, fed-plain}
use Rattle.krb_account_texts.proofs.FieldsAgain.{key-again, kvno-again, suite-again}
use Rattle.krb_account_texts.proofs.Numbers.{decimal-read}
use Rattle.krb_account_texts.proofs.Plain.{all-both, all-cons, all-decimal, all-hex, is_all_plain, is_plain, plain-decimal, plain-hex, plain-suite, split-last, split-part}
use Rattle.krb_account_texts.proofs.Tabs.{tab-last, tab-part}

-- ---- numbers

abbrev is_digit : ℕ → Bool
is_digit c = nat_lt 47 c

digit-above : (c : ℕ) → 47 < c → is_digit c ≡ true
digit-above c above = grind (arith, nat_tests)

digits-dash : (digits : List ℕ) → list_all is_digit digits ≡ true → pointwise nat_eq digits (codes "-") ≡ false
digits-dash [] all = refl
digits-dash (c ∷ digits) all =
    let above : nat_lt 47 c ≡ true = (and_parts (nat_lt 47 c) (list_all is_digit digits) all).0 in
    let other : nat_eq c 45 ≡ false = grind (arith, nat_tests) in
    rw other refl

number-again : (otherwise : LineFault) (n : ℕ) → n < 2 ^ 32 → number_or_dash otherwise (decimal n) ≡ Ok n
number-again otherwise n fits =
    let apart : pointwise nat_eq (decimal n) (codes "-") ≡ false =
    digits-dash (decimal n) (all-decimal is_digit (λ digit small. digit-above (48 + digit) (omega arith)) n (omega arith)) in
    rw (apart, decimal-read n fits) refl

some-end : (ends : ℕ) → EPOCH < ends → ends < EPOCH + 2 ^ 32 → ends_in (ends_text ends) ≡ Ok ends
unfolding ends_in
some-end ends after fits =
    let seconds : ℕ = ends - EPOCH in
    let some : (ends == 0) ≡ false = grind (arith, nat_tests) in
    let more : (seconds == 0) ≡ false = grind (arith, nat_tests) in
    let whole : seconds + EPOCH ≡ ends = omega arith in
    let read : ℕ → Result ℕ LineFault = λ n. Ok n in
    rw (some, number-again fault.Ends seconds (omega arith), more) (ap read whole)

ends-again : (ends : ℕ) → IsEnd ends → ends_in (ends_text ends) ≡ Ok ends
unfolding ends_in
ends-again ends (inl none) = subst (λ (n : ℕ). ends_in (ends_text n) ≡ Ok n) (sym none) refl
ends-again ends (inr (after, fits)) = some-end ends after fits

lifetime-again : (lifetime : ℕ) → lifetime < 2 ^ 32 → lifetime_in (lifetime_text lifetime) ≡ Ok lifetime
unfolding lifetime_in
lifetime-again lifetime fits = elim (eqb_tells lifetime 0) [
  | inl none ↦ subst (λ (n : ℕ). number_or_dash fault.Lifetime (lifetime_text n) ≡ Ok n) (sym none.1) refl
  | inr some ↦ rw some.0 (number-again fault.Lifetime lifetime fits)
]

-- ---- marks

marks-again : (off change service : Bool)
    → marks_in (marks_text off change service) ≡ Ok (record { ends = 0; is_off = off; must_change = change; lifetime = 0; is_no_service = service })
unfolding marks_in marks_text
marks-again false false false = refl
marks-again true false false = refl
marks-again false true false = refl
marks-again true true false = refl
marks-again false false true = refl
marks-again true false true = refl
marks-again false true true = refl
marks-again true true true = refl

-- ---- older keys

abbrev is_colon : ℕ → Bool
is_colon octet = octet == 58

abbrev is_other : ℕ → Bool
is_other octet = not (octet == 58)

not-true : (b : Bool) → not b ≡ true → b ≡ false
not-true true is = cc is
not-true false is = refl

other-below : (c : ℕ) → c < 58 → is_other c ≡ true
other-below c below = grind (arith, nat_tests)

suite-other : (suite : CipherSuite) → list_all is_other (suite_name suite) ≡ true
unfolding suite_name
suite-other Aes128CtsHmacSha196 = refl
suite-other Aes256CtsHmacSha196 = refl
suite-other Des3CbcSha1Kd = refl
suite-other Aes128CtsHmacSha256128 = refl
suite-other Aes256CtsHmacSha384192 = refl

decimal-other : (n : ℕ) → n < 2 ^ 64 → list_all is_other (decimal n) ≡ true
decimal-other = all-decimal is_other (λ digit small. other-below (48 + digit) (omega arith))

older-parts : (own : AccountKeyRecord) → own.kvno < 2 ^ 32 → colon_parts (older_text own) ≡ suite_name own.suite ∷ decimal own.kvno ∷ encode_lower own.key ∷ []
older-parts own fits =
    let suite : List ℕ = suite_name own.suite in
    let kvno : List ℕ = decimal own.kvno in
    let key : List ℕ = encode_lower own.key in
    let apart : (c : ℕ) → is_other c ≡ true → is_colon c ≡ false = λ c. not-true (c == 58) in
    split-part is_colon is_other apart suite 58 (kvno ++ 58 ∷ key) (suite-other own.suite) refl
    ∙ ap (λ parts. suite ∷ parts)
    (split-part is_colon is_other apart kvno 58 key (decimal-other own.kvno (omega arith)) refl
    ∙ ap (λ parts. kvno ∷ parts) (split-last is_colon is_other apart key (all-hex is_other own.key refl refl)))

older-again : (own : AccountKeyRecord) (place : ℕ) → 1 ≤ own.kvno → own.kvno < 2 ^ 32 → length own.key ≡ cipher_key_size own.suite → IsBytes own.key → older_in place (older_text own) ≡ Ok own
older-again own place counts fits sized bytes =
    ap older_of (older-parts own fits) ∙ rw (suite-again own.suite, kvno-again own.kvno counts fits, key-again own.suite own.key sized bytes) refl

keys-again : (keys : List AccountKeyRecord) (n below : ℕ) → below ≤ 2 ^ 32 → AreBefore below keys → AllByRecursion (λ own. IsBytes own.key) keys → each_from older_in n (map older_text keys) ≡ Ok keys
keys-again [] n below few before bytes = refl
keys-again (own ∷ keys) n below few (older, before) bytes =
    rw (older-again own n older.counts (omega (arith, older.less, few)) older.sized bytes.0, keys-again keys (n + 1) own.kvno (omega (arith, older.less, few)) before bytes.1) refl

below-tells : (n m : ℕ) → n < m → nat_lt n m ≡ true
below-tells n m less = grind (arith, nat_tests)

falling-again : (keys : List AccountKeyRecord) (below : ℕ) → AreBefore below keys → are_falling below keys ≡ true
falling-again [] below before = refl
falling-again (own ∷ keys) below (older, before) = rw (below-tells own.kvno below older.less, falling-again keys own.kvno before) refl

former-again : (keys : List AccountKeyRecord) (kvno : ℕ) → kvno < 2 ^ 32 → AreBefore kvno keys → length keys ≤ 15 → AllByRecursion (λ own. IsBytes own.key) keys
    → former_in kvno (map older_text keys) ≡ Ok keys
unfolding former_in
former-again keys kvno fits before few bytes =
    let counted : nat_le (length keys) 15 ≡ true = grind (arith, nat_tests) in
    rw (keys-again keys 1 kvno (omega arith) before bytes, counted, falling-again keys kvno before) refl

-- ---- all of them

abbrev pub parts_where : Bool → AccountRecord → List (List ℕ)
parts_where true own = ends_text own.attributes.ends ∷ lifetime_text own.attributes.lifetime ∷ marks_of own.attributes ∷ map older_text own.former
parts_where false own = []

-- the fields that follow the key
abbrev pub further_parts : AccountRecord → List (List ℕ)
further_parts own = parts_where (has_further own) own

empty : (keys : List AccountKeyRecord) → nat_lt 0 (length keys) ≡ false → [] ≡ keys
empty [] none = refl
empty (own ∷ keys) none = let some : 0 < length keys + 1 = omega arith in absurd (grind (arith, nat_tests))

pub further-again : (name : List Bytes) (own : AccountRecord) → IsAccount name own → further_in own.kvno (further_parts own) ≡ Ok (record { attributes = own.attributes; former = own.former })
unfolding marked_in
further-again name own is = by (has_further own) refl
  where
    by : (further : Bool) → has_further own ≡ further → further_in own.kvno (parts_where further own) ≡ Ok (record { attributes = own.attributes; former = own.former })
    by true some =
        rw (
          ends-again own.attributes.ends is.ends,
          lifetime-again own.attributes.lifetime is.lifetime,
          marks-again own.attributes.is_off own.attributes.must_change own.attributes.is_no_service,
          former-again own.former own.kvno is.kvno_fits is.before is.few is.bytes,
        ) refl
    by false none =
        let both = or_parts (is_set own.attributes) (nat_lt 0 (length own.former)) none in
        let free : NO_ATTRIBUTES ≡ own.attributes = unset own.attributes both.0 in
        let alone : [] ≡ own.former = empty own.former both.1 in
        λ i. Ok (record { attributes = free i; former = alone i })

-- ---- neither a tab nor a line feed in a field

plain-where : (b : Bool) (text : List ℕ) → is_all_plain text ≡ true → is_all_plain (cond b (codes "-") text) ≡ true
plain-where true text plain = refl
plain-where false text plain = plain

few-seconds : (ends : ℕ) → IsEnd ends → ends - EPOCH < 2 ^ 32
few-seconds ends (inl none) = omega arith
few-seconds ends (inr (after, fits)) = omega arith

plain-ends : (ends : ℕ) → IsEnd ends → is_all_plain (ends_text ends) ≡ true
plain-ends ends is = let few = few-seconds ends is in plain-where (ends == 0) (decimal (ends - EPOCH)) (plain-decimal (ends - EPOCH) (omega arith))

plain-lifetime : (lifetime : ℕ) → lifetime < 2 ^ 32 → is_all_plain (lifetime_text lifetime) ≡ true
plain-lifetime lifetime fits = plain-where (lifetime == 0) (decimal lifetime) (plain-decimal lifetime (omega arith))

plain-marks : (off change service : Bool) → is_all_plain (marks_text off change service) ≡ true
unfolding marks_text
plain-marks false false false = refl
plain-marks true false false = refl
plain-marks false true false = refl
plain-marks true true false = refl
plain-marks false false true = refl
plain-marks true false true = refl
plain-marks false true true = refl
plain-marks true true true = refl

plain-older : (own : AccountKeyRecord) → own.kvno < 2 ^ 32 → is_all_plain (older_text own) ≡ true
plain-older own fits =
    let kvno : List ℕ = decimal own.kvno in
    let key : List ℕ = encode_lower own.key in
    all-both is_plain (suite_name own.suite) (58 ∷ (kvno ++ 58 ∷ key)) (plain-suite own.suite)
    (all-cons is_plain 58 (kvno ++ 58 ∷ key) refl
    (all-both is_plain kvno (58 ∷ key) (plain-decimal own.kvno (omega arith)) (all-cons is_plain 58 key refl (plain-hex own.key))))

-- ---- the fields of a text

cells : (first : List ℕ) (keys : List AccountKeyRecord) (below : ℕ) → is_all_plain first ≡ true → below ≤ 2 ^ 32 → AreBefore below keys → fields (first ++ former_text keys) ≡ first ∷ map older_text keys
cells first [] below plain few before = rw append-nil (tab-last first plain)
cells first (own ∷ keys) below plain few (older, before) =
    let fits : own.kvno < 2 ^ 32 = omega (arith, older.less, few) in
    tab-part first (older_text own ++ former_text keys) plain
    ∙ ap (λ parts. first ∷ parts) (cells (older_text own) keys own.kvno (plain-older own fits) (omega (arith, fits)) before)

cells-fed : (first : List ℕ) (keys : List AccountKeyRecord) (below : ℕ) → is_all_plain first ≡ true → below ≤ 2 ^ 32 → AreBefore below keys
    → list_all (λ octet. not (octet == 10)) (first ++ former_text keys) ≡ true
cells-fed first [] below plain few before = rw append-nil (fed-plain first plain)
cells-fed first (own ∷ keys) below plain few (older, before) =
    let fits : own.kvno < 2 ^ 32 = omega (arith, older.less, few) in
    fed-part first (older_text own ++ former_text keys) plain (cells-fed (older_text own) keys own.kvno (plain-older own fits) (omega (arith, fits)) before)

module _ (name : List Bytes) (own : AccountRecord) (is : IsAccount name own) where
  abbrev key : List ℕ
  key = encode_lower own.key

  abbrev ends : List ℕ
  ends = ends_text own.attributes.ends

  abbrev lifetime : List ℕ
  lifetime = lifetime_text own.attributes.lifetime

  abbrev marks : List ℕ
  marks = marks_of own.attributes

  abbrev text_where : Bool → List ℕ
  text_where further = cond further (9 ∷ (ends ++ 9 ∷ (lifetime ++ 9 ∷ (marks ++ former_text own.former)))) []

  plain_marks : is_all_plain marks ≡ true
  plain_marks = plain-marks own.attributes.is_off own.attributes.must_change own.attributes.is_no_service

  few_kvno : own.kvno ≤ 2 ^ 32
  few_kvno = omega (arith, is.kvno_fits)

  cells_by : (further : Bool) → fields (key ++ text_where further) ≡ key ∷ parts_where further own
  cells_by true =
      tab-part key (ends ++ 9 ∷ (lifetime ++ 9 ∷ (marks ++ former_text own.former))) (plain-hex own.key)
      ∙ ap (λ parts. key ∷ parts)
      (tab-part ends (lifetime ++ 9 ∷ (marks ++ former_text own.former)) (plain-ends own.attributes.ends is.ends)
      ∙ ap (λ parts. ends ∷ parts)
      (tab-part lifetime (marks ++ former_text own.former) (plain-lifetime own.attributes.lifetime is.lifetime)
      ∙ ap (λ parts. lifetime ∷ parts) (cells marks own.former own.kvno plain_marks few_kvno is.before)))
  cells_by false = rw append-nil (tab-last key (plain-hex own.key))

  fed_by : (further : Bool) → list_all (λ octet. not (octet == 10)) (key ++ text_where further) ≡ true
  fed_by true =
      fed-part key (ends ++ 9 ∷ (lifetime ++ 9 ∷ (marks ++ former_text own.former))) (plain-hex own.key)
      (fed-part ends (lifetime ++ 9 ∷ (marks ++ former_text own.former)) (plain-ends own.attributes.ends is.ends)
      (fed-part lifetime (marks ++ former_text own.former) (plain-lifetime own.attributes.lifetime is.lifetime)
      (cells-fed marks own.former own.kvno plain_marks few_kvno is.before)))
  fed_by false = rw append-nil (fed-plain key (plain-hex own.key))

pub further-cells : (name : List Bytes) (own : AccountRecord) → IsAccount name own → fields (encode_lower own.key ++ further_fields own) ≡ encode_lower own.key ∷ further_parts own
further-cells name own is = cells_by name own is (has_further own)

pub further-fed-by : (name : List Bytes) (own : AccountRecord) → IsAccount name own → list_all (λ octet. not (octet == 10)) (encode_lower own.key ++ further_fields own) ≡ true
further-fed-by name own is = fed_by name own is (has_further own)
