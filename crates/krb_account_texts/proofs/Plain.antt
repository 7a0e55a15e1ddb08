-- What is written of a field has neither a tab nor a line feed.
use Rattle.std.proofs.Common.{◌≡◌, inl, inr, ℕ, zero, suc, ◌+◌, ◌/◌, ◌%◌, ◌<◌, ◌^◌, ◌==◌, ◌&&◌, ◌||◌, nat_lt, Bool, true, false, List, [], ◌∷◌, ◌++◌, slice_index, IsTrue, refl, ap, sym, subst, ◌∙◌, arith}
use Rattle.std.specs.List.{flat_map, list_all, slice_split}
use Rattle.std.specs.Fmt.{decimal}
use Rattle.std.specs.Char.{encode_utf8}
use Rattle.std.proofs.lemmas.Bool.{and_parts, ltb-true}
use Rattle.std.proofs.lemmas.Bool.Decides.{eqb_tells, nat_tests}
use Rattle.std.proofs.lemmas.Fmt.{decimal_by_steps}
use Rattle.std.proofs.lemmas.List.Folds.{list_all-append}
use Rattle.std.proofs.lemmas.Str.{encode_ascii}
use Rattle.hex.specs.Hex.{encode_lower, encode_with, lower_digits}
use Rattle.krb_crypto.specs.declared.suite.CipherSuite.{CipherSuite}
use Rattle.krb_crypto.specs.declared.suite.CipherSuite.TheVariants.{Aes128CtsHmacSha196, Aes256CtsHmacSha196, Des3CbcSha1Kd, Aes128CtsHmacSha256128, Aes256CtsHmacSha384192}
use Rattle.krb_settings.specs.Fields.{suite_name}
use Rattle.krb_messages.specs.NameText.{component_text, escaped, name_text}

-- neither a tab nor a line feed
abbrev pub is_plain : ℕ → Bool
is_plain c = nat_lt c 9 || nat_lt 10 c

abbrev pub is_all_plain : List ℕ → Bool
is_all_plain = list_all is_plain

pub plain-above : (c : ℕ) → 10 < c → is_plain c ≡ true
plain-above c above = grind (arith, nat_tests)

pub plain-below : (c : ℕ) → c < 9 → is_plain c ≡ true
plain-below c below = grind (arith, nat_tests)

pub no_tab : (c : ℕ) → is_plain c ≡ true → (c == 9) ≡ false
no_tab c plain = grind (arith, nat_tests)

pub no_feed : (c : ℕ) → is_plain c ≡ true → (c == 10) ≡ false
no_feed c plain = grind (arith, nat_tests)

both_true : (a b : Bool) → a ≡ true → b ≡ true → (a && b) ≡ true
both_true true true p q = refl
both_true true false p q = q
both_true false b p q = p

pub all-both : (p : ℕ → Bool) (xs ys : List ℕ) → list_all p xs ≡ true → list_all p ys ≡ true → list_all p (xs ++ ys) ≡ true
all-both p xs ys first second = list_all-append p xs ys ∙ both_true _ _ first second

pub all-cons : (p : ℕ → Bool) (x : ℕ) (xs : List ℕ) → p x ≡ true → list_all p xs ≡ true → list_all p (x ∷ xs) ≡ true
all-cons p x xs first second = both_true (p x) (list_all p xs) first second

-- decimal digits
pub all-decimal : (p : ℕ → Bool) → ((digit : ℕ) → digit < 10 → p (48 + digit) ≡ true) → (n : ℕ) → n < 2 ^ 64 → list_all p (decimal n) ≡ true
all-decimal p passes n below =
    decimal_by_steps (λ n ds. list_all p ds ≡ true)
    (λ n small. all-cons p (48 + n) [] (passes n small) refl)
    (λ n ds big so_far. all-both p ds ((48 + n % 10) ∷ []) so_far (all-cons p (48 + n % 10) [] (passes (n % 10) (omega arith)) refl))
    n below

pub plain-decimal : (n : ℕ) → n < 2 ^ 64 → is_all_plain (decimal n) ≡ true
plain-decimal = all-decimal is_plain (λ digit small. plain-above (48 + digit) (omega arith))

-- hexadecimal digits
at-all : (p : ℕ → Bool) (xs : List ℕ) (i : ℕ) → list_all p xs ≡ true → p 0 ≡ true → p (slice_index xs i) ≡ true
at-all p [] i all none = none
at-all p (x ∷ xs) zero all none = (and_parts (p x) (list_all p xs) all).0
at-all p (x ∷ xs) (suc i) all none = at-all p xs i (and_parts (p x) (list_all p xs) all).1 none

all-encode : (p : ℕ → Bool) (t xs : List ℕ) → list_all p t ≡ true → p 0 ≡ true → list_all p (encode_with t xs) ≡ true
unfolding encode_with
all-encode p t [] all none = refl
all-encode p t (b ∷ rest) all none =
    all-cons p (slice_index t (b / 16)) (slice_index t (b % 16) ∷ encode_with t rest) (at-all p t (b / 16) all none)
    (all-cons p (slice_index t (b % 16)) (encode_with t rest) (at-all p t (b % 16) all none) (all-encode p t rest all none))

pub all-hex : (p : ℕ → Bool) (xs : List ℕ) → list_all p lower_digits ≡ true → p 0 ≡ true → list_all p (encode_lower xs) ≡ true
all-hex p xs all none = all-encode p lower_digits xs all none

pub plain-hex : (xs : List ℕ) → is_all_plain (encode_lower xs) ≡ true
plain-hex xs = all-hex is_plain xs refl refl

-- suites
pub plain-suite : (suite : CipherSuite) → is_all_plain (suite_name suite) ≡ true
unfolding suite_name
plain-suite Aes128CtsHmacSha196 = refl
plain-suite Aes256CtsHmacSha196 = refl
plain-suite Des3CbcSha1Kd = refl
plain-suite Aes128CtsHmacSha256128 = refl
plain-suite Aes256CtsHmacSha384192 = refl

-- names
abbrev IsPlainText : ℕ → Type 0
IsPlainText c = is_all_plain (escaped c) ≡ true

at : (c k : ℕ) → IsPlainText k → c ≡ k → IsPlainText c
at c k plain same = subst IsPlainText (sym same) plain

neither : (c : ℕ) → (c == 9) ≡ false → (c == 10) ≡ false → is_plain c ≡ true
neither c no9 no10 = grind (arith, nat_tests)

plain-escaped : (c : ℕ) → c < 128 → IsPlainText c
unfolding encode_utf8
plain-escaped c below = elim (eqb_tells c 0) [
  | inl y0 ↦ at c 0 refl y0.1
  | inr n0 ↦ elim (eqb_tells c 8) [
    | inl y8 ↦ at c 8 refl y8.1
    | inr n8 ↦ elim (eqb_tells c 9) [
      | inl y9 ↦ at c 9 refl y9.1
      | inr n9 ↦ elim (eqb_tells c 10) [
        | inl y10 ↦ at c 10 refl y10.1
        | inr n10 ↦ elim (eqb_tells c 47) [
          | inl y47 ↦ at c 47 refl y47.1
          | inr n47 ↦ elim (eqb_tells c 64) [
            | inl y64 ↦ at c 64 refl y64.1
            | inr n64 ↦ elim (eqb_tells c 92) [
              | inl y92 ↦ at c 92 refl y92.1
              | inr n92 ↦
                  let itself : escaped c ≡ c ∷ [] = rw (n0.0, n8.0, n9.0, n10.0, n47.0, n64.0, n92.0) (encode_ascii c below) in
                  ap is_all_plain itself ∙ all-cons is_plain c [] (neither c n9.0 n10.0) refl
            ]
          ]
        ]
      ]
    ]
  ]
]

plain-component : (text : List ℕ) → IsTrue (list_all (λ octet. nat_lt octet 128) text) → is_all_plain (component_text text) ≡ true
plain-component [] ascii = refl
plain-component (c ∷ text) ascii =
    let both = and_parts (nat_lt c 128) (list_all (λ octet. nat_lt octet 128) text) ascii in
    all-both is_plain (escaped c) (component_text text) (plain-escaped c (ltb-true c 128 both.0)) (plain-component text both.1)

plain-further : (components : List (List ℕ)) → IsTrue (list_all (list_all (λ octet. nat_lt octet 128)) components)
    → is_all_plain (flat_map (λ further. 47 ∷ component_text further) components) ≡ true
plain-further [] ascii = refl
plain-further (component ∷ components) ascii =
    let both = and_parts (list_all (λ octet. nat_lt octet 128) component) (list_all (list_all (λ octet. nat_lt octet 128)) components) ascii in
    all-both is_plain (47 ∷ component_text component) (flat_map (λ further. 47 ∷ component_text further) components)
    (plain-component component both.0) (plain-further components both.1)

pub plain-name : (components : List (List ℕ)) → IsTrue (list_all (list_all (λ octet. nat_lt octet 128)) components) → is_all_plain (name_text components) ≡ true
plain-name [] ascii = refl
plain-name (component ∷ components) ascii =
    let both = and_parts (list_all (λ octet. nat_lt octet 128) component) (list_all (list_all (λ octet. nat_lt octet 128)) components) ascii in
    all-both is_plain (component_text component) (flat_map (λ further. 47 ∷ component_text further) components)
    (plain-component component both.0) (plain-further components both.1)

-- parts between marks
pub split-part : (p q : ℕ → Bool) (apart : (c : ℕ) → q c ≡ true → p c ≡ false) (part : List ℕ) (mark : ℕ) (rest : List ℕ)
    → list_all q part ≡ true → p mark ≡ true → slice_split p (part ++ mark ∷ rest) ≡ part ∷ slice_split p rest
split-part p q apart [] mark rest plain is = rw is refl
split-part p q apart (c ∷ part) mark rest plain is =
    let both = and_parts (q c) (list_all q part) plain in
    let other = apart c both.0 in
    let further = split-part p q apart part mark rest both.1 is in
    rw (other, further) refl

pub split-last : (p q : ℕ → Bool) (apart : (c : ℕ) → q c ≡ true → p c ≡ false) (part : List ℕ)
    → list_all q part ≡ true → slice_split p part ≡ part ∷ []
split-last p q apart [] plain = refl
split-last p q apart (c ∷ part) plain =
    let both = and_parts (q c) (list_all q part) plain in
    let other = apart c both.0 in
    let further = split-last p q apart part both.1 in
    rw (other, further) refl
