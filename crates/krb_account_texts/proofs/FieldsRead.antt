-- A field that is read can be written.
use Rattle.std.proofs.Common.{◌≡◌, ℕ, ◌+◌, ◌-◌, ◌*◌, ◌<◌, ◌≤◌, ◌==◌, ◌||◌, nat_eq, nat_lt, Bool, true, false, cond, List, [], ◌∷◌, length, codes, Option, None, Some, option_and_then, Result, Ok, Err, refl, ap, subst, arith}
use Rattle.std.specs.Cmp.Lexicographic.{pointwise}
use Rattle.std.proofs.lemmas.Bool.Decides.{nat_tests}
use Rattle.hex.specs.Hex.{IsBytes, decode_of}
use Rattle.hex.proofs.HexLemmas.{decode_of-ok}
use Rattle.picky_asn1.specs.Bytes.{Bytes}
use Rattle.krb_messages.specs.NameReading.{components_in, is_ascii}
use Rattle.krb_messages.specs.declared.name_reading.NameTextFault.{NameTextFault}
use Rattle.krb_realm_accounts.specs.Names.{AreComponents, are_components}
use Rattle.krb_crypto.specs.Suites.{cipher_key_size}
use Rattle.krb_crypto.specs.declared.suite.CipherSuite.{CipherSuite}
use Rattle.krb_account_texts.specs.Reading.{digits_behind, judged_kvno, judged_name, key_in, name_in, next_number, number_in, octets_told, salt_in, sized_key, some_salt}
use Rattle.krb_account_texts.specs.Steps.{◌>>=◌}
use Rattle.krb_account_texts.specs.Writable.{IsSalt}
use Rattle.krb_account_texts.specs.declared.fault.LineFault.{LineFault}
use Rattle.krb_account_texts.specs.declared.fault.LineFault.TheVariants as fault

-- the steps before one that gave a value
pub bind-ok : {A B E : Type 0} (x : Result A E) (next : A → Result B E) (y : B) → (x >>= next) ≡ Ok y → (a : A) × (x ≡ Ok a) × (next a ≡ Ok y)
bind-ok (Ok a) next y is = (a, refl, is)
bind-ok (Err e) next y is = absurd (cc (is))

-- names
name-by : (own name : List Bytes) (fits : Bool) → are_components own ≡ fits → cond fits (Ok own) (Err fault.Name) ≡ Ok name → AreComponents name
name-by own name true are is = let same : own ≡ name = cc is in subst (λ (it : List Bytes). are_components it ≡ true) same are
name-by own name false are is = absurd (cc (is))

judged-ok : (r : Result (List Bytes) NameTextFault) (name : List Bytes) → judged_name r ≡ Ok name → AreComponents name
judged-ok (Ok own) name is = name-by own name (are_components own) refl is
judged-ok (Err e) name is = absurd (cc (is))

-- kvnos
next-by : (number digit next : ℕ) (no_digit fits : Bool) → nat_lt (10 * number + (digit - 48)) 4294967296 ≡ fits
    → cond no_digit None (cond fits (Some (10 * number + (digit - 48))) None) ≡ Some next → next < 4294967296
next-by number digit next true fits test is = absurd (cc (is))
next-by number digit next false false test is = absurd (cc (is))
next-by number digit next false true test is = let same : 10 * number + (digit - 48) ≡ next = cc is in grind (arith, nat_tests)

next-below : (number digit next : ℕ) → next_number number digit ≡ Some next → next < 4294967296
next-below number digit next is = next-by number digit next (nat_lt digit 48 || nat_lt 57 digit) (nat_lt (10 * number + (digit - 48)) 4294967296) refl is

some-then : (o : Option ℕ) (f : ℕ → Option ℕ) (n : ℕ) → option_and_then f o ≡ Some n → (k : ℕ) × (o ≡ Some k) × (f k ≡ Some n)
some-then None f n is = absurd (cc (is))
some-then (Some k) f n is = (k, refl, is)

digits-below : (number : ℕ) (digits : List ℕ) (n : ℕ) → number < 4294967296 → digits_behind number digits ≡ Some n → n < 4294967296
digits-below number [] n below is = let same : number ≡ n = cc is in omega arith
digits-below number (digit ∷ digits) n below is =
    let step = some-then (next_number number digit) (λ (k : ℕ). digits_behind k digits) n is in
    digits-below step.0 digits n (next-below number digit step.0 step.1) step.2

number-by : (digits : List ℕ) (n : ℕ) (is_none : Bool) → cond is_none None (digits_behind 0 digits) ≡ Some n → n < 4294967296
number-by digits n true is = absurd (cc (is))
number-by digits n false is = digits-below 0 digits n (omega arith) is

pub number-below : (digits : List ℕ) (n : ℕ) → number_in digits ≡ Some n → n < 4294967296
unfolding number_in
number-below digits n is = number-by digits n (length digits == 0) is

kvno-by : (own kvno : ℕ) (is_zero : Bool) → (own == 0) ≡ is_zero → cond is_zero (Err fault.Kvno) (Ok own) ≡ Ok kvno → (own ≡ kvno) × (1 ≤ own)
kvno-by own kvno true test is = absurd (cc (is))
kvno-by own kvno false test is = (cc (is), grind (arith, nat_tests))

pub kvno-ok : (o : Option ℕ) (kvno : ℕ) → judged_kvno o ≡ Ok kvno → (o ≡ Some kvno) × (1 ≤ kvno)
kvno-ok None kvno is = absurd (cc (is))
kvno-ok (Some own) kvno is =
    let same = kvno-by own kvno (own == 0) refl is in
    (ap Some same.0, subst (λ (it : ℕ). 1 ≤ it) same.0 same.1)

-- salts
told-ok : {E : Type 0} (otherwise : LineFault) (r : Result (List ℕ) E) (octets : List ℕ) → octets_told otherwise r ≡ Ok octets → r ≡ Ok octets
told-ok otherwise (Ok own) octets is = let same : own ≡ octets = cc is in ap Ok same
told-ok otherwise (Err e) octets is = absurd (cc (is))

salt-by : (octets : List ℕ) (salt : Option Bytes) (fits : Bool) → is_ascii octets ≡ fits → cond fits (Ok (Some octets)) (Err fault.SaltOctet) ≡ Ok salt → IsSalt salt
salt-by octets salt true ascii is = let same : Some octets ≡ salt = cc is in subst IsSalt same ascii
salt-by octets salt false ascii is = absurd (cc (is))

dash-by : (text : List ℕ) (salt : Option Bytes) (is_dash : Bool) → cond is_dash (Ok None) (octets_told fault.Salt (decode_of text) >>= some_salt) ≡ Ok salt → IsSalt salt
dash-by text salt true is = let same : None ≡ salt = cc is in subst IsSalt same tt
dash-by text salt false is =
    let step = bind-ok (octets_told fault.Salt (decode_of text)) some_salt salt is in
    salt-by step.0 salt (is_ascii step.0) refl step.2

pub salt-ok : (text : List ℕ) (salt : Option Bytes) → salt_in text ≡ Ok salt → IsSalt salt
unfolding salt_in
salt-ok text salt is = dash-by text salt (pointwise nat_eq text (codes "-")) is

-- keys
size-by : (octets key : List ℕ) (size : ℕ) (fits : Bool) → (length octets == size) ≡ fits → cond fits (Ok octets) (Err fault.Key) ≡ Ok key → (octets ≡ key) × (length octets ≡ size)
size-by octets key size true test is = (cc (is), grind (arith, nat_tests))
size-by octets key size false test is = absurd (cc (is))

pub key-ok : (suite : CipherSuite) (text key : List ℕ) → key_in suite text ≡ Ok key → (length key ≡ cipher_key_size suite) × IsBytes key
unfolding key_in
key-ok suite text key is =
    let step = bind-ok (octets_told fault.Key (decode_of text)) (sized_key suite) key is in
    let sized = size-by step.0 key (cipher_key_size suite) (length step.0 == cipher_key_size suite) refl step.2 in
    let bytes = decode_of-ok text step.0 (told-ok fault.Key (decode_of text) step.0 step.1) in
    (subst (λ (it : List ℕ). length it ≡ cipher_key_size suite) sized.0 sized.1, subst IsBytes sized.0 bytes.3)

-- the name
pub name-ok : (text : List ℕ) (name : List Bytes) → name_in text ≡ Ok name → AreComponents name
unfolding name_in
name-ok text name is = judged-ok (components_in text) name is
