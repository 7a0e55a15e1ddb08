-- What stands behind the key of an account's record is read as it was written.
use Rattle.std.proofs.Common.{◌≡◌, ◌≢◌, ℕ, suc, ◌+◌, ◌/◌, ◌%◌, ◌≤◌, ◌<◌, ◌^◌, ◌==◌, nat_le, nat_lt, Bool, true, false, List, [], ◌∷◌, ◌++◌, length, take, drop, slice_index, Option, None, Some, option_and_then, if◌then◌else◌, refl, ap, ◌∙◌, arith, append_assoc, length-append, le-ltb, ne_eqb}
use Rattle.std.specs.List.{flat_map}
use Rattle.std.specs.Option.{is_some, option_map}
use Rattle.std.proofs.lemmas.Bool.{lt-leb}
use Rattle.std.proofs.lemmas.Bool.Decides.{nat_tests}
use Rattle.std.proofs.lemmas.Grind.{common_steps}
use Rattle.byteorder.specs.Numbers.{little_number-reads_back}
use Rattle.byte_streams.specs.Numbers.{le32, le32_at, le64, le64_at}
use Rattle.krb_crypto.specs.Suites.{cipher_key_size, cipher_number}
use Rattle.krb_realm_accounts.specs.Account.{AccountKeyRecord, AccountRecord, AreBefore, IsWhole, is_set}
use Rattle.krb_realm_accounts.specs.declared.attributes.Attributes.{Attributes}
use Rattle.krb_realm_accounts.proofs.Unset.{unset}
use Rattle.krb_realm_files.specs.FurtherFields.{Told, attribute_marks, attributes_bytes, attributes_front, attributes_in, attributes_octets, former_front, former_octets, further_bytes, further_in, keys_in, marks_of, number_where, older_bytes, older_in, older_of, salt_in, salt_octets}
use Rattle.krb_realm_files.proofs.Numbered.{of_number}

-- what the octets in front say, and the octets behind them
abbrev told : {A : Type 0} → A → List ℕ → Option (Told A)
told a rest = Some (record { told = a; rest = rest })

-- ---- three marks in one octet

abbrev marks : Bool → Bool → Bool → ℕ
marks a b c = number_where a 1 + number_where b 2 + number_where c 4

few_marks : (a b c : Bool) → nat_le 8 (marks a b c) ≡ false
few_marks true true true = refl
few_marks true true false = refl
few_marks true false true = refl
few_marks true false false = refl
few_marks false true true = refl
few_marks false true false = refl
few_marks false false true = refl
few_marks false false false = refl

first_mark : (a b c : Bool) → (marks a b c % 2 == 1) ≡ a
first_mark true true true = refl
first_mark true true false = refl
first_mark true false true = refl
first_mark true false false = refl
first_mark false true true = refl
first_mark false true false = refl
first_mark false false true = refl
first_mark false false false = refl

second_mark : (a b c : Bool) → (marks a b c / 2 % 2 == 1) ≡ b
second_mark true true true = refl
second_mark true true false = refl
second_mark true false true = refl
second_mark true false false = refl
second_mark false true true = refl
second_mark false true false = refl
second_mark false false true = refl
second_mark false false false = refl

third_mark : (a b c : Bool) → (marks a b c / 4 % 2 == 1) ≡ c
third_mark true true true = refl
third_mark true true false = refl
third_mark true false true = refl
third_mark true false false = refl
third_mark false true true = refl
third_mark false true false = refl
third_mark false false true = refl
third_mark false false false = refl

-- ---- attributes

-- by the parts of the octets
of_parts : (octets : List ℕ) (attributes : Attributes) → 13 ≤ length octets → le64_at 0 octets ≡ attributes.ends → le32_at 8 octets ≡ attributes.lifetime
    → slice_index octets 12 ≡ attribute_marks attributes → attributes_in octets ≡ Some attributes
of_parts octets attributes enough ends lifetime marked =
    let off : Bool = attributes.is_off in
    let change : Bool = attributes.must_change in
    let service : Bool = attributes.is_no_service in
    let some : Attributes → Option Attributes = λ own. Some own in
    rw (le-ltb (length octets) 13 enough, marked, few_marks off change service)
    (ap some (λ i. record {
      ends = ends i;
      is_off = first_mark off change service i;
      must_change = second_mark off change service i;
      lifetime = lifetime i;
      is_no_service = third_mark off change service i;
    }))

attributes_read : (attributes : Attributes) (rest : List ℕ) → attributes.ends < 2 ^ 64 → attributes.lifetime < 2 ^ 32 → attributes_in (attributes_bytes attributes ++ rest) ≡ Some attributes
unfolding le32 le32_at le64 le64_at
attributes_read attributes rest ends_fit lifetime_fits =
    let last : List ℕ = attribute_marks attributes ∷ rest in
    let long : length (attributes_bytes attributes ++ rest) ≡ 13 + length rest = length-append (attributes_bytes attributes) rest in
    let ends : le64_at 0 (attributes_bytes attributes ++ rest) ≡ attributes.ends = little_number-reads_back 8 attributes.ends (le32 attributes.lifetime ++ last) ends_fit in
    let lasts : le32_at 8 (attributes_bytes attributes ++ rest) ≡ attributes.lifetime = little_number-reads_back 4 attributes.lifetime last lifetime_fits in
    of_parts (attributes_bytes attributes ++ rest) attributes (omega (arith, long)) ends lasts refl

attributes_again : (attributes : Attributes) (rest : List ℕ) → attributes.ends < 2 ^ 64 → attributes.lifetime < 2 ^ 32
    → attributes_front (is_set attributes) (attributes_octets attributes ++ rest) ≡ told attributes rest
unfolding le32 le64
attributes_again attributes rest ends_fit lifetime_fits = by (is_set attributes) refl
  where
    by : (set : Bool) → is_set attributes ≡ set → attributes_front set ((if set then attributes_bytes attributes else []) ++ rest) ≡ told attributes rest
    by false none = ap (λ (own : Attributes). told own rest) (unset attributes none)
    by true some = rw (attributes_read attributes rest ends_fit lifetime_fits) refl

-- ---- older keys

front_of : (size : ℕ) (key rest : List ℕ) → length key ≡ size → take size (key ++ rest) ≡ key
front_of size key rest sized = grind (arith, common_steps, sized)

rest_of : (size : ℕ) (key rest : List ℕ) → length key ≡ size → drop size (key ++ rest) ≡ rest
rest_of size key rest sized = grind (arith, common_steps, sized)

-- Five octets, and what follows them.
module _ (a b c d e : ℕ) (tail : List ℕ) where
  abbrev five : List ℕ
  five = a ∷ b ∷ c ∷ d ∷ e ∷ tail

  length_five : length five ≡ 5 + length tail
  length_five = omega arith

  drop_five : (n : ℕ) → drop (5 + n) five ≡ drop n tail
  drop_five n = grind (arith, common_steps)

-- by the parts of the octets
older_of_parts : (octets : List ℕ) (own : AccountKeyRecord) (below : ℕ) (rest : List ℕ) → 5 + cipher_key_size own.suite ≤ length octets → le32_at 1 octets ≡ own.kvno → 1 ≤ own.kvno → own.kvno < below
    → take (cipher_key_size own.suite) (drop 5 octets) ≡ own.key → drop (5 + cipher_key_size own.suite) octets ≡ rest → older_of below octets own.suite ≡ told own rest
older_of_parts octets own below rest enough number counts less key behind =
    let some : own.kvno ≢ 0 = λ e. absurd (omega (arith, e, counts)) in
    rw (number, ne_eqb own.kvno 0 some, lt-leb below own.kvno less, le-ltb (length octets) (5 + cipher_key_size own.suite) enough, key, behind) refl

older_in_parts : (octets : List ℕ) (own : AccountKeyRecord) (below : ℕ) → 5 ≤ length octets → slice_index octets 0 ≡ cipher_number own.suite → older_in below octets ≡ older_of below octets own.suite
older_in_parts octets own below enough number = rw (le-ltb (length octets) 5 enough, number, of_number own.suite) refl

older_read : (own : AccountKeyRecord) (below : ℕ) (rest : List ℕ) → 1 ≤ own.kvno → own.kvno < below → below ≤ 2 ^ 32 → length own.key ≡ cipher_key_size own.suite
    → older_in below (older_bytes own ++ rest) ≡ told own rest
unfolding le32 le32_at
older_read own below rest counts less few sized =
    let size : ℕ = cipher_key_size own.suite in
    let tail : List ℕ = own.key ++ rest in
    let octets : List ℕ = older_bytes own ++ rest in
    let long : size ≤ length tail = omega (arith, length-append own.key rest, sized) in
    let five_more : length octets ≡ 5 + length tail =
    length_five (cipher_number own.suite) (slice_index (le32 own.kvno) 0) (slice_index (le32 own.kvno) 1) (slice_index (le32 own.kvno) 2) (slice_index (le32 own.kvno) 3) tail in
    let dropped : drop (5 + size) octets ≡ drop size tail =
    drop_five (cipher_number own.suite) (slice_index (le32 own.kvno) 0) (slice_index (le32 own.kvno) 1) (slice_index (le32 own.kvno) 2) (slice_index (le32 own.kvno) 3) tail size in
    older_in_parts octets own below (omega (arith, five_more)) refl
    ∙ older_of_parts octets own below rest (omega (arith, long, five_more)) (little_number-reads_back 4 own.kvno tail (omega (arith, less, few))) counts less
    (front_of size own.key rest sized) (dropped ∙ rest_of size own.key rest sized)

-- one key in front of those behind it
abbrev in_turn_of : ℕ → Told AccountKeyRecord → Option (Told (List AccountKeyRecord))
in_turn_of n front = option_map (λ (others : Told (List AccountKeyRecord)). record { told = front.told ∷ others.told; rest = others.rest }) (keys_in n front.told.kvno front.rest)

one_more : (n below : ℕ) (octets behind rest : List ℕ) (own : AccountKeyRecord) (keys : List AccountKeyRecord) → older_in below octets ≡ told own behind → keys_in n own.kvno behind ≡ told keys rest
    → keys_in (suc n) below octets ≡ told (own ∷ keys) rest
one_more n below octets behind rest own keys first later =
    ap (option_and_then (in_turn_of n)) first
    ∙ ap (option_map (λ (others : Told (List AccountKeyRecord)). record { told = own ∷ others.told; rest = others.rest })) later

keys_read : (keys : List AccountKeyRecord) (below : ℕ) (rest : List ℕ) → below ≤ 2 ^ 32 → AreBefore below keys → keys_in (length keys) below (flat_map older_bytes keys ++ rest) ≡ told keys rest
keys_read [] below rest few before = refl
keys_read (own ∷ keys) below rest few (older, before) =
    let more : List ℕ = flat_map older_bytes keys ++ rest in
    ap (keys_in (suc (length keys)) below) (append_assoc (older_bytes own) (flat_map older_bytes keys) rest)
    ∙ one_more (length keys) below (older_bytes own ++ more) more rest own keys (older_read own below more older.counts older.less few older.sized)
    (keys_read keys own.kvno rest (omega (arith, older.less, few)) before)

-- there is one, and no more than are kept
some_keys : (own : AccountKeyRecord) (keys : List AccountKeyRecord) → nat_lt 0 (length (own ∷ keys)) ≡ true
some_keys own keys = grind (arith, nat_tests)

more_keys : (own : AccountKeyRecord) (keys : List AccountKeyRecord) → (length (own ∷ keys) == 0) ≡ false
more_keys own keys = grind (arith, nat_tests)

former_by : (some : Bool) (count kvno : ℕ) (octets : List ℕ) (found : Option (Told (List AccountKeyRecord))) → some ≡ true → (count == 0) ≡ false → nat_lt 15 count ≡ false
    → keys_in count kvno octets ≡ found → former_front some kvno (count ∷ octets) ≡ found
former_by some count kvno octets found is more few read = rw (is, more, few) read

former_again : (keys : List AccountKeyRecord) (kvno : ℕ) (rest : List ℕ) → kvno < 2 ^ 32 → AreBefore kvno keys → length keys ≤ 15
    → former_front (nat_lt 0 (length keys)) kvno (former_octets keys ++ rest) ≡ told keys rest
former_again [] kvno rest fits before few = refl
former_again (own ∷ keys) kvno rest fits before few =
    former_by (nat_lt 0 (length (own ∷ keys))) (length (own ∷ keys)) kvno (flat_map older_bytes (own ∷ keys) ++ rest) (told (own ∷ keys) rest)
    (some_keys own keys) (more_keys own keys) (le-ltb 15 (length (own ∷ keys)) few) (keys_read (own ∷ keys) kvno rest (omega (arith, fits)) before)

-- ---- all of them

salt_again : (salt : Option (List ℕ)) → salt_in (is_some salt) (salt_octets salt) ≡ Some salt
salt_again None = refl
salt_again (Some salt) = refl

-- by what is read in front, in turn
in_turn : (kvno mark : ℕ) (octets later last : List ℕ) (account : AccountRecord) → nat_le 8 mark ≡ false → attributes_front (mark / 4 % 2 == 1) octets ≡ told account.attributes later
    → former_front (mark / 2 % 2 == 1) kvno later ≡ told account.former last → salt_in (mark % 2 == 1) last ≡ Some account.salt
    → further_in kvno mark octets ≡ Some (record { attributes = account.attributes; former = account.former; salt = account.salt })
unfolding further_in
in_turn kvno mark octets later last account few attributes former salt = rw (few, attributes, former, salt) refl

pub further_again : (account : AccountRecord) → IsWhole account
    → further_in account.kvno (marks_of account) (further_bytes account) ≡ Some (record { attributes = account.attributes; former = account.former; salt = account.salt })
further_again account is =
    let a : Bool = is_some account.salt in
    let b : Bool = nat_lt 0 (length account.former) in
    let c : Bool = is_set account.attributes in
    let last : List ℕ = salt_octets account.salt in
    let later : List ℕ = former_octets account.former ++ last in
    in_turn account.kvno (marks_of account) (further_bytes account) later last account (few_marks a b c)
    (ap (λ is. attributes_front is (further_bytes account)) (third_mark a b c) ∙ attributes_again account.attributes later is.ends is.lifetime)
    (ap (λ is. former_front is account.kvno later) (second_mark a b c) ∙ former_again account.former account.kvno last is.fits is.before is.few)
    (ap (λ is. salt_in is last) (first_mark a b c) ∙ salt_again account.salt)
