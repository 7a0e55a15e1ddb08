-- What the record of an account has behind its key: the attributes, the keys before its own, and the salt, each of them only where octet 6 says
-- so, the marks: 1 a salt, 2 older keys, 4 attributes, added up. The salt goes up to the end.
use Rattle.std.specs.Prelude.{ℕ, zero, suc, ◌+◌, ◌/◌, ◌%◌, ◌==◌, ◌||◌, nat_le, nat_lt, Bool, true, false, List, [], ◌∷◌, ◌++◌, length, take, drop, slice_index, Option, None, Some, option_and_then, Result, Ok, Err, if◌then◌else◌, refl, ◌≡◌}
use Rattle.std.specs.List.{flat_map}
use Rattle.std.specs.Option.{is_some, option_map}
use Rattle.byte_streams.specs.Numbers.{le32, le32_at, le64, le64_at}
use Rattle.krb_crypto.specs.declared.suite.CipherSuite.{CipherSuite}
use Rattle.krb_crypto.specs.Suites.{cipher_key_size, cipher_number}
use Rattle.krb_realm_accounts.specs.Account.{AccountKeyRecord, AccountRecord, is_set}
use Rattle.krb_realm_accounts.specs.declared.limits.TheConstants.{FORMER_LIMIT}
use Rattle.krb_realm_accounts.specs.declared.attributes.Attributes.{Attributes}
use Rattle.krb_realm_accounts.specs.declared.attributes.TheConstants.{NO_ATTRIBUTES}
use Rattle.krb_realm_files.specs.SuiteNumbers.{suite_numbered}
use Rattle.krb_realm_files.specs.declared.fault.RecordFault.{RecordFault}
use Rattle.krb_realm_files.specs.declared.further_fields.FrontAttributes.{FrontAttributes}
use Rattle.krb_realm_files.specs.declared.further_fields.FrontKey.{FrontKey}
use Rattle.krb_realm_files.specs.declared.further_fields.FrontKeys.{FrontKeys}
use Rattle.krb_realm_files.specs.declared.format.TheConstants.{ATTRIBUTES, ATTRIBUTES_LEN, OLDER_HEAD, OLDER_KEYS, SALT}

-- What the octets in front say, and the octets behind them.
pub record Told (A : Type 0) : Type 0 where
  pub told : A
  pub rest : List ℕ

-- What the code read in front, which borrows the octets behind.
abbrev pub told_of_attributes : FrontAttributes → Told Attributes
told_of_attributes front = record { told = front.attributes; rest = front.rest.now }

abbrev pub told_of_key : FrontKey → Told AccountKeyRecord
told_of_key front = record { told = front.own; rest = front.rest.now }

abbrev pub told_of_keys : Result FrontKeys RecordFault → Result (Told (List AccountKeyRecord)) RecordFault
told_of_keys (Ok front) = Ok (record { told = front.keys.items; rest = front.rest.now })
told_of_keys (Err fault) = Err fault

abbrev pub number_where : Bool → ℕ → ℕ
number_where is number = if is then number else 0

-- ---- attributes

-- The attributes in 13 octets: the last second of the account, in eight octets, the greatest lifetime in four, the lowest first, and an octet
-- with 1 if it is switched off, 2 if its password has to be changed, and 4 if there is no ticket for it, added up.
abbrev pub attribute_marks : Attributes → ℕ
attribute_marks attributes = number_where attributes.is_off 1 + number_where attributes.must_change 2 + number_where attributes.is_no_service 4

abbrev pub attributes_bytes : Attributes → List ℕ
attributes_bytes attributes =
    le64 attributes.ends ++ (le32 attributes.lifetime ++ (attribute_marks attributes ∷ []))

-- The attributes that the first 13 of these octets say, unless the last one has another mark.
abbrev pub attributes_in : List ℕ → Option Attributes
attributes_in octets =
    if nat_lt (length octets) ATTRIBUTES_LEN || nat_le 8 (slice_index octets 12) then None
    else Some (record {
      ends = le64_at 0 octets;
      lifetime = le32_at 8 octets;
      is_off = slice_index octets 12 % 2 == 1;
      must_change = slice_index octets 12 / 2 % 2 == 1;
      is_no_service = slice_index octets 12 / 4 % 2 == 1;
    })

-- The attributes in front, where there are any, and else none.
abbrev pub attributes_front : Bool → List ℕ → Option (Told Attributes)
attributes_front false octets = Some (record { told = NO_ATTRIBUTES; rest = octets })
attributes_front true octets = option_map (λ attributes. record { told = attributes; rest = drop ATTRIBUTES_LEN octets }) (attributes_in octets)

-- worked: no attributes are zeros
nothing_set : attributes_bytes NO_ATTRIBUTES ≡ 0 ∷ 0 ∷ 0 ∷ 0 ∷ 0 ∷ 0 ∷ 0 ∷ 0 ∷ 0 ∷ 0 ∷ 0 ∷ 0 ∷ 0 ∷ []
unfolding le32 le64
nothing_set = refl

-- ---- older keys

-- An older key: the number of its suite, its kvno, the lowest octet first, and the key.
abbrev pub older_bytes : AccountKeyRecord → List ℕ
older_bytes own = cipher_number own.suite ∷ (le32 own.kvno ++ own.key)

-- The older keys: how many they are, and each in turn, the newest first.
abbrev pub former_bytes : List AccountKeyRecord → List ℕ
former_bytes keys = length keys ∷ flat_map older_bytes keys

-- The older key of this suite in front, whose kvno counts from 1 and is below that of the key after it.
abbrev pub older_of : ℕ → List ℕ → CipherSuite → Option (Told AccountKeyRecord)
older_of below octets suite =
    if (le32_at 1 octets == 0) || nat_le below (le32_at 1 octets) then None
    else if nat_lt (length octets) (OLDER_HEAD + cipher_key_size suite) then None
    else Some (record {
      told = record { suite = suite; key = take (cipher_key_size suite) (drop OLDER_HEAD octets); kvno = le32_at 1 octets };
      rest = drop (OLDER_HEAD + cipher_key_size suite) octets;
    })

abbrev pub older_in : ℕ → List ℕ → Option (Told AccountKeyRecord)
older_in below octets = if nat_lt (length octets) OLDER_HEAD then None else option_and_then (older_of below octets) (suite_numbered (slice_index octets 0))

-- a key in front of keys
abbrev in_front : AccountKeyRecord → Told (List AccountKeyRecord) → Told (List AccountKeyRecord)
in_front own others = record { told = own ∷ others.told; rest = others.rest }

-- So many older keys in front, which follow each other.
abbrev pub keys_in : ℕ → ℕ → List ℕ → Option (Told (List AccountKeyRecord))
keys_in zero below octets = Some (record { told = []; rest = octets })
keys_in (suc n) below octets = option_and_then (λ own. option_map (in_front own.told) (keys_in n own.told.kvno own.rest)) (older_in below octets)

-- The older keys behind their number, of which there is one at least, and as many as an account keeps at most. Their kvnos are below this one.
abbrev pub former_in : ℕ → List ℕ → Option (Told (List AccountKeyRecord))
former_in kvno [] = None
former_in kvno (count ∷ octets) = if (count == 0) || nat_lt FORMER_LIMIT count then None else keys_in count kvno octets

-- The older keys in front, where there are any, and else none.
abbrev pub former_front : Bool → ℕ → List ℕ → Option (Told (List AccountKeyRecord))
former_front false kvno octets = Some (record { told = []; rest = octets })
former_front true kvno octets = former_in kvno octets

-- ---- all of them

-- The salt, by whether there is one, and the octets up to the end: none, or these octets.
abbrev pub salt_in : Bool → List ℕ → Option (Option (List ℕ))
salt_in true rest = Some (Some rest)
salt_in false rest = if length rest == 0 then Some None else None

-- What stands behind the key.
pub record Further : Type 0 where
  pub attributes : Attributes
  pub former : List AccountKeyRecord
  pub salt : Option (List ℕ)

abbrev salted : Attributes → Told (List AccountKeyRecord) → Bool → Option Further
salted attributes former is = option_map (λ salt. record { attributes = attributes; former = former.told; salt = salt }) (salt_in is former.rest)

unfoldable pub further_in : ℕ → ℕ → List ℕ → Option Further
further_in kvno marks octets =
    if nat_le 8 marks then None
    else
    option_and_then (λ attributes. option_and_then (λ former. salted attributes.told former (marks % 2 == 1)) (former_front (marks / OLDER_KEYS % 2 == 1) kvno attributes.rest))
    (attributes_front (marks / ATTRIBUTES % 2 == 1) octets)

-- Octet 6, and the octets behind the key.
abbrev pub marks_of : AccountRecord → ℕ
marks_of account =
    number_where (is_some account.salt) SALT + number_where (nat_lt 0 (length account.former)) OLDER_KEYS + number_where (is_set account.attributes) ATTRIBUTES

abbrev pub attributes_octets : Attributes → List ℕ
attributes_octets attributes = if is_set attributes then attributes_bytes attributes else []

abbrev pub former_octets : List AccountKeyRecord → List ℕ
former_octets [] = []
former_octets (own ∷ keys) = former_bytes (own ∷ keys)

abbrev pub salt_octets : Option (List ℕ) → List ℕ
salt_octets None = []
salt_octets (Some salt) = salt

abbrev pub further_bytes : AccountRecord → List ℕ
further_bytes account = attributes_octets account.attributes ++ (former_octets account.former ++ salt_octets account.salt)
