-- The entries of a keytab's octets, or the first fault in their order. A record ends with `front`, a file with `whole`.
use Rattle.std.specs.Prelude.{◌≡◌, ◌⊎◌, ℕ, zero, suc, ◌+◌, ◌-◌, List, [], ◌∷◌, ◌++◌, length, take, drop, get_or, Option, None, Some, Result, Ok, Err, MatchResult, nat_lt, nat_eq, if◌then◌else◌}
use Rattle.asn1_leaves.specs.CharSets.{is_general_string}
use Rattle.byte_streams.specs.Numbers.{be16_at}
use Rattle.krb_file_formats.specs.Numbers.{be32_at}
use Rattle.krb_file_formats.specs.Entries.{Entry, texts_size}
use Rattle.krb_file_formats.specs.declared.fault.KeytabFault.{KeytabFault}
use Rattle.krb_file_formats.specs.declared.fault.KeytabFault.TheVariants.{WrongVersion, Truncated, PastRecord, Character, Memory}
use Rattle.krb_file_formats.specs.declared.reading.Fixed.{Fixed}
use Rattle.krb_file_formats.specs.declared.reading.Slot.{Slot}

-- what the first gives, handed to the next
abbrev pub and_then : {A B E : Type 0} → Result A E → (A → Result B E) → Result B E
and_then (Ok a) next = next a
and_then (Err e) next = Err e

-- the call returns this value or fault, or memory ran out, which is the fault `memory`
abbrev pub GivesOr : {A B E : Type 0} → E → (A → B) → Result A E → Result B E → Type 0
GivesOr memory view result told = MatchResult result (λ a. told ≡ Ok (view a)) (λ e. (e ≡ memory) ⊎ (told ≡ Err e))

-- the call returns this value or fault, or memory ran out
abbrev pub Gives : {A B : Type 0} → (A → B) → Result A KeytabFault → Result B KeytabFault → Type 0
Gives = GivesOr Memory

-- the number of 16 bits at this place, which is inside the record
abbrev pub number_at : ℕ → List ℕ → Result ℕ KeytabFault
number_at place front = if nat_lt (length front - place) 2 then Err (PastRecord place) else Ok (be16_at place front)

-- the length at this place, behind which so many octets are in the record
abbrev pub fitting : ℕ → List ℕ → ℕ → Result ℕ KeytabFault
fitting place front n = if nat_lt (length front - (place + 2)) n then Err (PastRecord place) else Ok n

-- the length of 16 bits at this place, if so many octets follow it in the record
abbrev pub count_at : ℕ → List ℕ → Result ℕ KeytabFault
count_at place front = and_then (number_at place front) (fitting place front)

-- the octets after the length at this place
abbrev pub octets_at : ℕ → List ℕ → Result (List ℕ) KeytabFault
octets_at place front = and_then (count_at place front) (λ n. Ok (take n (drop (place + 2) front)))

-- A realm and a component have characters below 128 alone (RFC 4120, section 5.2.1).
abbrev pub text_judged : ℕ → List ℕ → Result (List ℕ) KeytabFault
text_judged place t = if is_general_string t then Ok t else Err (Character place)

-- the text behind the length at this place
abbrev pub text_at : ℕ → List ℕ → Result (List ℕ) KeytabFault
text_at place front = and_then (count_at place front) (λ n. text_judged place (take n (drop (place + 2) front)))

-- so many texts, the first at this place
abbrev pub texts_at : ℕ → ℕ → List ℕ → Result (List (List ℕ)) KeytabFault
texts_at zero place front = Ok []
texts_at (suc n) place front =
    and_then (text_at place front) (λ t. and_then (texts_at n (place + (2 + length t)) front) (λ ts. Ok (t ∷ ts)))

-- a realm and components, and the place behind them
pub record NameAt : Type 0 where
  pub realm : List ℕ
  pub components : List (List ℕ)
  pub end : ℕ

-- the components from this place on, behind the realm
abbrev pub components_at : ℕ → ℕ → List ℕ → List ℕ → Result NameAt KeytabFault
components_at count place realm front =
    and_then (texts_at count place front) (λ ts. Ok (record { realm = realm; components = ts; end = place + texts_size ts }))

-- the count of components at this place, the realm and the components
abbrev pub name_at : ℕ → List ℕ → Result NameAt KeytabFault
name_at place front =
    and_then (number_at place front) (λ count. and_then (text_at (place + 2) front)
    (λ realm. components_at count (place + 4 + length realm) realm front))

-- the name type, the timestamp, the kvno of 8 bits and the etype
abbrev pub fixed_at : ℕ → List ℕ → Result Fixed KeytabFault
fixed_at place front =
    if nat_lt (length front - place) 11 then Err (PastRecord place)
    else Ok (record { name_type = be32_at place front; timestamp = be32_at (place + 4) front; kvno = get_or front (place + 8) 0; etype = be16_at (place + 9) front })

-- the kvno of 32 bits, where there are so many and it isn't 0; else that of 8 bits
abbrev pub kvno_at : ℕ → ℕ → List ℕ → ℕ
kvno_at place low front = if nat_lt (length front - place) 4 then low else if nat_eq (be32_at place front) 0 then low else be32_at place front

-- an entry of these parts, whose key is at this place
abbrev pub keyed_at : ℕ → NameAt → Fixed → List ℕ → Result Entry KeytabFault
keyed_at place name fixed front =
    and_then (octets_at place front) (λ key. Ok (record {
      realm = name.realm;
      components = name.components;
      name_type = fixed.name_type;
      timestamp = fixed.timestamp;
      kvno = kvno_at (place + 2 + length key) fixed.kvno front;
      etype = fixed.etype;
      key = key;
    }))

-- the entry of the record that begins at this place
abbrev pub entry_at : ℕ → List ℕ → Result Entry KeytabFault
entry_at place front =
    and_then (name_at place front) (λ name. and_then (fixed_at name.end front) (λ fixed. keyed_at (name.end + 11) name fixed front))

-- how many octets a size speaks of: that of a hole is negative
abbrev pub size_of : ℕ → ℕ
size_of size = if nat_lt 2147483647 size then 4294967296 - size else size

-- the record or the hole whose size is at this place: none where the octets end there, or the size is 0
abbrev pub slot_at : ℕ → List ℕ → Result (Option Slot) KeytabFault
slot_at place whole =
    if nat_eq (length whole - place) 0 then Ok None
    else if nat_lt (length whole - place) 4 then Err (Truncated place)
    else if nat_eq (be32_at place whole) 0 then Ok None
    else if nat_lt (length whole - place - 4) (size_of (be32_at place whole)) then Err (Truncated place)
    else Ok (Some (record { is_hole = nat_lt 2147483647 (be32_at place whole); end = place + 4 + size_of (be32_at place whole) }))

-- the entry of the record whose size is at this place; none of a hole
abbrev pub held_at : Slot → ℕ → List ℕ → Result (List Entry) KeytabFault
held_at slot place whole =
    if slot.is_hole then Ok [] else and_then (entry_at (place + 4) (take slot.end whole)) (λ e. Ok (e ∷ []))

-- nothing, or what is done with what there is
abbrev pub if_more : {A B : Type 0} → Option A → (A → Result (List B) KeytabFault) → Result (List B) KeytabFault
if_more None next = Ok []
if_more (Some a) next = next a

-- these values, and then those
abbrev pub followed : {A E : Type 0} → List A → Result (List A) E → Result (List A) E
followed xs r = and_then r (λ ys. Ok (xs ++ ys))

-- the entries from this place on, of at most so many records and holes
abbrev pub entries_at : ℕ → ℕ → List ℕ → Result (List Entry) KeytabFault
entries_at zero place whole = Ok []
entries_at (suc n) place whole =
    and_then (slot_at place whole) (λ found. if_more found
    (λ slot. and_then (held_at slot place whole) (λ es. followed es (entries_at n slot.end whole))))

-- The version of a keytab is 0x0502 (MIT's file keytab format). Version 0x0501 has the byte order of a host, and is refused by its number.
-- Test: `versions and ends` of `rows.txt`.
abbrev pub version_at : List ℕ → Result (Unit {0}) KeytabFault
version_at whole =
    if nat_lt (length whole) 2 then Err (Truncated 0)
    else if nat_eq (be16_at 0 whole) 1282 then Ok tt else Err (WrongVersion (be16_at 0 whole))

-- The entries of the keytab in these octets, or its first fault. Each record and hole takes octets, so there are at most as many.
abbrev pub keytab_at : List ℕ → Result (List Entry) KeytabFault
keytab_at whole = and_then (version_at whole) (λ _. entries_at (length whole) 2 whole)
