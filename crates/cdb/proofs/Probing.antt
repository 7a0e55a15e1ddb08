-- Records, slots and hash tables, one after the other.
use Rattle.std.proofs.Common.{◌≡◌, ◌≢◌, ℕ, suc, ◌+◌, ◌-◌, ◌*◌, ◌/◌, ◌%◌, ◌<◌, ◌≤◌, List, length, Option, None, Some, Result, Ok, Err, true, false, refl, sym, subst, ◌∙◌, arith, eq-eqb, ne_eqb, le-ltb, lt-ltb}
use Rattle.cdb.specs.declared.format.TheConstants.{PAIR_SIZE, TABLES}
use Rattle.std.specs.declared.io.ErrorKind.{ErrorKind}
use Rattle.cdb.specs.declared.fault.Fault.{Fault}
use Rattle.cdb.specs.declared.tables.Found.{Found}
use Rattle.cdb.specs.declared.tables.SlotOutcome.TheVariants as outcome
use Rattle.cdb.specs.Hash.{hash_of}
use Rattle.cdb.specs.Reading.{◌>>=◌, Fails}
use Rattle.cdb.specs.Find.{concluded, data_at, find_in, following, in_record, in_slot, looked_up, pair_at, part_at, probed, stands_at}
use Rattle.cdb.proofs.Positions.{fails_on}
use Rattle.cdb.specs.declared.fault.Fault.TheVariants.{Long}

-- a record
pub record_fails : (fails : ErrorKind → Type 0) (fault : Fault) (key : List ℕ) (at : ℕ) (bytes : List ℕ) → Fails fails fault (pair_at at bytes) → Fails fails fault (in_record key at bytes)
unfolding in_record
record_fails fails fault key at bytes h = fails_on fails fault (pair_at at bytes) _ h

pub record_of_other_size : (key : List ℕ) (at key_size size : ℕ) (bytes : List ℕ) → pair_at at bytes ≡ Ok (key_size, size) → key_size ≢ length key
    → in_record key at bytes ≡ Ok outcome.Other
unfolding in_record
record_of_other_size key at key_size size bytes sizes ne = rw (sizes, ne_eqb key_size (length key) ne) refl

pub record_stands_fails : (fails : ErrorKind → Type 0) (fault : Fault) (key : List ℕ) (at key_size size : ℕ) (bytes : List ℕ) → pair_at at bytes ≡ Ok (key_size, size) → key_size ≡ length key
    → Fails fails fault (stands_at (at + PAIR_SIZE) key bytes) → Fails fails fault (in_record key at bytes)
unfolding in_record
record_stands_fails fails fault key at key_size size bytes sizes eq h =
    rw (sizes, eq-eqb key_size (length key) eq) (fails_on fails fault (stands_at (at + PAIR_SIZE) key bytes) _ h)

pub record_of_other_key : (key : List ℕ) (at key_size size : ℕ) (bytes : List ℕ) → pair_at at bytes ≡ Ok (key_size, size) → key_size ≡ length key
    → stands_at (at + PAIR_SIZE) key bytes ≡ Ok false → in_record key at bytes ≡ Ok outcome.Other
unfolding in_record
record_of_other_key key at key_size size bytes sizes eq same = rw (sizes, eq-eqb key_size (length key) eq, same) refl

pub record_found : (key : List ℕ) (at key_size size : ℕ) (bytes : List ℕ) → pair_at at bytes ≡ Ok (key_size, size) → key_size ≡ length key
    → stands_at (at + PAIR_SIZE) key bytes ≡ Ok true → in_record key at bytes ≡ Ok (outcome.Found (record { position = at + PAIR_SIZE + key_size; size = size }))
unfolding in_record
record_found key at key_size size bytes sizes eq same = rw (sizes, eq-eqb key_size (length key) eq, same) refl

-- a slot
pub slot_fails : (fails : ErrorKind → Type 0) (fault : Fault) (key : List ℕ) (hash position : ℕ) (bytes : List ℕ) → Fails fails fault (pair_at position bytes) → Fails fails fault (in_slot key hash position bytes)
unfolding in_slot
slot_fails fails fault key hash position bytes h = fails_on fails fault (pair_at position bytes) _ h

pub slot_empty : (key : List ℕ) (hash position slot_hash at : ℕ) (bytes : List ℕ) → pair_at position bytes ≡ Ok (slot_hash, at) → at ≡ 0 → in_slot key hash position bytes ≡ Ok outcome.Empty
unfolding in_slot
slot_empty key hash position slot_hash at bytes slot eq = rw (slot, eq-eqb at 0 eq) refl

pub slot_other : (key : List ℕ) (hash position slot_hash at : ℕ) (bytes : List ℕ) → pair_at position bytes ≡ Ok (slot_hash, at) → at ≢ 0 → slot_hash ≢ hash
    → in_slot key hash position bytes ≡ Ok outcome.Other
unfolding in_slot
slot_other key hash position slot_hash at bytes slot full ne = rw (slot, ne_eqb at 0 full, ne_eqb slot_hash hash ne) refl

pub slot_record : (key : List ℕ) (hash position slot_hash at : ℕ) (bytes : List ℕ) → pair_at position bytes ≡ Ok (slot_hash, at) → at ≢ 0 → slot_hash ≡ hash
    → in_slot key hash position bytes ≡ in_record key at bytes
unfolding in_slot
slot_record key hash position slot_hash at bytes slot full eq = rw (slot, ne_eqb at 0 full, eq-eqb slot_hash hash eq) refl

-- a hash table, at the turn i of so many
module _ (key : List ℕ) (hash start slots : ℕ) (bytes : List ℕ) where
  probed_step : (slot count i : ℕ) → i < count
      → probed key hash start slots bytes slot (count - i)
      ≡ (in_slot key hash (start + PAIR_SIZE * slot) bytes >>= concluded (probed key hash start slots bytes (following slot slots) (count - (i + 1))))
  unfolding probed
  probed_step slot count i lt = let k : count - i ≡ suc (count - (i + 1)) = omega arith in rw k refl

  pub probe_fails : (fails : ErrorKind → Type 0) (fault : Fault) (slot count i : ℕ) (total : Result (Option Found) Fault) → i < count → Fails fails fault (in_slot key hash (start + PAIR_SIZE * slot) bytes)
      → probed key hash start slots bytes slot (count - i) ≡ total → Fails fails fault total
  probe_fails fails fault slot count i total lt h same =
      subst (Fails {X = Option Found} fails fault) (sym (probed_step slot count i lt) ∙ same)
      (fails_on fails fault (in_slot key hash (start + PAIR_SIZE * slot) bytes) (concluded (probed key hash start slots bytes (following slot slots) (count - (i + 1)))) h)

  pub probe_found : (found : Found) (slot count i : ℕ) (total : Result (Option Found) Fault) → i < count → in_slot key hash (start + PAIR_SIZE * slot) bytes ≡ Ok (outcome.Found found)
      → probed key hash start slots bytes slot (count - i) ≡ total → total ≡ Ok (Some found)
  probe_found found slot count i total lt h same = sym same ∙ probed_step slot count i lt ∙ rw h refl

  pub probe_empty : (slot count i : ℕ) (total : Result (Option Found) Fault) → i < count → in_slot key hash (start + PAIR_SIZE * slot) bytes ≡ Ok outcome.Empty
      → probed key hash start slots bytes slot (count - i) ≡ total → total ≡ Ok None
  probe_empty slot count i total lt h same = sym same ∙ probed_step slot count i lt ∙ rw h refl

  pub probe_other : (slot count i : ℕ) (total : Result (Option Found) Fault) → i < count → in_slot key hash (start + PAIR_SIZE * slot) bytes ≡ Ok outcome.Other
      → probed key hash start slots bytes slot (count - i) ≡ total → probed key hash start slots bytes (following slot slots) (count - (i + 1)) ≡ total
  probe_other slot count i total lt h same =
      let one : (in_slot key hash (start + PAIR_SIZE * slot) bytes >>= concluded (probed key hash start slots bytes (following slot slots) (count - (i + 1))))
      ≡ probed key hash start slots bytes (following slot slots) (count - (i + 1)) = rw h refl in
      sym one ∙ sym (probed_step slot count i lt) ∙ same

  pub probe_over : (slot count i : ℕ) (total : Result (Option Found) Fault) → count ≤ i → probed key hash start slots bytes slot (count - i) ≡ total → total ≡ Ok None
  unfolding probed
  probe_over slot count i total le same =
      let k : count - i ≡ 0 = omega arith in
      let one : probed key hash start slots bytes slot (count - i) ≡ Ok None = rw k refl in
      sym same ∙ one

-- a file
pub find_fails : (fails : ErrorKind → Type 0) (fault : Fault) (key bytes : List ℕ) → Fails fails fault (pair_at (hash_of key % TABLES * PAIR_SIZE) bytes) → Fails fails fault (find_in bytes key)
unfolding find_in
find_fails fails fault key bytes h = fails_on fails fault (pair_at (hash_of key % TABLES * PAIR_SIZE) bytes) _ h

pub find_none : (key bytes : List ℕ) (start slots : ℕ) → pair_at (hash_of key % TABLES * PAIR_SIZE) bytes ≡ Ok (start, slots) → slots ≡ 0 → find_in bytes key ≡ Ok None
unfolding find_in
find_none key bytes start slots table eq = rw (table, eq-eqb slots 0 eq) refl

pub find_probed : (key bytes : List ℕ) (start slots : ℕ) → pair_at (hash_of key % TABLES * PAIR_SIZE) bytes ≡ Ok (start, slots) → slots ≢ 0
    → find_in bytes key ≡ probed key (hash_of key) start slots bytes (hash_of key / TABLES % slots) slots
unfolding find_in
find_probed key bytes start slots table ne = rw (table, ne_eqb slots 0 ne) refl

-- data
pub looked_fails : (fails : ErrorKind → Type 0) (fault : Fault) (room : ℕ) (bytes key : List ℕ) → Fails fails fault (find_in bytes key) → Fails fails fault (looked_up room bytes key)
unfolding looked_up
looked_fails fails fault room bytes key h = fails_on fails fault (find_in bytes key) (data_at room bytes) h

pub looked_none : (room : ℕ) (bytes key : List ℕ) → find_in bytes key ≡ Ok None → looked_up room bytes key ≡ Ok None
unfolding looked_up
looked_none room bytes key none = rw none refl

pub looked_long : (found : Found) (room : ℕ) (bytes key : List ℕ) → find_in bytes key ≡ Ok (Some found) → room < found.size → looked_up room bytes key ≡ Err Long
unfolding looked_up
looked_long found room bytes key is long = rw (is, lt-ltb room found.size long) refl

pub looked_part_fails : (fails : ErrorKind → Type 0) (fault : Fault) (found : Found) (room : ℕ) (bytes key : List ℕ) → find_in bytes key ≡ Ok (Some found) → found.size ≤ room
    → Fails fails fault (part_at found.position found.size bytes) → Fails fails fault (looked_up room bytes key)
unfolding looked_up
looked_part_fails fails fault found room bytes key is fits h =
    rw (is, le-ltb room found.size fits) (fails_on fails fault (part_at found.position found.size bytes) (λ part. Ok (Some part)) h)

pub looked_found : (content : List ℕ) (found : Found) (room : ℕ) (bytes key : List ℕ) → find_in bytes key ≡ Ok (Some found) → found.size ≤ room
    → part_at found.position found.size bytes ≡ Ok content → looked_up room bytes key ≡ Ok (Some content)
unfolding looked_up
looked_found content found room bytes key is fits part = rw (is, le-ltb room found.size fits, part) refl
