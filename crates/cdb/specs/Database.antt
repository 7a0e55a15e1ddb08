-- The format cdb, as https://cr.yp.to/cdb/cdb.txt states it: which octets are a database of given records.
--
-- A database is 256 pointers, the records, and 256 hash tables, one behind the other. A pointer is the position of the hash table of its
-- number and the count of its slots. A record is the length of its key, the length of its data, the key, and the data. A slot is a hash
-- and a position. Each of these numbers has four octets, the lowest first. The position 0 says that the slot is empty. Else it is that of
-- a record whose key has the slot's hash, and the hash modulo 256 is the table's number. A search for a record begins at the slot whose
-- number is the hash divided by 256, modulo the count of slots. It goes from slot to slot, and from the last to the first, until it meets
-- the record or an empty slot.
use Rattle.std.specs.Prelude.{◌≡◌, ◌⊎◌, ℕ, zero, suc, ◌+◌, ◌*◌, ◌/◌, ◌%◌, ◌^◌, ◌<◌, nat_eq, List, [], ◌∷◌, ◌++◌, length, get_or, Option, None, Some, if◌then◌else◌}
use Rattle.std.specs.List.{All, flat_map}
use Rattle.std.specs.Cmp.Lexicographic.{pointwise}
use Rattle.byte_streams.specs.Numbers.{le32}
use Rattle.cdb.specs.declared.format.TheConstants.{HEADER_SIZE, PAIR_SIZE, TABLES}
use Rattle.cdb.specs.declared.records.Record.{Record}
use Rattle.cdb.specs.declared.slots.Slot.{Slot}
use Rattle.cdb.specs.declared.tables.Found.{Found}
use Rattle.cdb.specs.Hash.{hash_of}

-- Two numbers, of four octets each.
abbrev pub pair_octets : ℕ → ℕ → List ℕ
pair_octets a b = le32 a ++ le32 b

-- How many octets a record has.
abbrev pub record_size : Record → ℕ
record_size r = PAIR_SIZE + (length r.key.items + length r.content.items)

-- A record: the length of its key, the length of its data, the key, and the data.
abbrev pub record_octets : Record → List ℕ
record_octets r = pair_octets (length r.key.items) (length r.content.items) ++ (r.key.items ++ r.content.items)

-- Records, one behind the other.
abbrev pub records_octets : List Record → List ℕ
records_octets = flat_map record_octets

-- A slot: a hash and a position.
abbrev pub slot_octets : Slot → List ℕ
slot_octets slot = pair_octets slot.hash slot.at

-- A hash table: its slots.
abbrev pub table_octets : List Slot → List ℕ
table_octets = flat_map slot_octets

-- Hash tables, one behind the other.
abbrev pub tables_octets : List (List Slot) → List ℕ
tables_octets = flat_map table_octets

-- The pointers of hash tables of which the first begins at a position.
abbrev pub pointers : ℕ → List (List Slot) → List ℕ
pointers at [] = []
pointers at (slots ∷ tables) = pair_octets at (length slots) ++ pointers (at + PAIR_SIZE * length slots) tables

-- The record stands at a position among records of which the first stands at `at`.
abbrev pub StandsAt : ℕ → List Record → ℕ → Record → Type 0
StandsAt at [] position r = ⊥
StandsAt at (first ∷ records) position r = ((position ≡ at) × (r ≡ first)) ⊎ StandsAt (at + record_size first) records position r

-- A slot of the hash table of this number: it is empty, or has the hash and the position of one of the records. Its numbers have 32 bits.
pub record IsSlot (records : List Record) (number : ℕ) (slot : Slot) : Type 0 where
  pub hash : slot.hash < 2 ^ 32
  pub at : slot.at < 2 ^ 32
  pub full : (slot.at ≡ 0) ⊎ ((r : Record) × StandsAt HEADER_SIZE records slot.at r × (slot.hash ≡ hash_of r.key.items) × (slot.hash % TABLES ≡ number))

-- The slot that a search for the hash meets after so many others.
abbrev pub slot_after : List Slot → ℕ → ℕ → Slot
slot_after slots hash others = get_or slots ((hash / TABLES + others) % length slots) (record { hash = 0; at = 0 })

-- The slot has a record that stands before this position.
abbrev pub IsEarlier : ℕ → Slot → Type 0
IsEarlier position slot = (0 < slot.at) × (slot.at < position)

-- A search for the hash meets a slot with it and this position. Those that it meets before have records that stand before.
pub record IsMet (slots : List Slot) (hash position : ℕ) : Type 0 where
  pub others : ℕ
  pub within : others < length slots
  pub meets : slot_after slots hash others ≡ record { hash = hash; at = position }
  pub before : (k : ℕ) → k < others → IsEarlier position (slot_after slots hash k)

-- The hash table of this number: a search for each record whose hash has the number meets it.
pub record IsTable (records : List Record) (number : ℕ) (slots : List Slot) : Type 0 where
  pub each : All (IsSlot records number) slots
  pub met : (position : ℕ) (r : Record) → StandsAt HEADER_SIZE records position r → hash_of r.key.items % TABLES ≡ number → IsMet slots (hash_of r.key.items) position

-- The octets are a database of these records.
pub record IsDatabase (octets : List ℕ) (records : List Record) : Type 0 where
  pub tables : List (List Slot)
  pub count : length tables ≡ TABLES
  pub layout : octets ≡ pointers (HEADER_SIZE + length (records_octets records)) tables ++ (records_octets records ++ tables_octets tables)
  pub short : length octets < 2 ^ 32
  pub each : (number : ℕ) → number < TABLES → IsTable records number (get_or tables number [])

-- Where the data of the first record with the key are, if a record has it. The first of the records stands at `at`.
abbrev pub placed : ℕ → List Record → List ℕ → Option Found
placed at [] key = None
placed at (r ∷ records) key =
    if pointwise nat_eq r.key.items key then Some (record { position = at + PAIR_SIZE + length r.key.items; size = length r.content.items })
    else placed (at + record_size r) records key
