-- Slots, one for each record, and hash tables that are filled with them.
use Rattle.std.specs.Prelude.{◌≡◌, ◌≢◌, ◌⊎◌, ℕ, suc, ◌+◌, ◌*◌, ◌/◌, ◌%◌, ◌^◌, ◌<◌, ◌==◌, nat_lt, List, [], ◌∷◌, ◌++◌, length, get_or, set, if◌then◌else◌}
use Rattle.std.specs.List.{All}
use Rattle.cdb.specs.declared.format.TheConstants.{PAIR_SIZE, TABLES}
use Rattle.cdb.specs.declared.records.Record.{Record}
use Rattle.cdb.specs.declared.slots.Slot.{Slot}
use Rattle.cdb.specs.Database.{IsMet, pointers, record_size, slot_after, tables_octets}
use Rattle.cdb.specs.Hash.{hash_of}

-- The empty slot.
abbrev pub empty : Slot
empty = record { hash = 0; at = 0 }

-- How many octets records have.
abbrev pub records_size : List Record → ℕ
records_size [] = 0
records_size (r ∷ records) = record_size r + records_size records

-- The slots of records of which the first stands at a position.
abbrev pub slots_from : ℕ → List Record → List Slot
slots_from at [] = []
slots_from at (r ∷ records) = record { hash = hash_of r.key.items; at = at } ∷ slots_from (at + record_size r) records

-- The position of each slot is above that of the one before, and that of the first is above this one.
abbrev pub AreRising : ℕ → List Slot → Type 0
AreRising low [] = Unit {0}
AreRising low (slot ∷ slots) = (low < slot.at) × AreRising slot.at slots

-- The hash of each slot has 32 bits.
abbrev pub AreHashes : List Slot → Type 0
AreHashes = All (λ (slot : Slot). slot.hash < 2 ^ 32)

-- The slot is one of these.
abbrev pub Among : List Slot → Slot → Type 0
Among [] slot = ⊥
Among (first ∷ slots) slot = (slot ≡ first) ⊎ Among slots slot

-- How many of the slots belong to the hash table of this number.
abbrev pub own_count : ℕ → List Slot → ℕ
own_count number [] = 0
own_count number (slot ∷ slots) = if slot.hash % TABLES == number then suc (own_count number slots) else own_count number slots

-- How many of the slots belong to a hash table of a lower number.
abbrev pub lower_count : ℕ → List Slot → ℕ
lower_count number [] = 0
lower_count number (slot ∷ slots) = if nat_lt (slot.hash % TABLES) number then suc (lower_count number slots) else lower_count number slots

-- How many of the slots are not empty.
abbrev pub full_count : List Slot → ℕ
full_count [] = 0
full_count (slot ∷ slots) = if slot.at == 0 then full_count slots else suc (full_count slots)

-- The first empty slot that a search for the hash meets.
pub record IsFree (cells : List Slot) (hash index : ℕ) : Type 0 where
  pub others : ℕ
  pub within : others < length cells
  pub place : index ≡ (hash / TABLES + others) % length cells
  pub free : (slot_after cells hash others).at ≡ 0
  pub before : (k : ℕ) → k < others → (slot_after cells hash k).at ≢ 0

-- The slot was put into the first empty cell that a search for its hash meets.
abbrev pub IsPut : Slot → List Slot → List Slot → Type 0
IsPut slot cells result = (index : ℕ) × IsFree cells slot.hash index × (result ≡ set cells index slot)

-- A cell of the hash table of this number is empty, or has one of these slots.
abbrev pub IsOwn : ℕ → List Slot → Slot → Type 0
IsOwn number slots cell = (cell ≡ empty) ⊎ (Among slots cell × (cell.hash % TABLES ≡ number))

-- The hash table of this number, filled with those of the slots that belong to it.
pub record IsFilled (number : ℕ) (slots cells : List Slot) : Type 0 where
  pub each : All (IsOwn number slots) cells
  pub met : (slot : Slot) → Among slots slot → slot.hash % TABLES ≡ number → IsMet cells slot.hash slot.at

-- The pointers and the octets of the hash tables of the numbers below this one, of which the first begins at a position.
pub record AreTables (number start : ℕ) (slots : List Slot) (header octets : List ℕ) : Type 0 where
  pub tables : List (List Slot)
  pub count : length tables ≡ number
  pub pointed : header ≡ pointers start tables
  pub placed : octets ≡ tables_octets tables
  pub sized : length octets ≡ 2 * PAIR_SIZE * lower_count number slots
  pub each : (n : ℕ) → n < number → IsFilled n slots (get_or tables n [])
