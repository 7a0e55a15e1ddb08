-- Files whose look-ups meet no damage, and find keys alone that the file may have, and what a file has that is not so.
use Rattle.std.specs.Prelude.{◌≡◌, ◌≢◌, ◌⊎◌, ℕ, ◌+◌, ◌*◌, ◌<◌, nat_eq, Bool, true, false, List, Option, None, Some, Result, Ok, Err}
use Rattle.std.specs.declared.io.ErrorKind.{ErrorKind}
use Rattle.std.specs.Cmp.Lexicographic.{pointwise}
use Rattle.cdb.specs.declared.fault.Fault.{Fault}
use Rattle.cdb.specs.declared.fault.Fault.TheVariants.{Failed, Damaged, Long}
use Rattle.cdb.specs.declared.format.TheConstants.{KEY_LIMIT, PAIR_SIZE, TABLES}
use Rattle.cdb.specs.declared.tables.Found.{Found}
use Rattle.cdb.specs.Find.{looked_up, pair_at, part_at}
use Rattle.cdb.specs.Reading.{◌>>=◌}

-- Whether what a look-up found are these data.
abbrev pub are_data : List ℕ → Option (List ℕ) → Bool
are_data content None = false
are_data content (Some found) = pointwise nat_eq found content

-- Whether a look-up of a key, with so much room for its data, finds these.
unfoldable pub has_data : ℕ → List ℕ → List ℕ → List ℕ → Result Bool Fault
has_data room bytes key content = looked_up room bytes key >>= λ found. Ok (are_data content found)

module _ (has : List ℕ → Type 0) where
  -- A look-up of this key met no damage, and found nothing or a key that the file may have.
  abbrev pub IsSound : List ℕ → Result (Option Found) Fault → Type 0
  IsSound key (Ok None) = Unit {0}
  IsSound key (Ok (Some found)) = has key
  IsSound key (Err fault) = ⊥

  -- The octets at a position, so many, are a key that the file may have.
  abbrev pub IsSoundKey : List ℕ → ℕ → ℕ → Type 0
  IsSoundKey bytes position size = (key : List ℕ) × (part_at position size bytes ≡ Ok key) × has key

  -- The record at a position has a key that the file may have.
  abbrev pub IsSoundRecord : List ℕ → ℕ → Type 0
  IsSoundRecord bytes at = (sizes : ℕ × ℕ) × (pair_at at bytes ≡ Ok sizes) × IsSoundKey bytes (at + PAIR_SIZE) sizes.0

  -- The slot at a position is empty, or has the record of a key that the file may have.
  abbrev pub IsSoundSlot : List ℕ → ℕ → Type 0
  IsSoundSlot bytes position = (slot : ℕ × ℕ) × (pair_at position bytes ≡ Ok slot) × ((slot.1 ≡ 0) ⊎ IsSoundRecord bytes slot.1)

  -- Each slot of the hash table of this number is empty, or has the record of a key that the file may have.
  abbrev pub IsSoundTable : List ℕ → ℕ → Type 0
  IsSoundTable bytes number = (table : ℕ × ℕ) × (pair_at (number * PAIR_SIZE) bytes ≡ Ok table) × ((slot : ℕ) → slot < table.1 → IsSoundSlot bytes (table.0 + PAIR_SIZE * slot))

-- What a check answered, each answer with its reason: yes, no, that a read failed by such a kind of fault, that the file is damaged, or
-- that data are too long.
abbrev pub Judges : (ErrorKind → Type 0) → Result Bool Fault → Type 0 → Type 0 → Type 0 → Type 0 → Type 0
Judges fails (Ok true) shown denied damaged long = shown
Judges fails (Ok false) shown denied damaged long = denied
Judges fails (Err (Failed kind)) shown denied damaged long = fails kind
Judges fails (Err Damaged) shown denied damaged long = damaged
Judges fails (Err Long) shown denied damaged long = long

-- The file ends before a key's last octet.
abbrev pub IsCutKey : List ℕ → ℕ → ℕ → Type 0
IsCutKey bytes position size = part_at position size bytes ≡ Err Damaged

-- The file ends within a record's two lengths, or within its key.
abbrev pub IsCutRecord : List ℕ → ℕ → Type 0
IsCutRecord bytes at = (pair_at at bytes ≡ Err Damaged) ⊎ ((sizes : ℕ × ℕ) × (pair_at at bytes ≡ Ok sizes) × IsCutKey bytes (at + PAIR_SIZE) sizes.0)

-- The file ends within a slot, or within the record that the slot has.
abbrev pub IsCutSlot : List ℕ → ℕ → Type 0
IsCutSlot bytes position = (pair_at position bytes ≡ Err Damaged) ⊎ ((slot : ℕ × ℕ) × (pair_at position bytes ≡ Ok slot) × (slot.1 ≢ 0) × IsCutRecord bytes slot.1)

-- The file ends within the pointer of the hash table of this number, or within a slot of the table or its record.
abbrev pub IsCutTable : List ℕ → ℕ → Type 0
IsCutTable bytes number = (pair_at (number * PAIR_SIZE) bytes ≡ Err Damaged)
    ⊎ ((table : ℕ × ℕ) × (pair_at (number * PAIR_SIZE) bytes ≡ Ok table) × (slot : ℕ) × (slot < table.1) × IsCutSlot bytes (table.0 + PAIR_SIZE * slot))

-- The file states a position past its end.
abbrev pub IsCut : List ℕ → Type 0
IsCut bytes = (number : ℕ) × (number < TABLES) × IsCutTable bytes number

module _ (lacks : List ℕ → Type 0) where
  -- The octets at a position, so many, are a key that is none of the given ones.
  abbrev pub IsOtherKey : List ℕ → ℕ → ℕ → Type 0
  IsOtherKey bytes position size = (key : List ℕ) × (part_at position size bytes ≡ Ok key) × lacks key

  -- The record at a position has a key that is too long, or none of the given ones.
  abbrev pub IsOtherRecord : List ℕ → ℕ → Type 0
  IsOtherRecord bytes at = (sizes : ℕ × ℕ) × (pair_at at bytes ≡ Ok sizes) × ((KEY_LIMIT < sizes.0) ⊎ IsOtherKey bytes (at + PAIR_SIZE) sizes.0)

  -- The slot at a position has such a record.
  abbrev pub IsOtherSlot : List ℕ → ℕ → Type 0
  IsOtherSlot bytes position = (slot : ℕ × ℕ) × (pair_at position bytes ≡ Ok slot) × (slot.1 ≢ 0) × IsOtherRecord bytes slot.1

  -- A slot of the hash table of this number has such a record.
  abbrev pub IsOtherTable : List ℕ → ℕ → Type 0
  IsOtherTable bytes number = (table : ℕ × ℕ) × (pair_at (number * PAIR_SIZE) bytes ≡ Ok table) × (slot : ℕ) × (slot < table.1) × IsOtherSlot bytes (table.0 + PAIR_SIZE * slot)

  -- A slot of some hash table has such a record.
  abbrev pub HasOther : List ℕ → Type 0
  HasOther bytes = (number : ℕ) × (number < TABLES) × IsOtherTable bytes number
