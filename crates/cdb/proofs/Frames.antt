-- Where pointers, records and slots stand in a database.
use Rattle.std.proofs.Common.{◌≡◌, ◌⊎◌, inl, inr, ℕ, zero, suc, ◌+◌, ◌*◌, ◌^◌, ◌<◌, ◌≤◌, List, [], ◌∷◌, ◌++◌, length, get_or, refl, sym, ap, subst, ◌∙◌, append_assoc, length-append, arith}
use Rattle.cdb.specs.declared.format.TheConstants.{HEADER_SIZE, PAIR_SIZE, TABLES}
use Rattle.cdb.specs.declared.records.Record.{Record}
use Rattle.cdb.specs.declared.slots.Slot.{Slot}
use Rattle.cdb.specs.Database.{IsDatabase, pair_octets, pointers, record_octets, record_size, records_octets, slot_octets, StandsAt, table_octets, tables_octets}
use Rattle.cdb.proofs.Places.{At, at_inner, at_left, at_right, at_same, at_within, length-pair}

pub length-record : (r : Record) → length (record_octets r) ≡ record_size r
length-record r =
    let one = length-append (pair_octets (length r.key.items) (length r.content.items)) (r.key.items ++ r.content.items) in
    let two = length-append r.key.items r.content.items in
    let three = length-pair (length r.key.items) (length r.content.items) in
    omega (arith, one, two, three)

pub length-slots : (slots : List Slot) → length (table_octets slots) ≡ PAIR_SIZE * length slots
length-slots [] = refl
length-slots (slot ∷ slots) =
    let one = length-append (slot_octets slot) (table_octets slots) in
    let two = length-pair slot.hash slot.at in
    let rest = length-slots slots in
    omega (arith, one, two, rest)

pub length-pointers : (at : ℕ) (tables : List (List Slot)) → length (pointers at tables) ≡ PAIR_SIZE * length tables
length-pointers at [] = refl
length-pointers at (slots ∷ tables) =
    let one = length-append (pair_octets at (length slots)) (pointers (at + PAIR_SIZE * length slots) tables) in
    let two = length-pair at (length slots) in
    let rest = length-pointers (at + PAIR_SIZE * length slots) tables in
    omega (arith, one, two, rest)

-- a record among records
pub record_at : (at : ℕ) (records : List Record) (position : ℕ) (r : Record) → StandsAt at records position r
    → (place : ℕ) × (position ≡ at + place) × At (records_octets records) place (record_octets r)
record_at at [] position r stands = absurd stands
record_at at (first ∷ records) position r (inl is) =
    (0, omega (arith, is.0), subst (λ (one : Record). At (record_octets first ++ records_octets records) 0 (record_octets one)) (sym is.1) (at_left (record_octets first) (records_octets records)))
record_at at (first ∷ records) position r (inr stands) =
    let rest = record_at (at + record_size first) records position r stands in
    let place = rest.0 in
    let where_is = rest.1 in (
      record_size first + place,
      omega (arith, where_is),
      at_inner (record_octets first ++ records_octets records) (records_octets records) (record_octets r) (length (record_octets first)) place (record_size first + place)
          (at_right (record_octets first) (records_octets records)) rest.2 (ap (λ n. n + place) (sym (length-record first))),
    )

-- a slot among slots
pub slot_at : (slots : List Slot) (index : ℕ) (d : Slot) → index < length slots → At (table_octets slots) (PAIR_SIZE * index) (slot_octets (get_or slots index d))
slot_at [] index d lt = absurd (omega (arith, lt))
slot_at (slot ∷ slots) zero d lt = at_left (slot_octets slot) (table_octets slots)
slot_at (slot ∷ slots) (suc index) d lt =
    let two = length-pair slot.hash slot.at in
    at_inner (slot_octets slot ++ table_octets slots) (table_octets slots) (slot_octets (get_or slots index d)) (length (slot_octets slot)) (PAIR_SIZE * index) (PAIR_SIZE * suc index)
    (at_right (slot_octets slot) (table_octets slots)) (slot_at slots index d (omega (arith, lt))) (omega (arith, two))

-- how many octets hash tables have before the one of a number
pub octets_before : List (List Slot) → ℕ → ℕ
octets_before [] number = 0
octets_before (slots ∷ tables) zero = 0
octets_before (slots ∷ tables) (suc number) = PAIR_SIZE * length slots + octets_before tables number

-- a hash table among tables
pub table_at : (tables : List (List Slot)) (number : ℕ) → number < length tables → At (tables_octets tables) (octets_before tables number) (table_octets (get_or tables number []))
unfolding octets_before
table_at [] number lt = absurd (omega (arith, lt))
table_at (slots ∷ tables) zero lt = at_left (table_octets slots) (tables_octets tables)
table_at (slots ∷ tables) (suc number) lt =
    at_inner (table_octets slots ++ tables_octets tables) (tables_octets tables) (table_octets (get_or tables number [])) (length (table_octets slots)) (octets_before tables number)
    (PAIR_SIZE * length slots + octets_before tables number)
    (at_right (table_octets slots) (tables_octets tables)) (table_at tables number (omega (arith, lt))) (ap (λ n. n + octets_before tables number) (sym (length-slots slots)))

-- a pointer among pointers
pub pointer_at : (at : ℕ) (tables : List (List Slot)) (number : ℕ) → number < length tables
    → At (pointers at tables) (number * PAIR_SIZE) (pair_octets (at + octets_before tables number) (length (get_or tables number [])))
unfolding octets_before
pointer_at at [] number lt = absurd (omega (arith, lt))
pointer_at at (slots ∷ tables) zero lt =
    let same : at ≡ at + 0 = omega arith in
    subst (λ n. At (pointers at (slots ∷ tables)) 0 (pair_octets n (length slots))) same (at_left (pair_octets at (length slots)) (pointers (at + PAIR_SIZE * length slots) tables))
pointer_at at (slots ∷ tables) (suc number) lt =
    let two = length-pair at (length slots) in
    let own = pointer_at (at + PAIR_SIZE * length slots) tables number (omega (arith, lt)) in
    let same : at + PAIR_SIZE * length slots + octets_before tables number ≡ at + (PAIR_SIZE * length slots + octets_before tables number) = omega arith in
    let place : suc number * PAIR_SIZE ≡ length (pair_octets at (length slots)) + number * PAIR_SIZE = omega (arith, two) in
    subst (λ n. At (pointers at (slots ∷ tables)) (suc number * PAIR_SIZE) (pair_octets n (length (get_or tables number [])))) same
    (at_inner (pointers at (slots ∷ tables)) (pointers (at + PAIR_SIZE * length slots) tables)
    (pair_octets (at + PAIR_SIZE * length slots + octets_before tables number) (length (get_or tables number []))) (length (pair_octets at (length slots)))
    (number * PAIR_SIZE) (suc number * PAIR_SIZE) (at_right (pair_octets at (length slots)) (pointers (at + PAIR_SIZE * length slots) tables)) own place)

-- where the hash tables of a database begin
abbrev pub behind : List Record → ℕ
behind records = HEADER_SIZE + length (records_octets records)

module _ (octets : List ℕ) (records : List Record) (is : IsDatabase octets records) where
  front_sized : length (pointers (behind records) is.tables) ≡ HEADER_SIZE
  front_sized = let own = length-pointers (behind records) is.tables in let many = is.count in omega (arith, own, many)

  at_octets : (position : ℕ) (part : List ℕ) → At (pointers (behind records) is.tables ++ (records_octets records ++ tables_octets is.tables)) position part → At octets position part
  at_octets position part at = subst (λ o. At o position part) (sym is.layout) at

  whole_front : At octets 0 (pointers (behind records) is.tables)
  whole_front = at_octets 0 (pointers (behind records) is.tables) (at_left (pointers (behind records) is.tables) (records_octets records ++ tables_octets is.tables))

  whole_rest : At octets HEADER_SIZE (records_octets records ++ tables_octets is.tables)
  whole_rest = at_same octets (records_octets records ++ tables_octets is.tables) (length (pointers (behind records) is.tables)) HEADER_SIZE
      (at_octets (length (pointers (behind records) is.tables)) (records_octets records ++ tables_octets is.tables) (at_right (pointers (behind records) is.tables) (records_octets records ++ tables_octets is.tables))) (sym front_sized)

  pub database_pointer : (number : ℕ) → number < TABLES → At octets (number * PAIR_SIZE) (pair_octets (behind records + octets_before is.tables number) (length (get_or is.tables number [])))
  database_pointer number lt =
      let many = is.count in
      at_inner octets (pointers (behind records) is.tables) (pair_octets (behind records + octets_before is.tables number) (length (get_or is.tables number []))) 0 (number * PAIR_SIZE) (number * PAIR_SIZE)
      whole_front (pointer_at (behind records) is.tables number (omega (arith, lt, many))) (omega arith)

  pub database_record : (position : ℕ) (r : Record) → StandsAt HEADER_SIZE records position r → At octets position (record_octets r)
  database_record position r stands =
      let own = record_at HEADER_SIZE records position r stands in
      at_inner octets (records_octets records) (record_octets r) HEADER_SIZE own.0 position
      (at_inner octets (records_octets records ++ tables_octets is.tables) (records_octets records) HEADER_SIZE 0 HEADER_SIZE whole_rest (at_left (records_octets records) (tables_octets is.tables)) (omega arith))
      own.2 own.1

  pub database_table : (number : ℕ) → number < TABLES → At octets (behind records + octets_before is.tables number) (table_octets (get_or is.tables number []))
  database_table number lt =
      let many = is.count in
      at_inner octets (tables_octets is.tables) (table_octets (get_or is.tables number [])) (HEADER_SIZE + length (records_octets records)) (octets_before is.tables number)
      (HEADER_SIZE + length (records_octets records) + octets_before is.tables number)
      (at_inner octets (records_octets records ++ tables_octets is.tables) (tables_octets is.tables) HEADER_SIZE (length (records_octets records)) (HEADER_SIZE + length (records_octets records)) whole_rest
      (at_right (records_octets records) (tables_octets is.tables)) refl)
      (table_at is.tables number (omega (arith, lt, many))) refl

  pub database_slot : (number index : ℕ) (d : Slot) → number < TABLES → index < length (get_or is.tables number [])
      → At octets (behind records + octets_before is.tables number + PAIR_SIZE * index) (slot_octets (get_or (get_or is.tables number []) index d))
  database_slot number index d lt within =
      at_inner octets (table_octets (get_or is.tables number [])) (slot_octets (get_or (get_or is.tables number []) index d)) (behind records + octets_before is.tables number) (PAIR_SIZE * index)
      (behind records + octets_before is.tables number + PAIR_SIZE * index) (database_table number lt) (slot_at (get_or is.tables number []) index d within) refl

  -- the numbers of a pointer have 32 bits
  pub pointer_short : (number : ℕ) → number < TABLES → (behind records + octets_before is.tables number < 2 ^ 32) × (length (get_or is.tables number []) < 2 ^ 32)
  pointer_short number lt =
      let within = at_within octets (table_octets (get_or is.tables number [])) (behind records + octets_before is.tables number) (database_table number lt) in
      let sized = length-slots (get_or is.tables number []) in
      let short = is.short in
      (omega (arith, within, short), omega (arith, within, sized, short))
