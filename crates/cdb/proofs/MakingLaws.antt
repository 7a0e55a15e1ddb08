-- The parts that are made are a database.
use Rattle.std.proofs.Common.{◌≡◌, ◌≢◌, ◌⊎◌, inl, inr, ℕ, zero, suc, ◌+◌, ◌-◌, ◌*◌, ◌/◌, ◌%◌, ◌^◌, ◌<◌, ◌≤◌, List, [], ◌∷◌, ◌++◌, length, get_or, All, refl, sym, ap, subst, ◌∙◌, arith, append-nil, append_assoc, drop, length-append}
use Rattle.std.specs.List.{AllByRecursion}
use Rattle.std.proofs.lemmas.Bool.{cases_lt}
use Rattle.std.proofs.lemmas.List.{drop_more, flat_map_more, get_or_at, get_or_append_left}
use Rattle.std.proofs.lemmas.List.Elements.{All-from_recursion, All-weaker, recursion_from_All}
use Rattle.cdb.specs.declared.format.TheConstants.{HEADER_SIZE, PAIR_SIZE, TABLES}
use Rattle.cdb.specs.declared.records.Record.{Record}
use Rattle.cdb.specs.declared.slots.Slot.{Slot}
use Rattle.cdb.specs.Database.{IsDatabase, IsMet, IsSlot, IsTable, pair_octets, pointers, record_octets, record_size, records_octets, slot_octets, StandsAt, table_octets, tables_octets}
use Rattle.cdb.specs.Filling.{Among, AreHashes, AreRising, AreTables, empty, IsFilled, IsOwn, lower_count, own_count, records_size, slots_from}
use Rattle.cdb.specs.Hash.{hash_of}
use Rattle.cdb.specs.Writing.{database_size, entries_size}
use Rattle.cdb.proofs.FillingLaws.{lower_more, lower_none, lower_within}
use Rattle.cdb.proofs.Frames.{length-pointers, length-record, length-slots}

-- sizes
pub length-records : (records : List Record) → length (records_octets records) ≡ records_size records
length-records [] = refl
length-records (r ∷ records) =
    let one = length-append (record_octets r) (records_octets records) in
    let two = length-record r in
    let rest = length-records records in
    omega (arith, one, two, rest)

pub entries_sized : (records : List Record) → entries_size records ≡ records_size records + 2 * PAIR_SIZE * length records
entries_sized [] = refl
entries_sized (r ∷ records) = let rest = entries_sized records in omega (arith, rest)

pub length-slots_from : (at : ℕ) (records : List Record) → length (slots_from at records) ≡ length records
length-slots_from at [] = refl
length-slots_from at (r ∷ records) = let rest = length-slots_from (at + record_size r) records in omega (arith, rest)

pub slots_rising : (low at : ℕ) (records : List Record) → low < at → AreRising low (slots_from at records)
slots_rising low at [] lt = tt
slots_rising low at (r ∷ records) lt = (lt, slots_rising at (at + record_size r) records (omega arith))

-- a record and its slot
slot_among : (at : ℕ) (records : List Record) (position : ℕ) (r : Record) → StandsAt at records position r → Among (slots_from at records) (record { hash = hash_of r.key.items; at = position })
slot_among at [] position r stands = absurd stands
slot_among at (first ∷ records) position r (inl is) =
    inl (ap (λ (n : ℕ). let slot : Slot = record { hash = hash_of r.key.items; at = n } in slot) is.0
    ∙ ap (λ (one : Record). let slot : Slot = record { hash = hash_of one.key.items; at = at } in slot) is.1)
slot_among at (first ∷ records) position r (inr stands) = inr (slot_among (at + record_size first) records position r stands)

-- The record of a slot.
abbrev IsOf : ℕ → List Record → Slot → Record → Type 0
IsOf at records slot r = StandsAt at records slot.at r × (slot.hash ≡ hash_of r.key.items)

record_of : (at : ℕ) (records : List Record) (slot : Slot) → Among (slots_from at records) slot → (r : Record) × IsOf at records slot r
record_of at [] slot among = absurd among
record_of at (first ∷ records) slot (inl is) = (first, (inl (ap (λ (s : Slot). s.at) is, refl), ap (λ (s : Slot). s.hash) is))
record_of at (first ∷ records) slot (inr among) = let rest = record_of (at + record_size first) records slot among in (rest.0, (inr rest.1.0, rest.1.1))

stands_within : (at : ℕ) (records : List Record) (position : ℕ) (r : Record) → StandsAt at records position r → position + record_size r ≤ at + records_size records
stands_within at [] position r stands = absurd stands
stands_within at (first ∷ records) position r (inl is) =
    let same : record_size r ≡ record_size first = ap record_size is.1 in
    let place = is.0 in
    omega (arith, same, place)
stands_within at (first ∷ records) position r (inr stands) = let rest = stands_within (at + record_size first) records position r stands in omega (arith, rest)

among_all : (P : Slot → Type 0) (slots : List Slot) (slot : Slot) → Among slots slot → AllByRecursion P slots → P slot
among_all P [] slot among all = absurd among
among_all P (first ∷ slots) slot (inl is) all = subst P (sym is) all.0
among_all P (first ∷ slots) slot (inr among) all = among_all P slots slot among all.1

-- a filled table is the records'
module _ (records : List Record) (small : database_size records < 2 ^ 32) (hashes : AreHashes (slots_from HEADER_SIZE records)) where
  at_short : (position : ℕ) (r : Record) → StandsAt HEADER_SIZE records position r → position < 2 ^ 32
  at_short position r stands =
      let within = stands_within HEADER_SIZE records position r stands in
      let sized = entries_sized records in
      omega (arith, within, sized, small)

  own_slot : (number : ℕ) (cell : Slot) → IsOwn number (slots_from HEADER_SIZE records) cell → IsSlot records number cell
  own_slot number cell (inl is) = subst (IsSlot records number) (sym is) (record { hash = omega arith; at = omega arith; full = inl refl })
  own_slot number cell (inr own) =
      let one = record_of HEADER_SIZE records cell own.0 in
      record {
        hash = among_all (λ (slot : Slot). slot.hash < 2 ^ 32) (slots_from HEADER_SIZE records) cell own.0 (recursion_from_All (λ (slot : Slot). slot.hash < 2 ^ 32) (slots_from HEADER_SIZE records) hashes);
        at = at_short cell.at one.0 one.1.0;
        full = inr (one.0, one.1.0, one.1.1, own.1);
      }

  pub table_filled : (number : ℕ) (cells : List Slot) → IsFilled number (slots_from HEADER_SIZE records) cells → IsTable records number cells
  table_filled number cells filled = record {
    each = All-weaker (IsOwn number (slots_from HEADER_SIZE records)) (IsSlot records number) (own_slot number) cells filled.each;
    met = λ position r stands own. filled.met (record { hash = hash_of r.key.items; at = position }) (slot_among HEADER_SIZE records position r stands) own;
  }

  pub made : (header octets bytes : List ℕ) → AreTables TABLES (HEADER_SIZE + records_size records) (slots_from HEADER_SIZE records) header octets
      → bytes ≡ (header ++ records_octets records) ++ octets → IsDatabase bytes records
  made header octets bytes are is = record {
    tables = are.tables;
    count = are.count;
    layout = laid;
    short = fits;
    each = λ number lt. table_filled number (get_or are.tables number []) (are.each number lt);
  }
    where
      begins : HEADER_SIZE + records_size records ≡ HEADER_SIZE + length (records_octets records)
      begins = ap (λ n. HEADER_SIZE + n) (sym (length-records records))

      front : header ≡ pointers (HEADER_SIZE + length (records_octets records)) are.tables
      front = are.pointed ∙ ap (λ n. pointers n are.tables) begins

      laid : bytes ≡ pointers (HEADER_SIZE + length (records_octets records)) are.tables ++ (records_octets records ++ tables_octets are.tables)
      laid = is ∙ append_assoc header (records_octets records) octets ∙ ap (λ h. h ++ (records_octets records ++ octets)) front
          ∙ ap (λ t. pointers (HEADER_SIZE + length (records_octets records)) are.tables ++ (records_octets records ++ t)) are.placed

      fits : length bytes < 2 ^ 32
      fits =
          let whole = ap length is in
          let one = length-append (header ++ records_octets records) octets in
          let two = length-append header (records_octets records) in
          let three : length header ≡ PAIR_SIZE * length are.tables = ap length are.pointed ∙ length-pointers (HEADER_SIZE + records_size records) are.tables in
          let four = length-records records in
          let five = are.sized in
          let six = lower_within TABLES (slots_from HEADER_SIZE records) in
          let seven = length-slots_from HEADER_SIZE records in
          let eight = entries_sized records in
          let many = are.count in
          omega (arith, whole, one, two, three, four, five, six, seven, eight, many, small)

  pub make_done : (start : ℕ) (slots : List Slot) (header octets middle bytes : List ℕ) → slots ≡ slots_from HEADER_SIZE records → start ≡ HEADER_SIZE + records_size records
      → AreTables TABLES start slots header octets → middle ≡ header ++ records_octets records → bytes ≡ middle ++ octets → IsDatabase bytes records
  make_done start slots header octets middle bytes slots_are start_is are middle_is is =
      made header octets bytes
      (subst (λ n. AreTables TABLES n (slots_from HEADER_SIZE records) header octets) start_is (subst (λ (s : List Slot). AreTables TABLES start s header octets) slots_are are))
      (is ∙ ap (λ m. m ++ octets) middle_is)

-- one more table
pointers_more : (at : ℕ) (tables : List (List Slot)) (cells : List Slot) → pointers at (tables ++ cells ∷ []) ≡ pointers at tables ++ pair_octets (at + length (tables_octets tables)) (length cells)
pointers_more at [] cells =
    let same : at ≡ at + 0 = omega arith in
    append-nil (pair_octets at (length cells)) ∙ ap (λ n. pair_octets n (length cells)) same
pointers_more at (slots ∷ tables) cells =
    let one = length-append (table_octets slots) (tables_octets tables) in
    let two = length-slots slots in
    let same : at + PAIR_SIZE * length slots + length (tables_octets tables) ≡ at + length (table_octets slots ++ tables_octets tables) = omega (arith, one, two) in
    ap (λ rest. pair_octets at (length slots) ++ rest) (pointers_more (at + PAIR_SIZE * length slots) tables cells)
    ∙ sym (append_assoc (pair_octets at (length slots)) (pointers (at + PAIR_SIZE * length slots) tables) (pair_octets (at + PAIR_SIZE * length slots + length (tables_octets tables)) (length cells)))
    ∙ ap (λ n. (pair_octets at (length slots) ++ pointers (at + PAIR_SIZE * length slots) tables) ++ pair_octets n (length cells)) same

pub tables_none : (start : ℕ) (slots : List Slot) → AreTables 0 start slots [] []
tables_none start slots = record { tables = []; count = refl; pointed = refl; placed = refl; sized = let none = lower_none slots in omega (arith, none); each = λ n lt. absurd (omega (arith, lt)) }

pub tables_more : (number start : ℕ) (slots cells : List Slot) (header octets more_header more_octets : List ℕ) → AreTables number start slots header octets → IsFilled number slots cells
    → length cells ≡ 2 * own_count number slots → more_header ≡ header ++ pair_octets (start + length octets) (length cells) → more_octets ≡ octets ++ table_octets cells
    → AreTables (number + 1) start slots more_header more_octets
tables_more number start slots cells header octets more_header more_octets are filled size header_is octets_is = record {
  tables = are.tables ++ cells ∷ [];
  count = let own = are.count in omega (arith, own, length-append are.tables (cells ∷ []));
  pointed = header_is ∙ ap (λ h. h ++ pair_octets (start + length octets) (length cells)) are.pointed
      ∙ ap (λ o. pointers start are.tables ++ pair_octets (start + length o) (length cells)) are.placed ∙ sym (pointers_more start are.tables cells);
  placed = octets_is ∙ ap (λ o. o ++ table_octets cells) are.placed ∙ flat_map_more table_octets [] are.tables cells;
  sized = sizes;
  each = each;
}
  where
    sizes : length more_octets ≡ 2 * PAIR_SIZE * lower_count (number + 1) slots
    sizes =
        let whole = ap length octets_is in
        let one = length-append octets (table_octets cells) in
        let two = length-slots cells in
        let three = are.sized in
        let four = lower_more number slots in
        omega (arith, whole, one, two, three, four, size)

    each : (n : ℕ) → n < number + 1 → IsFilled n slots (get_or (are.tables ++ cells ∷ []) n [])
    each n lt = elim (cases_lt n number) [
      | inl before ↦
          let many = are.count in
          let same : get_or (are.tables ++ cells ∷ []) n [] ≡ get_or are.tables n [] = get_or_append_left are.tables (cells ∷ []) [] n (omega (arith, before, many)) in
          subst (IsFilled n slots) (sym same) (are.each n before)
      | inr from ↦
          let many = are.count in
          let last : number ≡ n = omega (arith, lt, from) in
          let same : get_or (are.tables ++ cells ∷ []) n [] ≡ cells = get_or_at are.tables cells [] [] n (many ∙ last) in
          subst (IsFilled n slots) (sym same) (subst (λ (m : ℕ). IsFilled m slots cells) last filled)
    ]

-- a step of a loop over records
pub next_record : (records : List Record) (index : ℕ) (one : Record) → index < length records → one ≡ get_or records index one → drop index records ≡ one ∷ drop (index + 1) records
next_record records index one lt is = drop_more records index one lt ∙ ap (λ (r : Record). r ∷ drop (index + 1) records) (sym is)

pub slots_more : (slots : List Slot) (at place : ℕ) (one : Record) (slot : Slot) (before rest : List Record) (whole : List Slot) → before ≡ one ∷ rest → slot ≡ record { hash = hash_of one.key.items; at = at }
    → place ≡ at + record_size one → slots ++ slots_from at before ≡ whole → (slots ++ slot ∷ []) ++ slots_from place rest ≡ whole
slots_more slots at place one slot before rest whole before_is slot_is place_is is =
    append_assoc slots (slot ∷ []) (slots_from place rest)
    ∙ ap (λ (s : Slot). slots ++ s ∷ slots_from place rest) slot_is
    ∙ ap (λ (n : ℕ). let first : Slot = record { hash = hash_of one.key.items; at = at } in slots ++ first ∷ slots_from n rest) place_is
    ∙ ap (λ (r : List Record). slots ++ slots_from at r) (sym before_is)
    ∙ is

-- a record takes no more than all
pub within_entries : (records : List Record) (index : ℕ) (one : Record) → index < length records → one ≡ get_or records index one → record_size one ≤ entries_size records
within_entries [] index one lt is = absurd (omega (arith, lt))
within_entries (first ∷ records) zero one lt is = let same : record_size one ≡ record_size first = ap record_size is in omega (arith, same)
within_entries (first ∷ records) (suc index) one lt is = let rest = within_entries records index one (omega (arith, lt)) is in omega (arith, rest)
