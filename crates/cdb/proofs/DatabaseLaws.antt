-- What a search in a database finds: the first record with the key.
use Rattle.std.proofs.Common.{◌≡◌, ◌≢◌, ◌⊎◌, inl, inr, ℕ, zero, suc, ◌+◌, ◌*◌, ◌/◌, ◌%◌, ◌^◌, ◌<◌, ◌≤◌, ◌==◌, List, [], ◌∷◌, ◌++◌, length, get_or, Option, None, Some, Result, Ok, Bool, true, false, if◌then◌else◌, nat_eq, All, refl, sym, ap, subst, ◌∙◌, arith, add-mul, one-mul}
use Rattle.std.proofs.lemmas.Bool.{cases_eq, eqb-false, eqb-true}
use Rattle.std.proofs.lemmas.List.Elements.{All-get_or, recursion_from_All}
use Rattle.std.proofs.lemmas.Nat.{div-add-mod', mod_below, mod-mul-add}
use Rattle.std.specs.Cmp.Lexicographic.{pointwise}
use Rattle.std.specs.List.{AllByRecursion}
use Rattle.cdb.specs.declared.fault.Fault.{Fault}
use Rattle.cdb.specs.declared.format.TheConstants.{HEADER_SIZE, PAIR_SIZE, TABLES}
use Rattle.cdb.specs.declared.records.Record.{Record}
use Rattle.cdb.specs.declared.slots.Slot.{Slot}
use Rattle.cdb.specs.declared.tables.Found.{Found}
use Rattle.cdb.specs.declared.tables.SlotOutcome.{SlotOutcome}
use Rattle.cdb.specs.declared.tables.SlotOutcome.TheVariants as outcome
use Rattle.cdb.specs.Database.{IsDatabase, IsMet, IsSlot, IsTable, pair_octets, placed, record_octets, record_size, slot_after, slot_octets, StandsAt}
use Rattle.cdb.specs.Find.{concluded, data_at, find_in, following, in_record, in_slot, looked_up, pair_at, part_at, probed, stands_at}
use Rattle.cdb.specs.Hash.{hash_of}
use Rattle.cdb.specs.Reading.{◌>>=◌}
use Rattle.cdb.specs.Records.{answer}
use Rattle.cdb.proofs.Frames.{behind, database_pointer, database_record, database_slot, length-record, octets_before, pointer_short}
use Rattle.cdb.proofs.Places.{At, at_inner, at_left, at_right, at_within, length-pair, pair_of, part_of}
use Rattle.cdb.proofs.Probing.{find_none, find_probed, looked_found, looked_none, record_found, record_of_other_key, record_of_other_size, slot_empty, slot_other, slot_record}
use Rattle.cdb.proofs.Sound.{same_list}

-- the slot that follows
further : (whole slots : ℕ) → 0 < slots → whole % slots + 1 < slots → (whole + 1) % slots ≡ whole % slots + 1
further whole slots some lt =
    let parts : whole / slots * slots + whole % slots ≡ whole = div-add-mod' whole slots in
    let sum : whole + 1 ≡ whole / slots * slots + (whole % slots + 1) = omega (arith, parts) in
    ap (λ n. n % slots) sum ∙ mod-mul-add (whole / slots) slots (whole % slots + 1) lt

around : (whole slots : ℕ) → 0 < slots → whole % slots + 1 ≡ slots → (whole + 1) % slots ≡ 0
around whole slots some last =
    let parts : whole / slots * slots + whole % slots ≡ whole = div-add-mod' whole slots in
    let more : (whole / slots + 1) * slots ≡ whole / slots * slots + slots = add-mul-one (whole / slots) slots in
    let sum : whole + 1 ≡ (whole / slots + 1) * slots + 0 = omega (arith, parts, more, last) in
    ap (λ n. n % slots) sum ∙ mod-mul-add (whole / slots + 1) slots 0 some
  where
    add-mul-one : (a b : ℕ) → (a + 1) * b ≡ a * b + b
    add-mul-one a b = add-mul a 1 b ∙ ap (λ n. a * b + n) (one-mul b)

pub next_slot : (begin others slots : ℕ) → 0 < slots → following ((begin + others) % slots) slots ≡ (begin + suc others) % slots
next_slot begin others slots some = by ((begin + others) % slots + 1 == slots) refl
  where
    shifted : (begin + others + 1) % slots ≡ (begin + suc others) % slots
    shifted = let same : begin + others + 1 ≡ begin + suc others = omega arith in ap (λ n. n % slots) same

    by : (last : Bool) → ((begin + others) % slots + 1 == slots) ≡ last → (if last then 0 else (begin + others) % slots + 1) ≡ (begin + suc others) % slots
    by true e = sym (around (begin + others) slots some (eqb-true ((begin + others) % slots + 1) slots e)) ∙ shifted
    by false e =
        let other = eqb-false ((begin + others) % slots + 1) slots e in
        let below = mod_below (begin + others) slots some in
        sym (further (begin + others) slots some (omega (arith, other, below))) ∙ shifted

-- the first record with a key, or none
pub record Leads (at : ℕ) (records : List Record) (key : List ℕ) : Type 0 where
  pub position : ℕ
  pub r : Record
  pub stands : StandsAt at records position r
  pub same : pointwise nat_eq r.key.items key ≡ true
  pub found : placed at records key ≡ Some (record { position = position + PAIR_SIZE + length r.key.items; size = length r.content.items })
  pub said : answer records key ≡ Some r.content.items
  pub first : (other : ℕ) (s : Record) → StandsAt at records other s → other < position → pointwise nat_eq s.key.items key ≡ false

pub record Absent (at : ℕ) (records : List Record) (key : List ℕ) : Type 0 where
  pub none : placed at records key ≡ None
  pub said : answer records key ≡ None
  pub others : (other : ℕ) (s : Record) → StandsAt at records other s → pointwise nat_eq s.key.items key ≡ false

stands_from : (at : ℕ) (records : List Record) (position : ℕ) (r : Record) → StandsAt at records position r → at ≤ position
stands_from at [] position r stands = absurd stands
stands_from at (first ∷ records) position r (inl is) = omega (arith, is.0)
stands_from at (first ∷ records) position r (inr stands) = let rest = stands_from (at + record_size first) records position r stands in omega (arith, rest)

-- what holds of each record holds of one that stands among them
stands_all : (P : Record → Type 0) (at : ℕ) (records : List Record) (position : ℕ) (r : Record) → StandsAt at records position r → AllByRecursion P records → P r
stands_all P at [] position r stands all = absurd stands
stands_all P at (first ∷ records) position r (inl is) all = subst P (sym is.1) all.0
stands_all P at (first ∷ records) position r (inr stands) all = stands_all P (at + record_size first) records position r stands all.1

module _ (key : List ℕ) where
  led : (at : ℕ) (first : Record) (records : List Record) → pointwise nat_eq first.key.items key ≡ true → Leads at (first ∷ records) key
  led at first records same = record {
    position = at;
    r = first;
    stands = inl (refl, refl);
    same = same;
    found = ap (λ (b : Bool). if b then Some (record { position = at + PAIR_SIZE + length first.key.items; size = length first.content.items }) else placed (at + record_size first) records key) same;
    said = ap (λ (b : Bool). if b then Some first.content.items else answer records key) same;
    first = λ other s stands before. let from = stands_from at (first ∷ records) other s stands in absurd (omega (arith, from, before));
  }

  passed : (at : ℕ) (first : Record) (records : List Record) → pointwise nat_eq first.key.items key ≡ false → placed at (first ∷ records) key ≡ placed (at + record_size first) records key
  passed at first records other = ap (λ (b : Bool). if b then Some (record { position = at + PAIR_SIZE + length first.key.items; size = length first.content.items }) else placed (at + record_size first) records key) other

  unsaid : (first : Record) (records : List Record) → pointwise nat_eq first.key.items key ≡ false → answer (first ∷ records) key ≡ answer records key
  unsaid first records other = ap (λ (b : Bool). if b then Some first.content.items else answer records key) other

  led_on : (at : ℕ) (first : Record) (records : List Record) → pointwise nat_eq first.key.items key ≡ false → Leads (at + record_size first) records key → Leads at (first ∷ records) key
  led_on at first records other rest = record {
    position = rest.position;
    r = rest.r;
    stands = inr rest.stands;
    same = rest.same;
    found = passed at first records other ∙ rest.found;
    said = unsaid first records other ∙ rest.said;
    first = before;
  }
    where
      before : (place : ℕ) (s : Record) → StandsAt at (first ∷ records) place s → place < rest.position → pointwise nat_eq s.key.items key ≡ false
      before place s (inl is) lt = ap (λ (one : Record). pointwise nat_eq one.key.items key) is.1 ∙ other
      before place s (inr stands) lt = rest.first place s stands lt

  absent_on : (at : ℕ) (first : Record) (records : List Record) → pointwise nat_eq first.key.items key ≡ false → Absent (at + record_size first) records key → Absent at (first ∷ records) key
  absent_on at first records other rest = record { none = passed at first records other ∙ rest.none; said = unsaid first records other ∙ rest.said; others = before }
    where
      before : (place : ℕ) (s : Record) → StandsAt at (first ∷ records) place s → pointwise nat_eq s.key.items key ≡ false
      before place s (inl is) = ap (λ (one : Record). pointwise nat_eq one.key.items key) is.1 ∙ other
      before place s (inr stands) = rest.others place s stands

  pub leads_or_absent : (at : ℕ) (records : List Record) → Leads at records key ⊎ Absent at records key
  leads_or_absent at [] = inr (record { none = refl; said = refl; others = λ other s stands. absurd stands })
  leads_or_absent at (first ∷ records) = by (pointwise nat_eq first.key.items key) refl (leads_or_absent (at + record_size first) records)
    where
      by : (same : Bool) → pointwise nat_eq first.key.items key ≡ same → Leads (at + record_size first) records key ⊎ Absent (at + record_size first) records key
          → Leads at (first ∷ records) key ⊎ Absent at (first ∷ records) key
      by true e rest = inl (led at first records e)
      by false e (inl rest) = inl (led_on at first records e rest)
      by false e (inr rest) = inr (absent_on at first records e rest)

-- a record that stands at a position of octets
module _ (octets : List ℕ) (position : ℕ) (r : Record) (at : At octets position (record_octets r)) (short : length octets < 2 ^ 32) where
  whole_short : (length r.key.items < 2 ^ 32) × (length r.content.items < 2 ^ 32)
  whole_short = let within = at_within octets (record_octets r) position at in let sized = length-record r in (omega (arith, within, sized, short), omega (arith, within, sized, short))

  pair_of_record : pair_at position octets ≡ Ok (length r.key.items, length r.content.items)
  pair_of_record =
      pair_of octets position (length r.key.items) (length r.content.items)
      (at_inner octets (record_octets r) (pair_octets (length r.key.items) (length r.content.items)) position 0 position at
      (at_left (pair_octets (length r.key.items) (length r.content.items)) (r.key.items ++ r.content.items)) (omega arith)) whole_short.0 whole_short.1

  behind_pair : At octets (position + PAIR_SIZE) (r.key.items ++ r.content.items)
  behind_pair =
      let sized = length-pair (length r.key.items) (length r.content.items) in
      at_inner octets (record_octets r) (r.key.items ++ r.content.items) position (length (pair_octets (length r.key.items) (length r.content.items))) (position + PAIR_SIZE) at
      (at_right (pair_octets (length r.key.items) (length r.content.items)) (r.key.items ++ r.content.items)) (omega (arith, sized))

  key_of_record : part_at (position + PAIR_SIZE) (length r.key.items) octets ≡ Ok r.key.items
  key_of_record = part_of octets r.key.items (position + PAIR_SIZE) (length r.key.items)
      (at_inner octets (r.key.items ++ r.content.items) r.key.items (position + PAIR_SIZE) 0 (position + PAIR_SIZE) behind_pair (at_left r.key.items r.content.items) (omega arith)) refl

  pub content_of_record : part_at (position + PAIR_SIZE + length r.key.items) (length r.content.items) octets ≡ Ok r.content.items
  content_of_record = part_of octets r.content.items (position + PAIR_SIZE + length r.key.items) (length r.content.items)
      (at_inner octets (r.key.items ++ r.content.items) r.content.items (position + PAIR_SIZE) (length r.key.items) (position + PAIR_SIZE + length r.key.items) behind_pair
      (at_right r.key.items r.content.items) refl) refl

  stands_as : (key : List ℕ) → length r.key.items ≡ length key → stands_at (position + PAIR_SIZE) key octets ≡ Ok (pointwise nat_eq r.key.items key)
  unfolding stands_at
  stands_as key sized =
      let own : part_at (position + PAIR_SIZE) (length key) octets ≡ Ok r.key.items = ap (λ n. part_at (position + PAIR_SIZE) n octets) (sym sized) ∙ key_of_record in
      rw own refl

  pub same_record : (key : List ℕ) → pointwise nat_eq r.key.items key ≡ true
      → in_record key position octets ≡ Ok (outcome.Found (record { position = position + PAIR_SIZE + length r.key.items; size = length r.content.items }))
  same_record key same =
      let sized : length r.key.items ≡ length key = ap length (same_list r.key.items key same) in
      record_found key position (length r.key.items) (length r.content.items) octets pair_of_record sized (stands_as key sized ∙ ap (λ b. Ok b) same)

  pub other_record : (key : List ℕ) → pointwise nat_eq r.key.items key ≡ false → in_record key position octets ≡ Ok outcome.Other
  other_record key other = elim (cases_eq (length r.key.items) (length key)) [
    | inl sized ↦ record_of_other_key key position (length r.key.items) (length r.content.items) octets pair_of_record sized (stands_as key sized ∙ ap (λ b. Ok b) other)
    | inr unsized ↦ record_of_other_size key position (length r.key.items) (length r.content.items) octets pair_of_record unsized
  ]

-- a step of a search that goes on
module _ (key : List ℕ) (hash start slots : ℕ) (octets : List ℕ) where
  on : (slot left : ℕ) (total : Result (Option Found) Fault) → in_slot key hash (start + PAIR_SIZE * slot) octets ≡ Ok outcome.Other
      → probed key hash start slots octets (following slot slots) left ≡ total → probed key hash start slots octets slot (suc left) ≡ total
  unfolding probed
  on slot left total other rest = rw other rest

  ended : (slot left : ℕ) → in_slot key hash (start + PAIR_SIZE * slot) octets ≡ Ok outcome.Empty → probed key hash start slots octets slot (suc left) ≡ Ok None
  unfolding probed
  ended slot left empty = rw empty refl

  ended_found : (found : Found) (slot left : ℕ) → in_slot key hash (start + PAIR_SIZE * slot) octets ≡ Ok (outcome.Found found) → probed key hash start slots octets slot (suc left) ≡ Ok (Some found)
  unfolding probed
  ended_found found slot left is = rw is refl

  -- a search that meets no record with the key
  pub searched_none : ((slot : ℕ) → slot < slots → (in_slot key hash (start + PAIR_SIZE * slot) octets ≡ Ok outcome.Empty) ⊎ (in_slot key hash (start + PAIR_SIZE * slot) octets ≡ Ok outcome.Other))
      → (begin : ℕ) → 0 < slots → (others left : ℕ) → probed key hash start slots octets ((begin + others) % slots) left ≡ Ok None
  unfolding probed
  searched_none each begin some others zero = refl
  searched_none each begin some others (suc left) = elim (each ((begin + others) % slots) (mod_below (begin + others) slots some)) [
    | inl empty ↦ ended ((begin + others) % slots) left empty
    | inr other ↦ on ((begin + others) % slots) left (Ok None) other
        (ap (λ slot. probed key hash start slots octets slot left) (next_slot begin others slots some) ∙ searched_none each begin some (suc others) left)
  ]

  -- a search that meets a record with the key behind slots of other keys
  pub searched_found : (found : Found) (begin total : ℕ) → 0 < slots → ((k : ℕ) → k < total → in_slot key hash (start + PAIR_SIZE * ((begin + k) % slots)) octets ≡ Ok outcome.Other)
      → in_slot key hash (start + PAIR_SIZE * ((begin + total) % slots)) octets ≡ Ok (outcome.Found found)
      → (further others left : ℕ) → others + further ≡ total → further < left → probed key hash start slots octets ((begin + others) % slots) left ≡ Ok (Some found)
  searched_found found begin total some before meets zero others zero sum lt = absurd (omega (arith, lt))
  searched_found found begin total some before meets (suc further) others zero sum lt = absurd (omega (arith, lt))
  searched_found found begin total some before meets zero others (suc left) sum lt =
      let same : total ≡ others = omega (arith, sum) in
      ended_found found ((begin + others) % slots) left (subst (λ n. in_slot key hash (start + PAIR_SIZE * ((begin + n) % slots)) octets ≡ Ok (outcome.Found found)) same meets)
  searched_found found begin total some before meets (suc further) others (suc left) sum lt =
      on ((begin + others) % slots) left (Ok (Some found)) (before others (omega (arith, sum)))
      (ap (λ slot. probed key hash start slots octets slot left) (next_slot begin others slots some)
      ∙ searched_found found begin total some before meets further (suc others) left (omega (arith, sum)) (omega (arith, lt)))

-- the hash table of a key
module _ (octets : List ℕ) (records : List Record) (is : IsDatabase octets records) (key : List ℕ) where
  number : ℕ
  number = hash_of key % TABLES

  slots : List Slot
  slots = get_or is.tables number []

  start : ℕ
  start = behind records + octets_before is.tables number

  number_is : hash_of key % TABLES ≡ number
  unfolding number
  number_is = refl

  numbered : number < TABLES
  unfolding number
  numbered = mod_below (hash_of key) TABLES (omega arith)

  table : IsTable records number slots
  unfolding slots
  table = is.each number numbered

  pointer : pair_at (hash_of key % TABLES * PAIR_SIZE) octets ≡ Ok (start, length slots)
  unfolding number slots start
  pointer =
      let shorts = pointer_short octets records is (hash_of key % TABLES) numbered in
      pair_of octets (hash_of key % TABLES * PAIR_SIZE) (behind records + octets_before is.tables (hash_of key % TABLES)) (length (get_or is.tables (hash_of key % TABLES) []))
      (database_pointer octets records is (hash_of key % TABLES) numbered) shorts.0 shorts.1

  slot_read : (index : ℕ) (d : Slot) → index < length slots → pair_at (start + PAIR_SIZE * index) octets ≡ Ok ((get_or slots index d).hash, (get_or slots index d).at)
  unfolding number slots start
  slot_read index d lt =
      let own = All-get_or (IsSlot records number) slots index d lt table.each in
      pair_of octets (behind records + octets_before is.tables number + PAIR_SIZE * index) (get_or (get_or is.tables number []) index d).hash (get_or (get_or is.tables number []) index d).at
      (database_slot octets records is number index d numbered lt) own.hash own.at

  -- a slot of which the record has another key
  other_slot : (slot : Slot) (position : ℕ) → pair_at position octets ≡ Ok (slot.hash, slot.at) → slot.at ≢ 0
      → (r : Record) → StandsAt HEADER_SIZE records slot.at r → pointwise nat_eq r.key.items key ≡ false → in_slot key (hash_of key) position octets ≡ Ok outcome.Other
  other_slot slot position read full r stands other = elim (cases_eq slot.hash (hash_of key)) [
    | inl same ↦ slot_record key (hash_of key) position slot.hash slot.at octets read full same
        ∙ other_record octets slot.at r (database_record octets records is slot.at r stands) is.short key other
    | inr differs ↦ slot_other key (hash_of key) position slot.hash slot.at octets read full differs
  ]

  -- no record has the key
  none_slot : (slot : Slot) (position : ℕ) → Absent HEADER_SIZE records key → IsSlot records number slot → pair_at position octets ≡ Ok (slot.hash, slot.at)
      → (in_slot key (hash_of key) position octets ≡ Ok outcome.Empty) ⊎ (in_slot key (hash_of key) position octets ≡ Ok outcome.Other)
  none_slot slot position absent own read = elim (cases_eq slot.at 0) [
    | inl empty ↦ inl (slot_empty key (hash_of key) position slot.hash slot.at octets read empty)
    | inr full ↦ inr (elim own.full [
      | inl empty ↦ absurd (full empty)
      | inr one ↦ other_slot slot position read full one.0 one.1 (absent.others slot.at one.0 one.1)
    ])
  ]

  empty_slot : Slot
  empty_slot = record { hash = 0; at = 0 }

  found_none : Absent HEADER_SIZE records key → find_in octets key ≡ Ok None
  found_none absent = elim (cases_eq (length slots) 0) [
    | inl none ↦ find_none key octets start (length slots) pointer none
    | inr some ↦ find_probed key octets start (length slots) pointer some ∙ searched (omega (arith, some))
  ]
    where
      each : (index : ℕ) → index < length slots
          → (in_slot key (hash_of key) (start + PAIR_SIZE * index) octets ≡ Ok outcome.Empty) ⊎ (in_slot key (hash_of key) (start + PAIR_SIZE * index) octets ≡ Ok outcome.Other)
      each index lt = none_slot (get_or slots index empty_slot) (start + PAIR_SIZE * index) absent (All-get_or (IsSlot records number) slots index empty_slot lt table.each) (slot_read index empty_slot lt)

      searched : 0 < length slots → probed key (hash_of key) start (length slots) octets (hash_of key / TABLES % length slots) (length slots) ≡ Ok None
      searched some =
          let same : hash_of key / TABLES % length slots ≡ (hash_of key / TABLES + 0) % length slots = ap (λ n. n % length slots) (omega arith) in
          ap (λ slot. probed key (hash_of key) start (length slots) octets slot (length slots)) same
          ∙ searched_none key (hash_of key) start (length slots) octets each (hash_of key / TABLES) some 0 (length slots)

  module _ (leads : Leads HEADER_SIZE records key) where
    own_key : leads.r.key.items ≡ key
    own_key = same_list leads.r.key.items key leads.same

    met : IsMet slots (hash_of key) leads.position
    met = subst (λ k. IsMet slots (hash_of k) leads.position) own_key
        (table.met leads.position leads.r leads.stands (ap (λ k. hash_of k % TABLES) own_key ∙ number_is))

    some_slots : 0 < length slots
    some_slots = let within = met.within in omega (arith, within)

    read_after : (k : ℕ) → pair_at (start + PAIR_SIZE * ((hash_of key / TABLES + k) % length slots)) octets ≡ Ok ((slot_after slots (hash_of key) k).hash, (slot_after slots (hash_of key) k).at)
    read_after k = slot_read ((hash_of key / TABLES + k) % length slots) (record { hash = 0; at = 0 }) (mod_below (hash_of key / TABLES + k) (length slots) some_slots)

    slot_is : (k : ℕ) → IsSlot records number (slot_after slots (hash_of key) k)
    slot_is k = All-get_or (IsSlot records number) slots ((hash_of key / TABLES + k) % length slots) (record { hash = 0; at = 0 })
        (mod_below (hash_of key / TABLES + k) (length slots) some_slots) table.each

    before : (k : ℕ) → k < met.others → in_slot key (hash_of key) (start + PAIR_SIZE * ((hash_of key / TABLES + k) % length slots)) octets ≡ Ok outcome.Other
    before k lt = by (slot_is k).full
      where
        earlier : (0 < (slot_after slots (hash_of key) k).at) × ((slot_after slots (hash_of key) k).at < leads.position)
        earlier = met.before k lt

        full : (slot_after slots (hash_of key) k).at ≢ 0
        full = λ e. let some = earlier.0 in absurd (omega (arith, some, e))

        by : (((slot_after slots (hash_of key) k).at ≡ 0) ⊎ ((r : Record) × StandsAt HEADER_SIZE records (slot_after slots (hash_of key) k).at r
            × ((slot_after slots (hash_of key) k).hash ≡ hash_of r.key.items) × ((slot_after slots (hash_of key) k).hash % TABLES ≡ number)))
            → in_slot key (hash_of key) (start + PAIR_SIZE * ((hash_of key / TABLES + k) % length slots)) octets ≡ Ok outcome.Other
        by (inl empty) = absurd (full empty)
        by (inr one) = other_slot (slot_after slots (hash_of key) k) (start + PAIR_SIZE * ((hash_of key / TABLES + k) % length slots)) (read_after k) full one.0 one.1
            (leads.first (slot_after slots (hash_of key) k).at one.0 one.1 earlier.1)

    there : Found
    there = record { position = leads.position + PAIR_SIZE + length leads.r.key.items; size = length leads.r.content.items }

    positive : leads.position ≢ 0
    positive = λ e. let from = stands_from HEADER_SIZE records leads.position leads.r leads.stands in absurd (omega (arith, from, e))

    meets : in_slot key (hash_of key) (start + PAIR_SIZE * ((hash_of key / TABLES + met.others) % length slots)) octets ≡ Ok (outcome.Found there)
    unfolding there
    meets =
        let read : pair_at (start + PAIR_SIZE * ((hash_of key / TABLES + met.others) % length slots)) octets ≡ Ok (hash_of key, leads.position)
        = read_after met.others ∙ ap (λ (slot : Slot). Ok (slot.hash, slot.at)) met.meets in
        slot_record key (hash_of key) (start + PAIR_SIZE * ((hash_of key / TABLES + met.others) % length slots)) (hash_of key) leads.position octets read positive refl
        ∙ same_record octets leads.position leads.r (database_record octets records is leads.position leads.r leads.stands) is.short key leads.same

    found_first : find_in octets key ≡ Ok (Some there)
    found_first =
        let ne : length slots ≢ 0 = λ e. let some = some_slots in absurd (omega (arith, some, e)) in
        let same : hash_of key / TABLES % length slots ≡ (hash_of key / TABLES + 0) % length slots = ap (λ n. n % length slots) (omega arith) in
        let within = met.within in
        find_probed key octets start (length slots) pointer ne
        ∙ ap (λ slot. probed key (hash_of key) start (length slots) octets slot (length slots)) same
        ∙ searched_found key (hash_of key) start (length slots) octets there (hash_of key / TABLES) met.others some_slots before meets met.others 0 (length slots) (omega arith) within

  pub found_in : find_in octets key ≡ Ok (placed HEADER_SIZE records key)
  unfolding there
  found_in = elim (leads_or_absent key HEADER_SIZE records) [
    | inl leads ↦ found_first leads ∙ ap (λ (o : Option Found). Ok o) (sym leads.found)
    | inr absent ↦ found_none absent ∙ ap (λ (o : Option Found). Ok o) (sym absent.none)
  ]

  -- the data that are found
  looked_leads : (room : ℕ) → All (λ (r : Record). length r.content.items ≤ room) records → Leads HEADER_SIZE records key → looked_up room octets key ≡ Ok (answer records key)
  unfolding there
  looked_leads room fits leads =
      looked_found leads.r.content.items (record { position = leads.position + PAIR_SIZE + length leads.r.key.items; size = length leads.r.content.items }) room octets key
      (found_first leads)
      (stands_all (λ (r : Record). length r.content.items ≤ room) HEADER_SIZE records leads.position leads.r leads.stands
      (recursion_from_All (λ (r : Record). length r.content.items ≤ room) records fits))
      (content_of_record octets leads.position leads.r (database_record octets records is leads.position leads.r leads.stands) is.short)
      ∙ ap (λ (o : Option (List ℕ)). Ok o) (sym leads.said)

  pub looked_in : (room : ℕ) → All (λ (r : Record). length r.content.items ≤ room) records → looked_up room octets key ≡ Ok (answer records key)
  looked_in room fits = elim (leads_or_absent key HEADER_SIZE records) [
    | inl leads ↦ looked_leads room fits leads
    | inr absent ↦ looked_none room octets key (found_none absent) ∙ ap (λ (o : Option (List ℕ)). Ok o) (sym absent.said)
  ]
