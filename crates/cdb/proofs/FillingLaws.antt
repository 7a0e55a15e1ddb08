-- A hash table that is filled slot by slot.
use Rattle.std.proofs.Common.{◌≡◌, ◌≢◌, ◌⊎◌, inl, inr, ℕ, zero, suc, ◌+◌, ◌-◌, ◌*◌, ◌/◌, ◌%◌, ◌^◌, ◌<◌, ◌≤◌, ◌==◌, List, [], ◌∷◌, ◌++◌, length, get_or, set, take, drop, replicate, Bool, true, false, if◌then◌else◌, nat_lt, All, refl, sym, ap, subst, ◌∙◌, arith, length-set, eq-eqb, ne_eqb, add-mul, one-mul}
use Rattle.std.proofs.lemmas.Bool.{cases_eq, cases_lt, eqb-false, eqb-true, ltb-false, ltb-true, lt-ltb, le-ltb}
use Rattle.std.proofs.lemmas.List.{drop_more, get_or-set_other, get_or-set_same, take_more}
use Rattle.std.proofs.lemmas.List.Elements.{All-get_or, All-replicate, All-set, All-weaker}
use Rattle.std.proofs.lemmas.Nat.{div-add-mod', mod_below, mod-mul-add}
use Rattle.cdb.specs.declared.format.TheConstants.{PAIR_SIZE, TABLES}
use Rattle.cdb.specs.declared.slots.Slot.{Slot}
use Rattle.cdb.specs.Database.{IsEarlier, IsMet, slot_after}
use Rattle.cdb.specs.Filling.{Among, AreRising, empty, full_count, IsFilled, IsFree, IsOwn, IsPut, lower_count, own_count}

-- slots one after another
among_left : (slots : List Slot) (last slot : Slot) → Among slots slot → Among (slots ++ last ∷ []) slot
among_left [] last slot among = absurd among
among_left (first ∷ slots) last slot (inl is) = inl is
among_left (first ∷ slots) last slot (inr among) = inr (among_left slots last slot among)

among_last : (slots : List Slot) (last : Slot) → Among (slots ++ last ∷ []) last
among_last [] last = inl refl
among_last (first ∷ slots) last = inr (among_last slots last)

among_cases : (slots : List Slot) (last slot : Slot) → Among (slots ++ last ∷ []) slot → Among slots slot ⊎ (slot ≡ last)
among_cases [] last slot (inl is) = inr is
among_cases [] last slot (inr among) = absurd among
among_cases (first ∷ slots) last slot (inl is) = inl (inl is)
among_cases (first ∷ slots) last slot (inr among) = elim (among_cases slots last slot among) [ inl before ↦ inl (inr before) | inr is ↦ inr is ]

-- positions that rise
pub rising_above : (low : ℕ) (slots : List Slot) (index : ℕ) (d : Slot) → AreRising low slots → index < length slots → low < (get_or slots index d).at
rising_above low [] index d rising lt = absurd (omega (arith, lt))
rising_above low (first ∷ slots) zero d rising lt = rising.0
rising_above low (first ∷ slots) (suc index) d rising lt =
    let rest = rising_above first.at slots index d rising.1 (omega (arith, lt)) in
    let own = rising.0 in
    omega (arith, rest, own)

pub rising_after : (low : ℕ) (slots : List Slot) (index : ℕ) (d slot : Slot) → AreRising low slots → index < length slots → Among (take index slots) slot → slot.at < (get_or slots index d).at
rising_after low [] index d slot rising lt among = absurd (omega (arith, lt))
rising_after low (first ∷ slots) zero d slot rising lt among = absurd among
rising_after low (first ∷ slots) (suc index) d slot rising lt (inl is) =
    let above = rising_above first.at slots index d rising.1 (omega (arith, lt)) in
    subst (λ (s : Slot). s.at < (get_or slots index d).at) (sym is) above
rising_after low (first ∷ slots) (suc index) d slot rising lt (inr among) = rising_after first.at slots index d slot rising.1 (omega (arith, lt)) among

pub rising_some : (low : ℕ) (slots : List Slot) (count : ℕ) (slot : Slot) → AreRising low slots → Among (take count slots) slot → low < slot.at
rising_some low [] zero slot rising among = absurd among
rising_some low [] (suc count) slot rising among = absurd among
rising_some low (first ∷ slots) zero slot rising among = absurd among
rising_some low (first ∷ slots) (suc count) slot rising (inl is) = subst (λ (s : Slot). low < s.at) (sym is) rising.0
rising_some low (first ∷ slots) (suc count) slot rising (inr among) =
    let rest = rising_some first.at slots count slot rising.1 among in
    let own = rising.0 in
    omega (arith, rest, own)

-- counts
pub own_yes : (number : ℕ) (slot : Slot) (slots : List Slot) → slot.hash % TABLES ≡ number → own_count number (slot ∷ slots) ≡ suc (own_count number slots)
own_yes number slot slots is = rw (eq-eqb (slot.hash % TABLES) number is) refl

pub own_no : (number : ℕ) (slot : Slot) (slots : List Slot) → slot.hash % TABLES ≢ number → own_count number (slot ∷ slots) ≡ own_count number slots
own_no number slot slots other = rw (ne_eqb (slot.hash % TABLES) number other) refl

lower_yes : (number : ℕ) (slot : Slot) (slots : List Slot) → slot.hash % TABLES < number → lower_count number (slot ∷ slots) ≡ suc (lower_count number slots)
lower_yes number slot slots lt = rw (lt-ltb (slot.hash % TABLES) number lt) refl

lower_no : (number : ℕ) (slot : Slot) (slots : List Slot) → number ≤ slot.hash % TABLES → lower_count number (slot ∷ slots) ≡ lower_count number slots
lower_no number slot slots le = rw (le-ltb (slot.hash % TABLES) number le) refl

pub lower_none : (slots : List Slot) → lower_count 0 slots ≡ 0
lower_none [] = refl
lower_none (slot ∷ slots) = lower_no 0 slot slots (omega arith) ∙ lower_none slots

pub lower_more : (number : ℕ) (slots : List Slot) → lower_count (number + 1) slots ≡ lower_count number slots + own_count number slots
lower_more number [] = refl
lower_more number (slot ∷ slots) = elim (cases_lt (slot.hash % TABLES) number) [
  | inl lt ↦
      let rest = lower_more number slots in
      let more = lower_yes (number + 1) slot slots (omega (arith, lt)) in
      let same = lower_yes number slot slots lt in
      let other = own_no number slot slots (λ e. absurd (omega (arith, lt, e))) in
      omega (arith, rest, more, same, other)
  | inr le ↦ elim (cases_eq (slot.hash % TABLES) number) [
    | inl is ↦
        let rest = lower_more number slots in
        let more = lower_yes (number + 1) slot slots (omega (arith, is)) in
        let same = lower_no number slot slots le in
        let own = own_yes number slot slots is in
        omega (arith, rest, more, same, own)
    | inr differs ↦
        let rest = lower_more number slots in
        let more = lower_no (number + 1) slot slots (omega (arith, le, differs)) in
        let same = lower_no number slot slots le in
        let other = own_no number slot slots differs in
        omega (arith, rest, more, same, other)
  ]
]

pub lower_within : (number : ℕ) (slots : List Slot) → lower_count number slots ≤ length slots
lower_within number [] = omega arith
lower_within number (slot ∷ slots) = elim (cases_lt (slot.hash % TABLES) number) [
  | inl lt ↦ let rest = lower_within number slots in let same = lower_yes number slot slots lt in omega (arith, rest, same)
  | inr le ↦ let rest = lower_within number slots in let same = lower_no number slot slots le in omega (arith, rest, same)
]

full_yes : (slot : Slot) (slots : List Slot) → slot.at ≢ 0 → full_count (slot ∷ slots) ≡ suc (full_count slots)
full_yes slot slots full = rw (ne_eqb slot.at 0 full) refl

full_no : (slot : Slot) (slots : List Slot) → slot.at ≡ 0 → full_count (slot ∷ slots) ≡ full_count slots
full_no slot slots is = rw (eq-eqb slot.at 0 is) refl

full_bounds : (slot : Slot) (slots : List Slot) → (full_count slots ≤ full_count (slot ∷ slots)) × (full_count (slot ∷ slots) ≤ suc (full_count slots))
full_bounds slot slots = elim (cases_eq slot.at 0) [
  | inl is ↦ let own = full_no slot slots is in (omega (arith, own), omega (arith, own))
  | inr full ↦ let own = full_yes slot slots full in (omega (arith, own), omega (arith, own))
]

pub full_set : (cells : List Slot) (index : ℕ) (slot : Slot) → full_count (set cells index slot) ≤ full_count cells + 1
full_set [] index slot = omega arith
full_set (first ∷ cells) zero slot = let own = full_bounds slot cells in let old = full_bounds first cells in let upper = own.1 in let lower = old.0 in omega (arith, upper, lower)
full_set (first ∷ cells) (suc index) slot = elim (cases_eq first.at 0) [
  | inl is ↦
      let rest = full_set cells index slot in
      let new = full_no first (set cells index slot) is in
      let old = full_no first cells is in
      omega (arith, rest, new, old)
  | inr full ↦
      let rest = full_set cells index slot in
      let new = full_yes first (set cells index slot) full in
      let old = full_yes first cells full in
      omega (arith, rest, new, old)
]

pub full_none : (count : ℕ) → full_count (replicate count empty) ≡ 0
full_none zero = refl
full_none (suc count) = full_none count

all_full : (cells : List Slot) → ((index : ℕ) → index < length cells → (get_or cells index empty).at ≢ 0) → full_count cells ≡ length cells
all_full [] each = refl
all_full (first ∷ cells) each =
    let rest = all_full cells (λ index lt. each (suc index) (omega (arith, lt))) in
    let own = full_yes first cells (each 0 (omega arith)) in
    omega (arith, rest, own)

-- each place is met after so many others
place_met : (begin count index : ℕ) → index < count → (k : ℕ) × (k < count) × ((begin + k) % count ≡ index)
place_met begin count index lt = elim (cases_lt index (begin % count)) [
  | inl before ↦
      let below = mod_below begin count (omega (arith, lt)) in
      let parts : begin / count * count + begin % count ≡ begin = div-add-mod' begin count in
      let more : (begin / count + 1) * count ≡ begin / count * count + count = add-mul (begin / count) 1 count ∙ ap (λ n. begin / count * count + n) (one-mul count) in
      let sum : begin + (index + count - begin % count) ≡ (begin / count + 1) * count + index = omega (arith, before, below, parts, more) in
      (index + count - begin % count, omega (arith, before, below, lt), ap (λ n. n % count) sum ∙ mod-mul-add (begin / count + 1) count index lt)
  | inr from ↦
      let parts : begin / count * count + begin % count ≡ begin = div-add-mod' begin count in
      let sum : begin + (index - begin % count) ≡ begin / count * count + index = omega (arith, from, parts) in
      (index - begin % count, omega (arith, from, lt), ap (λ n. n % count) sum ∙ mod-mul-add (begin / count) count index lt)
]

pub not_all_full : (cells : List Slot) (hash : ℕ) → full_count cells < length cells → ((k : ℕ) → k < length cells → (slot_after cells hash k).at ≢ 0) → ⊥
not_all_full cells hash room each =
    let all = all_full cells (λ index lt.
    let met = place_met (hash / TABLES) (length cells) index lt in
    subst (λ place. (get_or cells place empty).at ≢ 0) met.2 (each met.0 met.1)) in
    absurd (omega (arith, room, all))

-- one more slot
module _ (number : ℕ) (done : List Slot) (cells : List Slot) (one : Slot) (filled : IsFilled number done cells) where
  pub filled_skip : one.hash % TABLES ≢ number → IsFilled number (done ++ one ∷ []) cells
  filled_skip other = record { each = All-weaker (IsOwn number done) (IsOwn number (done ++ one ∷ [])) more cells filled.each; met = met }
    where
      more : (cell : Slot) → IsOwn number done cell → IsOwn number (done ++ one ∷ []) cell
      more cell (inl is) = inl is
      more cell (inr own) = inr (among_left done one cell own.0, own.1)

      met : (slot : Slot) → Among (done ++ one ∷ []) slot → slot.hash % TABLES ≡ number → IsMet cells slot.hash slot.at
      met slot among own = elim (among_cases done one slot among) [
        | inl before ↦ filled.met slot before own
        | inr is ↦ absurd (other (ap (λ (s : Slot). s.hash % TABLES) (sym is) ∙ own))
      ]

  module _ (index : ℕ) (free : IsFree cells one.hash index) (own : one.hash % TABLES ≡ number) (some : 0 < one.at)
      (positive : (slot : Slot) → Among done slot → 0 < slot.at) (below : (slot : Slot) → Among done slot → slot.at < one.at) where
    within : index < length cells
    within =
        let place = free.place in
        let others = free.within in
        let low = mod_below (one.hash / TABLES + free.others) (length cells) (omega (arith, others)) in
        omega (arith, place, low)

    is_free : (get_or cells index empty).at ≡ 0
    is_free = ap (λ place. (get_or cells place empty).at) free.place ∙ free.free

    placed_as : (hash k : ℕ) → slot_after (set cells index one) hash k ≡ get_or (set cells index one) ((hash / TABLES + k) % length cells) empty
    placed_as hash k = ap (λ count. get_or (set cells index one) ((hash / TABLES + k) % count) empty) (length-set cells index one)

    -- a full cell stays as it is
    kept : (hash k : ℕ) → (slot_after cells hash k).at ≢ 0 → slot_after (set cells index one) hash k ≡ slot_after cells hash k
    kept hash k full = placed_as hash k ∙ get_or-set_other cells index ((hash / TABLES + k) % length cells) one empty
        (λ same. full (ap (λ place. (get_or cells place empty).at) same ∙ is_free))

    new : slot_after (set cells index one) one.hash free.others ≡ one
    new = placed_as one.hash free.others ∙ ap (λ place. get_or (set cells index one) place empty) (sym free.place) ∙ get_or-set_same cells index one empty within

    still : (k : ℕ) (hash position : ℕ) → IsEarlier position (slot_after cells hash k) → IsEarlier position (slot_after (set cells index one) hash k)
    still k hash position earlier =
        let some_at = earlier.0 in
        subst (IsEarlier position) (sym (kept hash k (λ e. absurd (omega (arith, some_at, e))))) earlier

    met_before : (slot : Slot) → 0 < slot.at → IsMet cells slot.hash slot.at → IsMet (set cells index one) slot.hash slot.at
    met_before slot some_at met = record {
      others = met.others;
      within = let sized = length-set cells index one in let in_cells = met.within in omega (arith, sized, in_cells);
      meets = kept slot.hash met.others (λ e. let at_is = ap (λ (s : Slot). s.at) met.meets in absurd (omega (arith, some_at, at_is, e))) ∙ met.meets;
      before = λ k lt. still k slot.hash slot.at (met.before k lt);
    }

    earlier_one : (k : ℕ) → k < free.others → IsEarlier one.at (slot_after cells one.hash k)
    earlier_one k lt = by (All-get_or (IsOwn number done) cells ((one.hash / TABLES + k) % length cells) empty (mod_below (one.hash / TABLES + k) (length cells) (let others = free.within in omega (arith, others))) filled.each)
      where
        by : IsOwn number done (slot_after cells one.hash k) → IsEarlier one.at (slot_after cells one.hash k)
        by (inl none) = absurd (free.before k lt (ap (λ (s : Slot). s.at) none))
        by (inr among) = (positive (slot_after cells one.hash k) among.0, below (slot_after cells one.hash k) among.0)

    met_one : IsMet (set cells index one) one.hash one.at
    met_one = record {
      others = free.others;
      within = let sized = length-set cells index one in let in_cells = free.within in omega (arith, sized, in_cells);
      meets = new;
      before = λ k lt. still k one.hash one.at (earlier_one k lt);
    }

    pub filled_more : IsFilled number (done ++ one ∷ []) (set cells index one)
    filled_more = record { each = All-set (IsOwn number (done ++ one ∷ [])) cells index one (inr (among_last done one, own)) (All-weaker (IsOwn number done) (IsOwn number (done ++ one ∷ [])) more cells filled.each); met = met }
      where
        more : (cell : Slot) → IsOwn number done cell → IsOwn number (done ++ one ∷ []) cell
        more cell (inl is) = inl is
        more cell (inr old) = inr (among_left done one cell old.0, old.1)

        met : (slot : Slot) → Among (done ++ one ∷ []) slot → slot.hash % TABLES ≡ number → IsMet (set cells index one) slot.hash slot.at
        met slot among numbered = elim (among_cases done one slot among) [
          | inl before ↦ met_before slot (positive slot before) (filled.met slot before numbered)
          | inr is ↦ subst (λ (s : Slot). IsMet (set cells index one) s.hash s.at) (sym is) met_one
        ]

-- an empty table
pub filled_none : (number count : ℕ) → IsFilled number [] (replicate count empty)
filled_none number count = record { each = All-replicate (IsOwn number []) count empty (inl refl); met = λ slot among own. absurd among }

-- a table that has no slot yet has an empty cell for each
pub room_left : (number : ℕ) (slots : List Slot) (index : ℕ) (cells : List Slot) → index < length slots → length cells ≡ 2 * own_count number slots
    → full_count cells + own_count number (drop index slots) ≤ own_count number slots → (get_or slots index empty).hash % TABLES ≡ number → full_count cells < length cells
room_left number slots index cells lt size room own =
    let next = ap (own_count number) (drop_more slots index empty lt) in
    let one = own_yes number (get_or slots index empty) (drop (index + 1) slots) own in
    omega (arith, size, room, next, one)

-- a step of the loop that fills a table
pub filled_step : (number : ℕ) (slots : List Slot) (index : ℕ) (cells result : List Slot) → index < length slots → AreRising 0 slots → IsFilled number (take index slots) cells
    → length cells ≡ 2 * own_count number slots → full_count cells + own_count number (drop index slots) ≤ own_count number slots
    → ((get_or slots index empty).hash % TABLES ≡ number → IsPut (get_or slots index empty) cells result) → ((get_or slots index empty).hash % TABLES ≢ number → result ≡ cells)
    → IsFilled number (take (index + 1) slots) result × (length result ≡ 2 * own_count number slots) × (full_count result + own_count number (drop (index + 1) slots) ≤ own_count number slots)
filled_step number slots index cells result lt rising filled size room put skipped = by (cases_eq ((get_or slots index empty).hash % TABLES) number)
  where
    more : take (index + 1) slots ≡ take index slots ++ get_or slots index empty ∷ []
    more = take_more slots index empty lt

    next : own_count number (drop index slots) ≡ own_count number (get_or slots index empty ∷ drop (index + 1) slots)
    next = ap (own_count number) (drop_more slots index empty lt)

    by : ((get_or slots index empty).hash % TABLES ≡ number) ⊎ ((get_or slots index empty).hash % TABLES ≡ number → ⊥)
        → IsFilled number (take (index + 1) slots) result × (length result ≡ 2 * own_count number slots) × (full_count result + own_count number (drop (index + 1) slots) ≤ own_count number slots)
    by (inl own) =
        let done = put own in
        let full = filled_more number (take index slots) cells (get_or slots index empty) filled done.0 done.1 own (rising_above 0 slots index empty rising lt)
        (λ slot among. rising_some 0 slots index slot rising among) (λ slot among. rising_after 0 slots index empty slot rising lt among) in
        let counted = own_yes number (get_or slots index empty) (drop (index + 1) slots) own in
        let grown = full_set cells done.0 (get_or slots index empty) in
        let is : full_count result ≡ full_count (set cells done.0 (get_or slots index empty)) = ap full_count done.2 in (
          subst (λ (s : List Slot). IsFilled number s result) (sym more) (subst (IsFilled number (take index slots ++ get_or slots index empty ∷ [])) (sym done.2) full),
          ap length done.2 ∙ length-set cells done.0 (get_or slots index empty) ∙ size,
          omega (arith, room, next, counted, grown, is),
        )
    by (inr other) =
        let same = skipped other in
        let skip = filled_skip number (take index slots) cells (get_or slots index empty) filled other in
        let counted = own_no number (get_or slots index empty) (drop (index + 1) slots) other in
        let is : full_count result ≡ full_count cells = ap full_count same in (
          subst (λ (s : List Slot). IsFilled number s result) (sym more) (subst (IsFilled number (take index slots ++ get_or slots index empty ∷ [])) (sym same) skip),
          ap length same ∙ size,
          omega (arith, room, next, counted, is),
        )
