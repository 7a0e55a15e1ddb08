-- A file whose slots are all sound is sound for each key.
use Rattle.std.proofs.Common.{◌≡◌, ◌≢◌, ◌⊎◌, inl, inr, ℕ, zero, suc, ◌+◌, ◌*◌, ◌/◌, ◌%◌, ◌<◌, ◌==◌, List, [], ◌∷◌, length, Option, None, Result, Ok, Err, Bool, true, false, not, IfOk, IsTrue, if◌then◌else◌, nat_eq, refl, sym, ap, subst, ◌∙◌, arith}
use Rattle.std.proofs.lemmas.Bool.{and_parts, eqb-true, eqb-false}
use Rattle.std.proofs.lemmas.Nat.{mod_below}
use Rattle.std.specs.Cmp.Lexicographic.{pointwise}
use Rattle.cdb.specs.declared.format.TheConstants.{PAIR_SIZE, TABLES}
use Rattle.cdb.specs.declared.fault.Fault.{Fault}
use Rattle.cdb.specs.declared.tables.Found.{Found}
use Rattle.cdb.specs.declared.tables.SlotOutcome.{SlotOutcome}
use Rattle.cdb.specs.declared.tables.SlotOutcome.TheVariants as outcome
use Rattle.cdb.specs.Check.{IsSound, IsSoundRecord, IsSoundSlot, IsSoundTable}
use Rattle.cdb.specs.Hash.{hash_of}
use Rattle.cdb.specs.Reading.{◌>>=◌}
use Rattle.cdb.specs.Find.{concluded, find_in, following, in_record, in_slot, part_at, probed, stands_at}

-- lists that agree at each position are one
pub same_list : (a b : List ℕ) → pointwise nat_eq a b ≡ true → a ≡ b
same_list [] [] e = refl
same_list [] (y ∷ b) e = absurd (cc (e))
same_list (x ∷ a) [] e = absurd (cc (e))
same_list (x ∷ a) (y ∷ b) e =
    let parts = and_parts (nat_eq x y) (pointwise nat_eq a b) e in
    let first : x ≡ y = eqb-true x y parts.0 in
    let rest : a ≡ b = same_list a b parts.1 in
    cc

module _ (has : List ℕ → Type 0) (bytes key : List ℕ) where
  -- a step meets no damage, and finds a key that the file may have
  abbrev IsSoundOutcome : Result SlotOutcome Fault → Type 0
  IsSoundOutcome (Ok (outcome.Found found)) = has key
  IsSoundOutcome (Ok outcome.Empty) = Unit {0}
  IsSoundOutcome (Ok outcome.Other) = Unit {0}
  IsSoundOutcome (Err fault) = ⊥

  sound_same : (other : List ℕ) (found : Found) (same : Bool) → pointwise nat_eq other key ≡ same → has other
      → IsSoundOutcome (if not same then Ok outcome.Other else Ok (outcome.Found found))
  sound_same other found true e h = subst has (same_list other key e) h
  sound_same other found false e h = tt

  sound_record : (at : ℕ) → IsSoundRecord has bytes at → IsSoundOutcome (in_record key at bytes)
  unfolding in_record stands_at
  sound_record at (sizes, is, (other, part, h)) = rw is (by (sizes.0 == length key) refl)
    where
      position : ℕ
      position = at + PAIR_SIZE

      by : (fits : Bool) → (sizes.0 == length key) ≡ fits
          → IsSoundOutcome (if not fits then Ok outcome.Other
          else ((part_at (at + PAIR_SIZE) (length key) bytes >>= λ p. Ok (pointwise nat_eq p key)) >>= λ same.
          if not same then Ok outcome.Other else Ok (outcome.Found (record { position = at + PAIR_SIZE + sizes.0; size = sizes.1 }))))
      by false e = tt
      by true e =
          let sized : sizes.0 ≡ length key = eqb-true sizes.0 (length key) e in
          let own : part_at (at + PAIR_SIZE) (length key) bytes ≡ Ok other = ap (λ n. part_at (at + PAIR_SIZE) n bytes) (sym sized) ∙ part in
          rw own (sound_same other (record { position = at + PAIR_SIZE + sizes.0; size = sizes.1 }) (pointwise nat_eq other key) refl h)

  sound_slot : (hash position : ℕ) → IsSoundSlot has bytes position → IsSoundOutcome (in_slot key hash position bytes)
  unfolding in_slot
  sound_slot hash position (slot, is, sound) = rw is (by (slot.1 == 0) refl sound)
    where
      filled : (same : Bool) → slot.1 ≢ 0 → ((slot.1 ≡ 0) ⊎ IsSoundRecord has bytes slot.1) → IsSoundOutcome (if not same then Ok outcome.Other else in_record key slot.1 bytes)
      filled false full sound = tt
      filled true full (inl empty) = absurd (full empty)
      filled true full (inr record_is) = sound_record slot.1 record_is

      by : (empty : Bool) → (slot.1 == 0) ≡ empty → ((slot.1 ≡ 0) ⊎ IsSoundRecord has bytes slot.1)
          → IsSoundOutcome (if empty then Ok outcome.Empty else (if not (slot.0 == hash) then Ok outcome.Other else in_record key slot.1 bytes))
      by true e sound = tt
      by false e sound = filled (slot.0 == hash) (eqb-false slot.1 0 e) sound

  sound_concluded : (done : Result SlotOutcome Fault) (rest : Result (Option Found) Fault) → IsSoundOutcome done → IsSound has key rest → IsSound has key (done >>= concluded rest)
  sound_concluded (Ok (outcome.Found found)) rest x y = x
  sound_concluded (Ok outcome.Empty) rest x y = tt
  sound_concluded (Ok outcome.Other) rest x y = y
  sound_concluded (Err fault) rest x y = x

  following_within : (slot slots : ℕ) → slot < slots → following slot slots < slots
  following_within slot slots lt = by (slot + 1 == slots) refl
    where
      by : (last : Bool) → (slot + 1 == slots) ≡ last → (if last then 0 else slot + 1) < slots
      by true e = omega (arith, lt)
      by false e = let ne = eqb-false (slot + 1) slots e in omega (arith, lt, ne)

  sound_probed : (hash start slots : ℕ) → ((slot : ℕ) → slot < slots → IsSoundSlot has bytes (start + PAIR_SIZE * slot)) → (slot left : ℕ) → slot < slots
      → IsSound has key (probed key hash start slots bytes slot left)
  unfolding probed
  sound_probed hash start slots sound slot zero lt = tt
  sound_probed hash start slots sound slot (suc left) lt =
      sound_concluded (in_slot key hash (start + PAIR_SIZE * slot) bytes) (probed key hash start slots bytes (following slot slots) left) (sound_slot hash (start + PAIR_SIZE * slot) (sound slot lt))
      (sound_probed hash start slots sound (following slot slots) left (following_within slot slots lt))

  pub sound_file : ((number : ℕ) → number < TABLES → IsSoundTable has bytes number) → IsSound has key (find_in bytes key)
  unfolding find_in
  sound_file sound = of (sound (hash_of key % TABLES) (mod_below (hash_of key) TABLES (omega arith)))
    where
      of : IsSoundTable has bytes (hash_of key % TABLES) → IsSound has key (find_in bytes key)
      of (table, is, slots) = rw is (by (table.1 == 0) refl)
        where
          by : (none : Bool) → (table.1 == 0) ≡ none
              → IsSound has key (if none then Ok None else probed key (hash_of key) table.0 table.1 bytes (hash_of key / TABLES % table.1) table.1)
          by true e = tt
          by false e =
              let ne = eqb-false table.1 0 e in
              sound_probed (hash_of key) table.0 table.1 slots (hash_of key / TABLES % table.1) table.1 (mod_below (hash_of key / TABLES) table.1 (omega (arith, ne)))
