-- What the front of a record says, read at once.
use Rattle.std.proofs.Common.{◌≡◌, ◌≢◌, ℕ, ◌+◌, ◌-◌, ◌≤◌, List, length, length-take, take, drop, Ok, Bool, true, false, not, nat_eq, refl, sym, ap, ◌∙◌, arith}
use Rattle.std.proofs.lemmas.List.{drop-drop, drop-take, take-append-drop, take-take, take_rest}
use Rattle.std.specs.Cmp.Lexicographic.{pointwise}
use Rattle.byte_streams.specs.Numbers.{le32_at}
use Rattle.byte_streams.proofs.NumberLaws.{le32_at-append}
use Rattle.cdb.specs.declared.format.TheConstants.{PAIR_SIZE}
use Rattle.cdb.specs.declared.tables.SlotOutcome.TheVariants as outcome
use Rattle.cdb.specs.Reading.{IsFilled}
use Rattle.cdb.specs.Find.{in_record, pair_at, part_at, stands_at}
use Rattle.cdb.proofs.Positions.{part_is}
use Rattle.cdb.proofs.Probing.{record_found, record_of_other_key, record_of_other_size}

-- a number in the first octets of a front is the front's
number_of_front : (place : ℕ) (front : List ℕ) → place + 4 ≤ PAIR_SIZE → PAIR_SIZE ≤ length front → le32_at place (take PAIR_SIZE front) ≡ le32_at place front
number_of_front place front within long =
    let inside : place + 4 ≤ length (take PAIR_SIZE front) = omega (arith, within, long, length-take PAIR_SIZE front) in
    sym (le32_at-append place (take PAIR_SIZE front) (drop PAIR_SIZE front) inside) ∙ ap (le32_at place) (take-append-drop PAIR_SIZE front)

-- a comparison and its denial
denied : (a b : Bool) → a ≡ not b → b ≡ not a
denied a true e = rw e refl
denied a false e = rw e refl

-- the octets that follow the two lengths are compared with a key
pub rest_compared : (front key : List ℕ) (differs : Bool) → differs ≡ not (pointwise nat_eq (take (length front - PAIR_SIZE) (drop PAIR_SIZE front)) key)
    → pointwise nat_eq (drop PAIR_SIZE front) key ≡ not differs
rest_compared front key differs e = ap (λ part. pointwise nat_eq part key) (sym (take_rest front PAIR_SIZE)) ∙ denied differs _ e

module _ (at : ℕ) (key bytes front : List ℕ) (sized : length front ≡ PAIR_SIZE + length key) (filled : IsFilled at bytes front) where
  -- the two lengths
  pair_of_front : pair_at at bytes ≡ Ok (le32_at 0 front, le32_at 4 front)
  unfolding pair_at
  pair_of_front =
      let part : part_at at PAIR_SIZE bytes ≡ Ok (take PAIR_SIZE front) =
      part_is at PAIR_SIZE bytes (take PAIR_SIZE front) (omega (arith, sized, filled.0))
      (ap (take PAIR_SIZE) filled.1 ∙ take-take PAIR_SIZE (length front) (drop at bytes) (omega (arith, sized))) in
      let long : PAIR_SIZE ≤ length front = omega (arith, sized) in
      rw (part, number_of_front 0 front (omega arith) long, number_of_front 4 front (omega arith) long) refl

  -- the octets that follow them
  key_of_front : stands_at (at + PAIR_SIZE) key bytes ≡ Ok (pointwise nat_eq (drop PAIR_SIZE front) key)
  unfolding stands_at
  key_of_front =
      let cut : drop PAIR_SIZE front ≡ take (length key) (drop (at + PAIR_SIZE) bytes) =
      ap (drop PAIR_SIZE) filled.1 ∙ ap (λ n. drop PAIR_SIZE (take n (drop at bytes))) sized
      ∙ drop-take PAIR_SIZE (length key) (drop at bytes) ∙ ap (take (length key)) (drop-drop PAIR_SIZE at bytes) in
      let part : part_at (at + PAIR_SIZE) (length key) bytes ≡ Ok (drop PAIR_SIZE front) =
      part_is (at + PAIR_SIZE) (length key) bytes (drop PAIR_SIZE front) (omega (arith, sized, filled.0)) cut in
      rw part refl

  pub front_of_other_size : le32_at 0 front ≢ length key → in_record key at bytes ≡ Ok outcome.Other
  front_of_other_size ne = record_of_other_size key at (le32_at 0 front) (le32_at 4 front) bytes pair_of_front ne

  pub front_of_other_key : le32_at 0 front ≡ length key → pointwise nat_eq (drop PAIR_SIZE front) key ≡ false → in_record key at bytes ≡ Ok outcome.Other
  front_of_other_key eq other = record_of_other_key key at (le32_at 0 front) (le32_at 4 front) bytes pair_of_front eq (key_of_front ∙ ap (λ same. Ok same) other)

  pub front_found : le32_at 0 front ≡ length key → pointwise nat_eq (drop PAIR_SIZE front) key ≡ true
      → in_record key at bytes ≡ Ok (outcome.Found (record { position = at + PAIR_SIZE + le32_at 0 front; size = le32_at 4 front }))
  front_found eq same = record_found key at (le32_at 0 front) (le32_at 4 front) bytes pair_of_front eq (key_of_front ∙ ap (λ same. Ok same) same)
