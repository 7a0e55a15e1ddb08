-- A file that has these records and no others answers as they do.
use Rattle.std.proofs.Common.{◌≡◌, ◌⊎◌, inl, inr, ℕ, zero, suc, ◌<◌, List, [], ◌∷◌, length, get_or, Option, None, Some, Result, Ok, Err, Bool, true, false, nat_eq, All, if◌then◌else◌, refl, sym, ap, subst, ◌∙◌, arith, eq-eqb}
use Rattle.std.proofs.lemmas.List.Elements.{recursion_from_All}
use Rattle.std.specs.List.{AllByRecursion}
use Rattle.std.specs.Cmp.Lexicographic.{pointwise}
use Rattle.cdb.specs.declared.fault.Fault.{Fault}
use Rattle.cdb.specs.declared.tables.Found.{Found}
use Rattle.cdb.specs.declared.records.Record.{Record}
use Rattle.cdb.specs.Check.{IsSound}
use Rattle.cdb.specs.Find.{find_in, looked_up}
use Rattle.cdb.specs.Records.{Has, Holds, answer}
use Rattle.cdb.proofs.Sound.{same_list}
use Rattle.cdb.proofs.Probing.{looked_none}

-- a list agrees with itself
same_as_itself : (a : List ℕ) → pointwise nat_eq a a ≡ true
same_as_itself [] = refl
same_as_itself (x ∷ a) = rw (eq-eqb x x refl) (same_as_itself a)

pub itself : (a b : List ℕ) → a ≡ b → pointwise nat_eq a b ≡ false → ⊥
itself a b is other = let same = subst (λ c. pointwise nat_eq a c ≡ true) is (same_as_itself a) in absurd (cc (same, other))

module _ (room : ℕ) (bytes key : List ℕ) where
  -- where no data are found, no record has the key
  absent : (records : List Record) → AllByRecursion (Holds room bytes) records → looked_up room bytes key ≡ Ok None → answer records key ≡ None
  absent [] all none = refl
  absent (r ∷ records) (own, all) none = by (pointwise nat_eq r.key.items key) refl (absent records all none)
    where
      by : (same : Bool) → pointwise nat_eq r.key.items key ≡ same → answer records key ≡ None → (if same then Some r.content.items else answer records key) ≡ None
      by true e rest = let found = ap (looked_up room bytes) (sym (same_list r.key.items key e)) ∙ own in absurd (cc (found, none))
      by false e rest = rest

  -- where a record has the key, its data are found
  present : (records : List Record) → AllByRecursion (Holds room bytes) records → Has records key → looked_up room bytes key ≡ Ok (answer records key)
  present [] all has = absurd has
  present (r ∷ records) (own, all) has = by (pointwise nat_eq r.key.items key) refl has (present records all)
    where
      by : (same : Bool) → pointwise nat_eq r.key.items key ≡ same → ((r.key.items ≡ key) ⊎ Has records key) → (Has records key → looked_up room bytes key ≡ Ok (answer records key))
          → looked_up room bytes key ≡ Ok (if same then Some r.content.items else answer records key)
      by true e has rest = ap (looked_up room bytes) (sym (same_list r.key.items key e)) ∙ own
      by false e (inl is) rest = absurd (itself r.key.items key is e)
      by false e (inr other) rest = rest other

  answers : (records : List Record) → AllByRecursion (Holds room bytes) records → (found : Result (Option Found) Fault) → find_in bytes key ≡ found → IsSound (Has records) key found
      → looked_up room bytes key ≡ Ok (answer records key)
  answers records all (Ok None) is sound = let none = looked_none room bytes key is in none ∙ ap (λ (o : Option (List ℕ)). Ok o) (sym (absent records all none))
  answers records all (Ok (Some found)) is sound = present records all sound
  answers records all (Err fault) is sound = absurd sound

  pub answers_as : (records : List Record) → All (Holds room bytes) records → IsSound (Has records) key (find_in bytes key) → looked_up room bytes key ≡ Ok (answer records key)
  answers_as records all sound = answers records (recursion_from_All (Holds room bytes) records all) (find_in bytes key) refl sound
