-- A binary search of records in the order of their keys.
use Rattle.std.proofs.Common.{◌≡◌, ◌⊎◌, inl, inr, ℕ, zero, suc, ◌+◌, ◌<◌, ◌≤◌, List, [], ◌∷◌, length, get_or, true, false, Less, Equal, Greater, Ordering, is_gt, nat_cmp, refl, sym, ap, subst, ◌∙◌, arith}
use Rattle.std.specs.Cmp.Lexicographic.{slice_cmp}
use Rattle.std.specs.Ordering.{ordering_reverse, ordering_then, MatchOrdering}
use Rattle.std.proofs.lemmas.Bool.{cases_lt, cases_eq}
use Rattle.std.proofs.lemmas.Cmp.{nat_list_cmp_total, ranked, tied_itself}
use Rattle.std.proofs.lemmas.List.{get_or_default}
use Rattle.cdb.specs.declared.records.Record.{Record}
use Rattle.cdb.specs.Records.{AreInOrder, Has, Lacks}

-- the record of a number is one of them
pub at_has : (records : List Record) (index : ℕ) (d : Record) (key : List ℕ) → index < length records → (get_or records index d).key.items ≡ key → Has records key
at_has [] index d key lt e = absurd (omega (arith, lt))
at_has (first ∷ records) zero d key lt e = inl e
at_has (first ∷ records) (suc index) d key lt e = inr (at_has records index d key (omega (arith, lt)) e)

-- one of them has a number
pub has_at : (records : List Record) (key : List ℕ) → Has records key → (index : ℕ) × (d : Record) × (index < length records) × ((get_or records index d).key.items ≡ key)
has_at [] key has = absurd has
has_at (first ∷ records) key (inl is) = (zero, first, omega arith, is)
has_at (first ∷ records) key (inr has) = let rest = has_at records key has in (suc rest.0, rest.1, omega (arith, rest.2), rest.3)

some_record : (records : List Record) (index : ℕ) → index < length records → Record
some_record [] index lt = absurd (omega (arith, lt))
some_record (first ∷ records) index lt = first

tied_numbers : (x y : ℕ) (o : Ordering) → o ≡ nat_cmp x y → o ≡ Equal → x ≡ y
tied_numbers x y Less e is = absurd (cc (is))
tied_numbers x y Equal e is = ranked x y Equal e
tied_numbers x y Greater e is = absurd (cc (is))

then_tied : (o rest : Ordering) → ordering_then o rest ≡ Equal → (o ≡ Equal) × (rest ≡ Equal)
then_tied Less rest e = absurd (cc (e))
then_tied Equal rest e = (refl, e)
then_tied Greater rest e = absurd (cc (e))

-- keys that neither comes before are one
pub tied_keys : (a b : List ℕ) → slice_cmp nat_cmp a b ≡ Equal → a ≡ b
tied_keys [] [] e = refl
tied_keys [] (y ∷ b) e = absurd (cc (e))
tied_keys (x ∷ a) [] e = absurd (cc (e))
tied_keys (x ∷ a) (y ∷ b) e =
    let parts = then_tied (nat_cmp x y) (slice_cmp nat_cmp a b) e in
    let first : x ≡ y = tied_numbers x y (nat_cmp x y) refl parts.0 in
    let rest : a ≡ b = tied_keys a b parts.1 in
    cc

before_itself : (a : List ℕ) → slice_cmp nat_cmp a a ≡ Less → ⊥
before_itself a e = let tied = tied_itself nat_list_cmp_total a in absurd (cc (tied, e))

after_itself : (a : List ℕ) → slice_cmp nat_cmp a a ≡ Greater → ⊥
after_itself a e = let tied = tied_itself nat_list_cmp_total a in absurd (cc (tied, e))

-- of two keys in order the later doesn't come first
not_after : (a b : List ℕ) → is_gt (slice_cmp nat_cmp a b) ≡ false → slice_cmp nat_cmp b a ≡ Less → ⊥
not_after a b upto less =
    let turned : slice_cmp nat_cmp a b ≡ Greater = nat_list_cmp_total.antisymm a b ∙ ap ordering_reverse less in
    let is : true ≡ false = sym (ap is_gt turned) ∙ upto in
    absurd (cc (is))

module _ (records : List Record) (key : List ℕ) where
  -- No record before this number has the key.
  abbrev pub NoneBelow : ℕ → Type 0
  NoneBelow low = AreInOrder records → (k : ℕ) (d : Record) → k < low → k < length records → (get_or records k d).key.items ≡ key → ⊥

  -- No record from this number on has the key.
  abbrev pub NoneFrom : ℕ → Type 0
  NoneFrom high = AreInOrder records → (k : ℕ) (d : Record) → high ≤ k → k < length records → (get_or records k d).key.items ≡ key → ⊥

  pub none_below : (middle : ℕ) → middle < length records → ((d : Record) → Less ≡ slice_cmp nat_cmp (get_or records middle d).key.items key) → NoneBelow (middle + 1)
  none_below middle within less order k d lt inside is = elim (cases_eq k middle) [
    | inl same ↦ before_itself key (subst (λ (a : List ℕ). slice_cmp nat_cmp a key ≡ Less) (subst (λ (n : ℕ). (get_or records n d).key.items ≡ key) same is) (sym (less d)))
    | inr other ↦
        let before : k < middle = omega (arith, lt, other) in
        not_after (get_or records k d).key.items (get_or records middle d).key.items (order k middle d before within)
        (subst (λ (a : List ℕ). slice_cmp nat_cmp (get_or records middle d).key.items a ≡ Less) (sym is) (sym (less d)))
  ]

  pub none_from : (middle : ℕ) → middle < length records → ((d : Record) → Greater ≡ slice_cmp nat_cmp (get_or records middle d).key.items key) → NoneFrom middle
  none_from middle within greater order k d le inside is = elim (cases_eq k middle) [
    | inl same ↦ after_itself key (subst (λ (a : List ℕ). slice_cmp nat_cmp a key ≡ Greater) (subst (λ (n : ℕ). (get_or records n d).key.items ≡ key) same is) (sym (greater d)))
    | inr other ↦
        let before : middle < k = omega (arith, le, other) in
        let turned : slice_cmp nat_cmp (get_or records middle d).key.items (get_or records k d).key.items ≡ Greater
        = subst (λ (a : List ℕ). slice_cmp nat_cmp (get_or records middle d).key.items a ≡ Greater) (sym is) (sym (greater d)) in
        let wrong : true ≡ false = sym (ap is_gt turned) ∙ order middle k d before inside in
        absurd (cc (wrong))
  ]

  pub none_left : (low high : ℕ) → high ≤ low → NoneBelow low → NoneFrom high → Lacks records key
  none_left low high met below from order has =
      let one = has_at records key has in
      elim (cases_lt one.0 low) [ inl lt ↦ below order one.0 one.1 lt one.2 one.3 | inr le ↦ from order one.0 one.1 (omega (arith, met, le)) one.2 one.3 ]

  pub tied_has : (middle : ℕ) → middle < length records → ((d : Record) → Equal ≡ slice_cmp nat_cmp (get_or records middle d).key.items key) → Has records key
  tied_has middle within tied =
      let d = some_record records middle within in
      at_has records middle d key within (tied_keys (get_or records middle d).key.items key (sym (tied d)))
