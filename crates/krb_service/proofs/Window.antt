-- What a service holds of the pairs that it has admitted.
use Rattle.std.proofs.Common.{◌≡◌, ℕ, ◌-◌, ◌≤◌, ◌<◌, ◌&&◌, ◌||◌, Bool, true, false, cond, List, [], ◌∷◌, length, nat_le, refl, sym, ap, subst, ◌∙◌, arith}
use Rattle.std.specs.Cmp.{ranks}
use Rattle.std.specs.List.{All, IsDistinct, filter, list_any}
use Rattle.std.specs.List.Sorted.{IsStrictlySortedBy}
use Rattle.std.specs.Ordering.{MatchOrdering, ordering_then, is_eq, is_gt, nat_cmp, eq_by_cmp}
use Rattle.std.specs.Set.{distinct_count}
use Rattle.std.specs.declared.cmp.Ordering.{Ordering}
use Rattle.std.specs.declared.cmp.Ordering.TheVariants.{Less, Equal, Greater}
use Rattle.std.proofs.lemmas.Bool.{and_parts, and_right, eqb-true}
use Rattle.std.proofs.lemmas.Bool.Decides.{nat_tests}
use Rattle.std.proofs.lemmas.List.Elements.{All-head, All-tail, All-weaker, filter_passes}
use Rattle.std.proofs.lemmas.Map.Keys.{IsDistinct-from_sorted}
use Rattle.std.proofs.lemmas.Map.Made.{length-from_keys}
use Rattle.std.proofs.lemmas.Map.Views.{any-filter_same}
use Rattle.krb_service.specs.Pair.{PairRecord, is_same_pair, is_among, is_recent, pair_cmp, pair_equiv, pair_ties}
use Rattle.krb_time.specs.Skew.{is_far}
use Rattle.krb_service.specs.Seen.{IsWindow}

-- the same pair has the same time
same_time : (p q : PairRecord) → is_same_pair p q ≡ true → p.time ≡ q.time
same_time p q same = eqb-true p.time q.time ((and_parts _ _ same).0)

-- a pair is found among the recent ones if it is recent, and is found among all
among_recent : (skew greatest : ℕ) (pairs : List PairRecord) (pair : PairRecord)
    → is_among pair (filter (is_recent skew greatest) pairs) ≡ (is_recent skew greatest pair && is_among pair pairs)
among_recent skew greatest pairs pair =
    any-filter_same (λ p. is_same_pair p pair) (is_recent skew greatest) (is_recent skew greatest pair)
    (λ p same. ap (λ time. nat_le (greatest - skew) time) (same_time p pair same)) pairs

-- what is recent later was recent before
recent_before : (skew old new : ℕ) (pair : PairRecord) → old ≤ new → is_recent skew new pair ≡ true → is_recent skew old pair ≡ true
recent_before skew old new pair rise recent =
    grind (arith, nat_tests)

-- what is not far is recent
pub near_is_recent : (skew greatest : ℕ) (pair : PairRecord) → is_far skew greatest pair.time ≡ false → is_recent skew greatest pair ≡ true
near_is_recent skew greatest pair near =
    grind (arith, nat_tests)

-- what is not before the oldest time is recent
pub late_is_recent : (skew greatest oldest : ℕ) (pair : PairRecord) → oldest ≡ greatest - skew → oldest ≤ pair.time → is_recent skew greatest pair ≡ true
late_is_recent skew greatest oldest pair same late =
    grind (arith, nat_tests)

pub early_is_not_recent : (skew greatest oldest : ℕ) (pair : PairRecord) → oldest ≡ greatest - skew → pair.time < oldest → is_recent skew greatest pair ≡ false
early_is_not_recent skew greatest oldest pair same early =
    grind (arith, nat_tests)

swap : (a b : Bool) → (a && b) ≡ (b && a)
swap true true = refl
swap true false = refl
swap false true = refl
swap false false = refl

-- a narrower test of what passes a wider one
narrowed : (wide narrow found known : Bool) → (narrow ≡ true → wide ≡ true) → found ≡ (known && wide) → (narrow && found) ≡ (known && narrow)
narrowed wide false found known within agree = sym (and_right known false refl)
narrowed wide true found known within agree = rw (within refl) at agree

passed : (known test : Bool) → test ≡ true → (known && test) ≡ known
passed true test t = t
passed false test t = refl

-- a filter keeps all of what passes
filter_all : {X : Type 0} (p : X → Bool) (xs : List X) → All (λ x. p x ≡ true) xs → filter p xs ≡ xs
filter_all p [] all = refl
filter_all p (x ∷ xs) all = rw (All-head (λ y. p y ≡ true) x xs all) (ap (λ l. x ∷ l) (filter_all p xs (All-tail (λ y. p y ≡ true) x xs all)))

-- what isn't below a pair isn't earlier
timed : (o rest : Ordering) (a b : ℕ) → MatchOrdering o (a < b) (a ≡ b) (b < a) → is_gt (ordering_then o rest) ≡ false → a ≤ b
timed Less rest a b h g = omega (arith, h)
timed Equal rest a b h g = omega (arith, h)
timed Greater rest a b h g = absurd (cc (g))

later : (p q : PairRecord) → is_gt (pair_cmp p q) ≡ false → p.time ≤ q.time
later p q above = timed (nat_cmp p.time q.time) _ p.time q.time (ranks p.time q.time) above

late_test : (oldest : ℕ) (p q : PairRecord) → oldest ≤ p.time → p.time ≤ q.time → nat_le oldest q.time ≡ true
late_test oldest p q l m =
    grind (arith, nat_tests)

-- where the first pair isn't early, none is
pub none_early : (oldest : ℕ) (first : PairRecord) (pairs : List PairRecord) → oldest ≤ first.time → All (λ q. is_gt (pair_cmp first q) ≡ false) pairs
    → filter (λ (pair : PairRecord). nat_le oldest pair.time) pairs ≡ pairs
none_early oldest first pairs late above =
    filter_all (λ (pair : PairRecord). nat_le oldest pair.time) pairs
    (All-weaker (λ q. is_gt (pair_cmp first q) ≡ false) (λ (q : PairRecord). nat_le oldest q.time ≡ true) (λ q a. late_test oldest first q late (later first q a)) pairs above)

-- the pairs from the oldest time on are the recent ones
pub kept_recent : (skew greatest oldest : ℕ) (pairs kept : List PairRecord) → oldest ≡ greatest - skew
    → kept ≡ filter (λ (pair : PairRecord). nat_le oldest pair.time) pairs → kept ≡ filter (is_recent skew greatest) pairs
kept_recent skew greatest oldest pairs kept same left = left ∙ ap (λ o. filter (λ (pair : PairRecord). nat_le o pair.time) pairs) same

pub all_recent : (skew greatest : ℕ) (pairs kept : List PairRecord) → kept ≡ filter (is_recent skew greatest) pairs → All (λ p. is_recent skew greatest p ≡ true) kept
all_recent skew greatest pairs kept left = subst (λ l. All (λ p. is_recent skew greatest p ≡ true) l) (sym left) (filter_passes (is_recent skew greatest) pairs)

-- a window is one at a later moment too, once the pairs that lie too far back are dropped
pub window_raised : (skew old new : ℕ) (held kept admitted : List PairRecord) → old ≤ new → kept ≡ filter (is_recent skew new) held
    → IsWindow (record { greatest = old; skew = skew; held = held }) admitted → IsWindow (record { greatest = new; skew = skew; held = kept }) admitted
window_raised skew old new held kept admitted rise left window pair =
    ap (is_among pair) left ∙ among_recent skew new held pair
    ∙ narrowed (is_recent skew old pair) (is_recent skew new pair) (is_among pair held) (is_among pair admitted) (recent_before skew old new pair rise) (window pair)

-- a pair that the set finds equal is the same one
pub found_same : (pair : PairRecord) (pairs : List PairRecord) → list_any (λ k. is_eq (pair_cmp pair k)) pairs ≡ is_among pair pairs
found_same pair pairs = λ i. list_any (λ k. (sym (pair_ties pair k) ∙ pair_equiv.symm pair k) i) pairs

-- a recent pair is held just if it was admitted
pub among_held : (skew greatest : ℕ) (held admitted : List PairRecord) (pair : PairRecord)
    → IsWindow (record { greatest = greatest; skew = skew; held = held }) admitted → is_recent skew greatest pair ≡ true → is_among pair held ≡ is_among pair admitted
among_held skew greatest held admitted pair window recent = window pair ∙ passed (is_among pair admitted) (is_recent skew greatest pair) recent

-- what the set has after one more pair
more : (same found known recent : Bool) → (same ≡ true → recent ≡ true) → found ≡ (known && recent) → cond same true found ≡ ((same || known) && recent)
more true found known recent within agree = sym (within refl)
more false found known recent within agree = agree

pub window_recorded : (skew greatest : ℕ) (held after admitted : List PairRecord) (pair : PairRecord) → is_recent skew greatest pair ≡ true
    → ((q : PairRecord) → list_any (λ k. is_eq (pair_cmp q k)) after ≡ cond (is_eq (pair_cmp pair q)) true (list_any (λ k. is_eq (pair_cmp q k)) held))
    → IsWindow (record { greatest = greatest; skew = skew; held = held }) admitted → IsWindow (record { greatest = greatest; skew = skew; held = after }) (pair ∷ admitted)
window_recorded skew greatest held after admitted pair recent updates window q =
    sym (found_same q after) ∙ updates q ∙ ap (λ same. cond same true (list_any (λ k. is_eq (pair_cmp q k)) held)) (sym (pair_ties pair q))
    ∙ more (is_same_pair pair q) _ (is_among q admitted) (is_recent skew greatest q)
    (λ same. ap (λ time. nat_le (greatest - skew) time) (sym (same_time pair q same)) ∙ recent) (found_same q held ∙ window q)

-- a pair that lies too far back needs no place
unmoved : (same found known recent : Bool) → (same ≡ true → recent ≡ false) → found ≡ (known && recent) → found ≡ ((same || known) && recent)
unmoved true found known recent within agree = rw (within refl) at agree ∙ and_right known false refl ∙ sym (within refl)
unmoved false found known recent within agree = agree

pub window_unmoved : (skew greatest : ℕ) (held admitted : List PairRecord) (pair : PairRecord) → is_recent skew greatest pair ≡ false
    → IsWindow (record { greatest = greatest; skew = skew; held = held }) admitted → IsWindow (record { greatest = greatest; skew = skew; held = held }) (pair ∷ admitted)
window_unmoved skew greatest held admitted pair early window q =
    unmoved (is_same_pair pair q) (is_among q held) (is_among q admitted) (is_recent skew greatest q)
    (λ same. ap (λ time. nat_le (greatest - skew) time) (sym (same_time pair q same)) ∙ early) (window q)

-- recent pairs are the window of themselves
pub own_window : (skew greatest : ℕ) (held : List PairRecord) → All (λ p. is_recent skew greatest p ≡ true) held
    → IsWindow (record { greatest = greatest; skew = skew; held = held }) held
own_window skew greatest held recent pair =
    ap (is_among pair) (sym (filter_all (is_recent skew greatest) held recent)) ∙ among_recent skew greatest held pair
    ∙ swap (is_recent skew greatest pair) (is_among pair held)

-- how many pairs are held: each of the window once
same_test : is_same_pair ≡ eq_by_cmp pair_cmp
same_test = λ i p q. pair_ties p q i

turned : (pair : PairRecord) (pairs : List PairRecord) → list_any (is_same_pair pair) pairs ≡ is_among pair pairs
turned pair pairs = λ i. list_any (λ k. pair_equiv.symm pair k i) pairs

pub count_held : (skew greatest : ℕ) (held admitted : List PairRecord) → IsStrictlySortedBy pair_cmp held
    → IsWindow (record { greatest = greatest; skew = skew; held = held }) admitted → length held ≡ distinct_count is_same_pair (filter (is_recent skew greatest) admitted)
count_held skew greatest held admitted ordered window =
    length-from_keys pair_equiv held (filter (is_recent skew greatest) admitted)
    (subst (λ test. IsDistinct test held) (sym same_test) (IsDistinct-from_sorted pair_cmp held ordered))
    (λ q.
    turned q held ∙ window q ∙ swap (is_among q admitted) (is_recent skew greatest q) ∙ sym (among_recent skew greatest admitted q)
    ∙ sym (turned q (filter (is_recent skew greatest) admitted)))
