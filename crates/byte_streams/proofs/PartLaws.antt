-- What is put stands, and what is put elsewhere leaves it standing.
use Rattle.std.proofs.Common.{◌≡◌, ℕ, ◌+◌, ◌-◌, ◌<◌, ◌≤◌, List, [], ◌∷◌, ◌++◌, length, get_or, take, drop, refl, ap, sym, ◌∙◌, inl, inr, arith}
use Rattle.std.proofs.lemmas.List.{places, same_lists, length-take-le, take_at, drop_at, get_or-take, get_or-drop, get_or_append_left, get_or-append_right, drop_more, drop-append-le, take-append-le, length-drop, length-take}
use Rattle.std.proofs.lemmas.Bool.{cases_lt}
use Rattle.byte_streams.specs.Parts.{Part, part, end_of, Stands, IsLaidOut, put, put_all, Covers, AreApart, IsApartFrom, AreAllApart, AreInside}

pub length-put : (p : Part) (whole : List ℕ) → end_of p ≤ length whole → length (put p whole) ≡ length whole
unfolding put
length-put p whole inside = grind (arith, places)

-- a part that is put stands
pub stands-put : (p : Part) (whole : List ℕ) → end_of p ≤ length whole → Stands p (put p whole)
unfolding put
stands-put p whole inside =
    let front : length (take p.place whole) ≡ p.place = length-take-le p.place whole (omega arith) in
    ap (take (length p.bytes)) (drop_at (take p.place whole) (p.bytes ++ drop (p.place + length p.bytes) whole) p.place front)
    ∙ take_at p.bytes (drop (p.place + length p.bytes) whole) (length p.bytes) refl

-- a byte before the part stays
pub get_or-put_before : (p : Part) (whole : List ℕ) (k d : ℕ) → end_of p ≤ length whole → k < p.place → get_or (put p whole) k d ≡ get_or whole k d
unfolding put
get_or-put_before p whole k d inside before =
    let front : length (take p.place whole) ≡ p.place = length-take-le p.place whole (omega arith) in
    get_or_append_left (take p.place whole) (p.bytes ++ drop (p.place + length p.bytes) whole) d k (omega arith)
    ∙ get_or-take p.place whole k d before

-- a byte after the part stays
pub get_or-put_behind : (p : Part) (whole : List ℕ) (k d : ℕ) → end_of p ≤ length whole → end_of p ≤ k → get_or (put p whole) k d ≡ get_or whole k d
unfolding put
get_or-put_behind p whole k d inside behind =
    let front : length (take p.place whole) ≡ p.place = length-take-le p.place whole (omega arith) in
    let rest = drop (p.place + length p.bytes) whole in
    let place_is : p.place + length p.bytes + (k - p.place - length p.bytes) ≡ k = omega arith in
    get_or-append_right (take p.place whole) (p.bytes ++ rest) p.place k d front (omega arith)
    ∙ get_or-append_right p.bytes rest (length p.bytes) (k - p.place) d refl (omega arith)
    ∙ get_or-drop (p.place + length p.bytes) whole (k - p.place - length p.bytes) d
    ∙ ap (λ i. get_or whole i d) place_is

-- a byte that the part doesn't cover stays
pub get_or-put_apart : (p : Part) (whole : List ℕ) (k d : ℕ) → end_of p ≤ length whole → (Covers p k → ⊥) → get_or (put p whole) k d ≡ get_or whole k d
get_or-put_apart p whole k d inside apart =
    elim (cases_lt k p.place) [
      | inl before ↦ get_or-put_before p whole k d inside before
      | inr not_before ↦ elim (cases_lt k (end_of p)) [
        | inl within ↦ absurd (apart (not_before, within))
        | inr behind ↦ get_or-put_behind p whole k d inside behind
      ]
    ]

-- what stands apart from a part that is put stays standing
pub stands-put_apart : (p q : Part) (whole : List ℕ) → end_of p ≤ length whole → AreApart p q → Stands q whole → Stands q (put p whole)
stands-put_apart p q whole inside apart stands =
    let size = length q.bytes in
    let one : length (put p whole) ≡ length whole = length-put p whole inside in
    let kept : take size (drop q.place (put p whole)) ≡ take size (drop q.place whole) =
    same_lists _ _ (grind (arith, places, one)) (λ k d h.
    let few : k < size = grind (arith, places) in
    get_or-take size (drop q.place (put p whole)) k d few
    ∙ get_or-drop q.place (put p whole) k d
    ∙ get_or-put_apart p whole (q.place + k) d inside (λ covers. apart (q.place + k) covers (omega arith, omega arith))
    ∙ sym (get_or-take size (drop q.place whole) k d few ∙ get_or-drop q.place whole k d)) in
    kept ∙ stands

pub length-put_all : (ps : List Part) (whole : List ℕ) → AreInside (length whole) ps → length (put_all ps whole) ≡ length whole
length-put_all [] whole inside = refl
length-put_all (p ∷ ps) whole inside =
    let one : length (put p whole) ≡ length whole = length-put p whole inside.0 in
    length-put_all ps (put p whole) (rw one inside.1) ∙ one

-- what stands apart from parts that are put stays standing
pub stands-put_all : (q : Part) (ps : List Part) (whole : List ℕ) → AreInside (length whole) ps → IsApartFrom q ps → Stands q whole → Stands q (put_all ps whole)
stands-put_all q [] whole inside apart stands = stands
stands-put_all q (p ∷ ps) whole inside apart stands =
    let one : length (put p whole) ≡ length whole = length-put p whole inside.0 in
    stands-put_all q ps (put p whole) (rw one inside.1) apart.1
    (stands-put_apart p q whole inside.0 (λ k in_p in_q. apart.0 k in_q in_p) stands)

-- parts that are apart stand where they are put
pub put_all-laid : (ps : List Part) (whole : List ℕ) → AreInside (length whole) ps → AreAllApart ps → IsLaidOut ps (put_all ps whole)
put_all-laid [] whole inside apart = tt
put_all-laid (p ∷ ps) whole inside apart =
    let one : length (put p whole) ≡ length whole = length-put p whole inside.0 in (
      stands-put_all p ps (put p whole) (rw one inside.1) apart.0 (stands-put p whole inside.0),
      put_all-laid ps (put p whole) (rw one inside.1) apart.1,
    )

-- a cut of the front is one of the whole
pub cut-append : (place size : ℕ) (front rest : List ℕ) → place + size ≤ length front → take size (drop place (front ++ rest)) ≡ take size (drop place front)
cut-append place size front rest inside =
    let few : size ≤ length (drop place front) = omega (arith, length-drop place front) in
    ap (take size) (drop-append-le place front rest (omega arith)) ∙ take-append-le size (drop place front) rest few

-- parts at the front stand whatever follows
pub stands-append : (p : Part) (front rest : List ℕ) → end_of p ≤ length front → Stands p front → Stands p (front ++ rest)
stands-append p front rest inside stands = cut-append p.place (length p.bytes) front rest inside ∙ stands

pub laid-append : (ps : List Part) (front rest : List ℕ) → AreInside (length front) ps → IsLaidOut ps front → IsLaidOut ps (front ++ rest)
laid-append [] front rest inside laid = tt
laid-append (p ∷ ps) front rest inside laid =
    (stands-append p front rest inside.0 laid.0, laid-append ps front rest inside.1 laid.1)

-- what has bytes and stands ends inside
pub stands-inside : (p : Part) (whole : List ℕ) → 0 < length p.bytes → Stands p whole → end_of p ≤ length whole
stands-inside p whole some stands =
    let size : length (take (length p.bytes) (drop p.place whole)) ≡ length p.bytes = ap length stands in
    omega (arith, length-take (length p.bytes) (drop p.place whole), length-drop p.place whole)

-- one byte stands where it is read
pub byte-read : (place : ℕ) (whole : List ℕ) → place < length whole → Stands (part place (get_or whole place 0 ∷ [])) whole
byte-read place whole inside = ap (take 1) (drop_more whole place 0 inside)

-- a byte that stands is what is read there
pub byte-again : (place n : ℕ) (whole : List ℕ) → Stands (part place (n ∷ [])) whole → get_or whole place 0 ≡ n
byte-again place n whole stands =
    let first : get_or (take 1 (drop place whole)) 0 0 ≡ get_or (drop place whole) 0 0 = get_or-take 1 (drop place whole) 0 0 (omega arith) in
    let there : get_or (drop place whole) 0 0 ≡ get_or whole (place + 0) 0 = get_or-drop place whole 0 0 in
    let same : place + 0 ≡ place = omega arith in
    ap (λ i. get_or whole i 0) (sym same) ∙ sym there ∙ sym first ∙ ap (λ l. get_or l 0 0) stands

-- each part begins behind the one before it, the first at n or behind
abbrev pub AreInOrder : ℕ → List Part → Type 0
AreInOrder n [] = Unit {0}
AreInOrder n (p ∷ ps) = (n ≤ p.place) × AreInOrder (end_of p) ps

order-apart_from : (p : Part) (n : ℕ) (ps : List Part) → end_of p ≤ n → AreInOrder n ps → IsApartFrom p ps
order-apart_from p n [] behind order = tt
order-apart_from p n (q ∷ qs) behind order = ((λ k in_p in_q. omega arith), order-apart_from p (end_of q) qs (omega arith) order.1)

-- parts in order are apart
pub order-apart : (n : ℕ) (ps : List Part) → AreInOrder n ps → AreAllApart ps
order-apart n [] order = tt
order-apart n (p ∷ ps) order = (order-apart_from p (end_of p) ps (omega arith) order.1, order-apart (end_of p) ps order.1)
