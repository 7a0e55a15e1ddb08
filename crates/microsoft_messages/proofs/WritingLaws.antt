-- A PAC is laid out in the bytes into which its parts were put.
use Rattle.std.proofs.Common.{◌≡◌, ℕ, zero, suc, ◌+◌, ◌*◌, ◌<◌, ◌≤◌, ◌&&◌, Bool, true, false, List, [], ◌∷◌, length, map, get_or, drop, replicate, None, Result, Ok, Err, nat_eq, nat_le, nat_lt, if◌then◌else◌, refl, ap, sym, subst, ◌∙◌, arith}
use Rattle.std.specs.List.{list_all}
use Rattle.std.proofs.lemmas.Bool.Decides.{nat_tests, Decides-eqb}
use Rattle.std.proofs.lemmas.List.{at_drop_more, at_drop_all, length-replicate, length-map}
use Rattle.std.proofs.lemmas.List.Folds.{list_all-map}
use Rattle.byte_streams.specs.Parts.{Part, part, end_of, put, put_all, IsApartFrom, AreAllApart, AreInside}
use Rattle.byte_streams.specs.Numbers.{le32, le64}
use Rattle.byte_streams.proofs.PartLaws.{put_all-laid, length-put_all}
use Rattle.byte_streams.proofs.NumberLaws.{length-le32, length-le64}
use Rattle.microsoft_messages.specs.Buffers.{Buffer, buffer_of, one_buffer_parts, buffer_parts, pac_parts, IsSized, AreSized, IsPac, AllFit}
use Rattle.microsoft_messages.specs.Kinds.{kind_number}
use Rattle.microsoft_messages.specs.PacReading.{and_then, pac_at}
use Rattle.microsoft_messages.specs.PacWriting.{rooms_of, pac_size, is_sized, counted, pac_bytes, pac_written, AreBehind, content_part, ArePlaced}
use Rattle.microsoft_messages.proofs.OnlyLaws.{pac-only}
use Rattle.microsoft_messages.specs.declared.pac.buffer.PacBuffer.{PacBuffer}
use Rattle.microsoft_messages.specs.declared.pac.error.PacError.{PacError}
use Rattle.microsoft_messages.specs.declared.pac.error.PacError.TheVariants.{InvalidRange}

-- a row, as it is written
pub three-put : (place n1 n2 n3 : ℕ) (b1 b2 b3 whole h1 h2 h3 : List ℕ)
    → b1 ≡ le32 n1 → b2 ≡ le32 n2 → b3 ≡ le64 n3
    → h1 ≡ put (part place b1) whole → h2 ≡ put (part (place + 4) b2) h1 → h3 ≡ put (part (place + 8) b3) h2
    → h3 ≡ put (part (place + 8) (le64 n3)) (put (part (place + 4) (le32 n2)) (put (part place (le32 n1)) whole))
three-put place n1 n2 n3 b1 b2 b3 whole h1 h2 h3 is1 is2 is3 p1 p2 p3 =
    let e1 : h1 ≡ put (part place (le32 n1)) whole = p1 ∙ ap (λ (b : List ℕ). put (part place b) whole) is1 in
    let e2 : h2 ≡ put (part (place + 4) (le32 n2)) h1 = p2 ∙ ap (λ (b : List ℕ). put (part (place + 4) b) h1) is2 in
    let e3 : h3 ≡ put (part (place + 8) (le64 n3)) h2 = p3 ∙ ap (λ (b : List ℕ). put (part (place + 8) b) h2) is3 in
    e3 ∙ ap (put (part (place + 8) (le64 n3))) (e2 ∙ ap (put (part (place + 4) (le32 n2))) e1)

-- two numbers, one behind the other
pub two-put : (n1 n2 : ℕ) (b1 b2 whole h1 h2 : List ℕ) → b1 ≡ le32 n1 → b2 ≡ le32 n2
    → h1 ≡ put (part 0 b1) whole → h2 ≡ put (part 4 b2) h1 → h2 ≡ put (part 4 (le32 n2)) (put (part 0 (le32 n1)) whole)
two-put n1 n2 b1 b2 whole h1 h2 is1 is2 p1 p2 =
    let e1 : h1 ≡ put (part 0 (le32 n1)) whole = p1 ∙ ap (λ (b : List ℕ). put (part 0 b) whole) is1 in
    let e2 : h2 ≡ put (part 4 (le32 n2)) h1 = p2 ∙ ap (λ (b : List ℕ). put (part 4 b) h1) is2 in
    e2 ∙ ap (put (part 4 (le32 n2))) e1

-- one buffer more
pub put-step : (xs : List PacBuffer) (i place next : ℕ) (d : PacBuffer) (bytes written told : List ℕ) → i < length xs → next ≡ place + 16
    → written ≡ put_all (one_buffer_parts place (buffer_of (get_or xs i d))) bytes
    → put_all (buffer_parts place (map buffer_of (drop i xs))) bytes ≡ told
    → put_all (buffer_parts next (map buffer_of (drop (i + 1) xs))) written ≡ told
put-step xs i place next d bytes written told inside behind is so_far =
    ap (λ (p : ℕ). put_all (buffer_parts p (map buffer_of (drop (i + 1) xs))) written) behind
    ∙ ap (put_all (buffer_parts (place + 16) (map buffer_of (drop (i + 1) xs)))) is
    ∙ sym (at_drop_more (λ (l : List PacBuffer). put_all (buffer_parts place (map buffer_of l)) bytes) xs i d inside) ∙ so_far

pub put-end : (xs : List PacBuffer) (i place : ℕ) (bytes told : List ℕ) → length xs ≤ i
    → put_all (buffer_parts place (map buffer_of (drop i xs))) bytes ≡ told → bytes ≡ told
put-end xs i place bytes told past so_far =
    sym (at_drop_all (λ (l : List PacBuffer). put_all (buffer_parts place (map buffer_of l)) bytes) xs i past) ∙ so_far

-- the buffer at i is sized as all are
pub sized-at : (n : ℕ) (xs : List PacBuffer) (i : ℕ) (d : PacBuffer) → AreSized n (map buffer_of xs) → i < length xs → IsSized n (buffer_of (get_or xs i d))
sized-at n [] i d sized inside = absurd (omega arith)
sized-at n (x ∷ xs) zero d sized inside = sized.0
sized-at n (x ∷ xs) (suc i) d sized inside = sized-at n xs i d sized.1 (omega arith)

both-true : (a b : Bool) → (a && b) ≡ true → (a ≡ true) × (b ≡ true)
both-true true b is = (refl, is)
both-true false b is = absurd (cc is)

sized-true : (n : ℕ) (b : Buffer) → is_sized n b ≡ true → IsSized n b
sized-true n b is =
    let (same, below) = both-true (nat_eq b.info.cb_buffer_size (length b.content)) (nat_le (b.info.offset + b.info.cb_buffer_size) n) is in
    ((Decides-eqb b.info.cb_buffer_size (length b.content)).0 same, grind (arith, nat_tests, below))

pub all_sized-true : (n : ℕ) (bs : List Buffer) → list_all (is_sized n) bs ≡ true → AreSized n bs
all_sized-true n [] is = tt
all_sized-true n (b ∷ bs) is =
    let (one, others) = both-true (is_sized n b) (list_all (is_sized n) bs) is in
    (sized-true n b one, all_sized-true n bs others)

inner-ok : (test : Bool) (count n : ℕ) → (if test then Ok count else Err InvalidRange) ≡ Ok n → (test ≡ true) × (count ≡ n)
inner-ok true count n is = (refl, cc is)
inner-ok false count n is = absurd (cc is)

outer-ok : (test : Bool) (r : Result ℕ PacError) (n : ℕ) → (if test then Err InvalidRange else r) ≡ Ok n → (test ≡ false) × (r ≡ Ok n)
outer-ok true r n is = absurd (cc is)
outer-ok false r n is = (refl, is)

-- what was counted is sized
pub counted-sized : (n count : ℕ) (bs : List Buffer) → counted n bs ≡ Ok count → AreSized n bs × (length bs ≡ count)
counted-sized n count bs is =
    let (few, told) = outer-ok (nat_lt 4294967295 (length bs)) (if list_all (is_sized n) bs then Ok (length bs) else Err InvalidRange) count is in
    let (sized, same) = inner-ok (list_all (is_sized n) bs) (length bs) count told in
    (all_sized-true n bs sized, same)

-- the table has room
pub rooms-least : (bs : List Buffer) → 16 * length bs ≤ rooms_of bs
rooms-least [] = omega arith
rooms-least (b ∷ bs) = let others = rooms-least bs in omega arith

pub room-enough : (n : ℕ) (xs : List PacBuffer) → n ≡ pac_size (map buffer_of xs) → 8 + 16 * length xs ≤ n
room-enough n xs is =
    let least = rooms-least (map buffer_of xs) in
    let same = length-map xs buffer_of in
    omega arith

parts-inside : (n place : ℕ) (bs : List Buffer) → place + 16 * length bs ≤ n → AreSized n bs → AreInside n (buffer_parts place bs)
parts-inside n place [] room sized = tt
parts-inside n place (b ∷ bs) room sized =
    let four = length-le32 (kind_number b.info.ul_type) in
    let also_four = length-le32 b.info.cb_buffer_size in
    let eight = length-le64 b.info.offset in
    let same = sized.0.0 in
    let below = sized.0.1 in
    (omega arith, (omega arith, (omega arith, (omega arith, parts-inside n (place + 16) bs (omega arith) sized.1))))

-- what ends before the rows and the contents is apart from them
front-apart : (p : Part) (place limit : ℕ) (bs : List Buffer) → end_of p ≤ place → end_of p ≤ limit → AreBehind limit bs → IsApartFrom p (buffer_parts place bs)
front-apart p place limit [] before below behind = tt
front-apart p place limit (b ∷ bs) before below behind =
    let far = behind.0 in (
      (λ k in_p in_q. omega arith),
      (
        (λ k in_p in_q. omega arith),
        (
          (λ k in_p in_q. omega arith),
          (
            (λ k in_p in_q. omega arith),
            front-apart p (place + 16) limit bs (omega arith) below behind.1,
          ),
        ),
      ),
    )

-- what lies behind the rows and apart from the contents is apart from both
content-apart : (q : Part) (place limit : ℕ) (bs : List Buffer) → place + 16 * length bs ≤ limit → limit ≤ q.place
    → IsApartFrom q (map content_part bs) → IsApartFrom q (buffer_parts place bs)
content-apart q place limit [] room behind apart = tt
content-apart q place limit (b ∷ bs) room behind apart =
    let four = length-le32 (kind_number b.info.ul_type) in
    let also_four = length-le32 b.info.cb_buffer_size in
    let eight = length-le64 b.info.offset in (
      (λ k in_p in_q. omega arith),
      (
        (λ k in_p in_q. omega arith),
        (
          (λ k in_p in_q. omega arith),
          (
            apart.0,
            content-apart q (place + 16) limit bs (omega arith) behind apart.1,
          ),
        ),
      ),
    )

parts-apart : (place limit : ℕ) (bs : List Buffer) → place + 16 * length bs ≤ limit → AreBehind limit bs → AreAllApart (map content_part bs)
    → AreAllApart (buffer_parts place bs)
parts-apart place limit [] room behind apart = tt
parts-apart place limit (b ∷ bs) room behind apart =
    let four = length-le32 (kind_number b.info.ul_type) in
    let also_four = length-le32 b.info.cb_buffer_size in
    let eight = length-le64 b.info.offset in
    let far = behind.0 in (
      (
        (λ k in_p in_q. omega arith),
        (
          (λ k in_p in_q. omega arith),
          (
            (λ k in_p in_q. omega arith),
            front-apart (part place (le32 (kind_number b.info.ul_type))) (place + 16) limit bs (omega arith) (omega arith) behind.1,
          ),
        ),
      ),
      (
        (
          (λ k in_p in_q. omega arith),
          (
            (λ k in_p in_q. omega arith),
            front-apart (part (place + 4) (le32 b.info.cb_buffer_size)) (place + 16) limit bs (omega arith) (omega arith) behind.1,
          ),
        ),
        (
          (
            (λ k in_p in_q. omega arith),
            front-apart (part (place + 8) (le64 b.info.offset)) (place + 16) limit bs (omega arith) (omega arith) behind.1,
          ),
          (
            content-apart (content_part b) (place + 16) limit bs (omega arith) far apart.0,
            parts-apart (place + 16) limit bs (omega arith) behind.1 apart.1,
          ),
        ),
      ),
    )

-- a PAC whose contents are placed is laid out in its bytes
pub pac-laid : (bs : List Buffer) → ArePlaced bs → AreSized (pac_size bs) bs → IsPac bs (pac_bytes bs)
pac-laid bs placed sized =
    let size : ℕ = pac_size bs in
    let zeros : List ℕ = replicate size 0 in
    let four = length-le32 (length bs) in
    let also_four = length-le32 0 in
    let least = rooms-least bs in
    let long : length zeros ≡ size = length-replicate size 0 in
    let limit : ℕ = 8 + 16 * length bs in
    let inside : AreInside (length zeros) (pac_parts bs) =
    subst (λ (n : ℕ). AreInside n (pac_parts bs)) (sym long) (omega arith, (omega arith, parts-inside size 8 bs (omega arith) sized)) in
    let apart : AreAllApart (pac_parts bs) = (
      ((λ k in_p in_q. omega arith), front-apart (part 0 (le32 (length bs))) 8 limit bs (omega arith) (omega arith) placed.behind),
      (
        front-apart (part 4 (le32 0)) 8 limit bs (omega arith) (omega arith) placed.behind,
        parts-apart 8 limit bs (omega arith) placed.behind placed.apart,
      ),
    ) in
    let kept : length (pac_bytes bs) ≡ size = length-put_all (pac_parts bs) zeros inside ∙ long in
    record {
      parts = put_all-laid (pac_parts bs) zeros inside apart;
      sized = subst (λ (n : ℕ). AreSized n bs) (sym kept) sized;
    }

-- what is written is its bytes, and its buffers are sized
pub written-is : (bs : List Buffer) (out : List ℕ) → pac_written bs ≡ Ok out → (out ≡ pac_bytes bs) × AreSized (pac_size bs) bs
written-is bs out is =
    by-count (counted (pac_size bs) bs) refl is
  where
    by-count : (r : Result ℕ PacError) → counted (pac_size bs) bs ≡ r → and_then r (λ _. Ok (pac_bytes bs)) ≡ Ok out
        → (out ≡ pac_bytes bs) × AreSized (pac_size bs) bs
    by-count (Ok n) same told = (cc told, (counted-sized (pac_size bs) n bs same).0)
    by-count (Err e) same told = absurd (cc told)

-- the law
pub given-back : (bs : List Buffer) (out : List ℕ) → AllFit bs → ArePlaced bs → pac_written bs ≡ Ok out → pac_at None out ≡ Ok bs
given-back bs out fit placed is =
    let (same, sized) = written-is bs out is in
    pac-only bs out fit (subst (IsPac bs) (sym same) (pac-laid bs placed sized))

few-buffers : (xs : List PacBuffer) → length xs ≤ 4294967295 → nat_lt 4294967295 (length (map buffer_of xs)) ≡ false
few-buffers xs few = let same = length-map xs buffer_of in grind (arith, nat_tests)

pub counted-unsized : (n : ℕ) (xs : List PacBuffer) → length xs ≤ 4294967295 → list_all (λ b. is_sized n (buffer_of b)) xs ≡ false
    → counted n (map buffer_of xs) ≡ Err InvalidRange
counted-unsized n xs few not_all =
    let bs = map buffer_of xs in
    ap (λ (t : Bool). if t then Err InvalidRange else if list_all (is_sized n) bs then Ok (length bs) else Err InvalidRange) (few-buffers xs few)
    ∙ ap (λ (t : Bool). if t then Ok (length bs) else Err InvalidRange) (list_all-map (is_sized n) buffer_of xs ∙ not_all)

pub counted-all : (n : ℕ) (xs : List PacBuffer) → length xs ≤ 4294967295 → list_all (λ b. is_sized n (buffer_of b)) xs ≡ true
    → counted n (map buffer_of xs) ≡ Ok (length xs)
counted-all n xs few every =
    let bs = map buffer_of xs in
    ap (λ (t : Bool). if t then Err InvalidRange else if list_all (is_sized n) bs then Ok (length bs) else Err InvalidRange) (few-buffers xs few)
    ∙ ap (λ (t : Bool). if t then Ok (length bs) else Err InvalidRange) (list_all-map (is_sized n) buffer_of xs ∙ every)
    ∙ ap (λ (m : ℕ). Ok m) (length-map xs buffer_of)
