-- Fronts of lists that loops go along part by part.
use Rattle.std.proofs.Common.{◌≡◌, ℕ, ◌+◌, ◌-◌, ◌≤◌, List, [], ◌++◌, length, take, drop, ap, sym, ◌∙◌, append-nil, arith, Option, None, Some}
use Rattle.std.proofs.lemmas.Grind.{common_steps}
use Rattle.std.specs.Io.KnownBytes.{Appends, Keeps}
use Rattle.std.proofs.Math.Seq.{take-append-add, take-add}
use Rattle.std.proofs.lemmas.List.{take-append-le, take-take, length-take-le}
use borrow.Rule.Slice.PartMut.{put_mid, post_of}

-- after a write to `&mut xs[at..]` whose first `count` bytes count
pub take-put_mid_more : (at k count : ℕ) (xs ys : List ℕ) → at ≤ length xs → count ≤ length ys
    → take (at + count) (put_mid at k xs ys) ≡ take at xs ++ take count ys
take-put_mid_more at k count xs ys within few =
    let front = take at xs in
    let rest = ys ++ post_of at k xs in
    ap (λ n. take (n + count) (front ++ rest)) (sym (length-take-le at xs within))
    ∙ take-append-add front rest count
    ∙ ap (λ l. front ++ l) (take-append-le count ys (post_of at k xs) few)

-- the first bytes, and then the first `count` of the rest, `&xs[at..]`
pub take-front_more : (at k count : ℕ) (xs : List ℕ) → count ≤ k → take at xs ++ take count (take k (drop at xs)) ≡ take (at + count) xs
take-front_more at k count xs few = ap (λ l. take at xs ++ l) (take-take count k (drop at xs) few) ∙ sym (take-add at count xs)

-- who takes all of the rest comes to the end
pub length-le-taken : (at count : ℕ) (xs : List ℕ) → count ≡ length (take (length xs - at) (drop at xs)) → length xs ≤ at + count
length-le-taken at count xs all = grind (arith, common_steps)

-- known bytes that grew by none stay as they were
pub Keeps-from_Appends : (a b : Option (List ℕ)) (bs : List ℕ) → bs ≡ [] → Appends a b bs → Keeps a b
Keeps-from_Appends None b bs none grown = tt
Keeps-from_Appends (Some x) None bs none grown = absurd grown
Keeps-from_Appends (Some x) (Some y) bs none grown = grown ∙ ap (λ l. x ++ l) none ∙ append-nil x
