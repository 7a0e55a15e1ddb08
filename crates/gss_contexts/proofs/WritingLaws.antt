-- Fronts of what is written in two parts.
use Rattle.std.proofs.Common.{◌≡◌, ℕ, ◌+◌, ◌≤◌, List, ◌++◌, length, take, min, sym, subst, ◌∙◌, Option, arith}
use Rattle.std.proofs.lemmas.List.{take_min, take-append-le}
use Rattle.std.proofs.Math.Seq.{take-append-add}
use Rattle.std.proofs.KnownBytes.{Appends-trans}
use Rattle.std.specs.Io.KnownBytes.{Appends}

-- a front of the first part is a front of both
pub first-front : (old new : Option (List ℕ)) (xs ys : List ℕ)
    → (n : ℕ) × Appends old new (take n xs) → (n : ℕ) × Appends old new (take n (xs ++ ys))
first-front old new xs ys (n, grown) =
    let few : min n (length xs) ≤ length xs = omega arith in
    let same : take n xs ≡ take (min n (length xs)) (xs ++ ys) = sym (take-append-le (min n (length xs)) xs ys few ∙ take_min n xs) in
    (min n (length xs), subst (Appends old new) same grown)

-- the first part and a front of the second are a front of both
pub second-front : (old mid new : Option (List ℕ)) (xs ys : List ℕ) → Appends old mid xs
    → (n : ℕ) × Appends mid new (take n ys) → (n : ℕ) × Appends old new (take n (xs ++ ys))
second-front old mid new xs ys first (n, grown) =
    (length xs + n, subst (Appends old new) (sym (take-append-add xs ys n)) (Appends-trans old mid new xs (take n ys) first grown))
