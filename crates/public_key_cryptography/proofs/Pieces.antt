-- Pieces that are written one behind another.
use Rattle.std.proofs.Common.{◌≡◌, ℕ, ◌+◌, ◌-◌, ◌≤◌, List, [], ◌∷◌, ◌++◌, length, replicate, take, drop, sym, ap, ◌∙◌, arith}
use Rattle.std.proofs.lemmas.List.{take_all, take_at, length-append, length-drop}
use Rattle.std.proofs.lemmas.Slice.{take-put_mid}
use borrow.Rule.Slice.PartMut.{put_mid}
use Rattle.modular_arithmetic.proofs.RowSteps.{length-put_mid}
use Rattle.public_key_cryptography.specs.Pkcs1.{padded}

-- n octets of which `first` are the first two, and `ahead` and `last` begin at i and m
pub written : (xs front middle ahead last : List ℕ) (n i m j k l : ℕ) → length xs ≡ n → 2 ≤ i → i ≤ m → m ≤ n → length front ≡ 2 → length middle ≡ i - 2 → length ahead ≡ m - i → length last ≡ n - m → j ≡ i - 2 → k ≡ m - i → l ≡ n - m → put_mid m l (put_mid i k (put_mid 2 j (front ++ drop 2 xs) middle) ahead) last ≡ front ++ middle ++ ahead ++ last
written xs front middle ahead last n i m j k l whole room before within f mid a d j_is k_is l_is =
    let first : List ℕ = front ++ drop 2 xs in
    let second : List ℕ = put_mid 2 j first middle in
    let third : List ℕ = put_mid i k second ahead in
    let fourth : List ℕ = put_mid m l third last in
    let len_first : length first ≡ n = omega (arith, length-append front (drop 2 xs), length-drop 2 xs) in
    let len_second : length second ≡ n = omega (arith, length-put_mid first middle 2 j (omega arith) (omega arith)) in
    let len_third : length third ≡ n = omega (arith, length-put_mid second ahead i k (omega arith) (omega arith)) in
    let len_fourth : length fourth ≡ n = omega (arith, length-put_mid third last m l (omega arith) (omega arith)) in
    let one : take 2 first ≡ front = take_at front (drop 2 xs) 2 f in
    let two : take i second ≡ take 2 first ++ middle = take-put_mid 2 j first middle i (omega arith) (omega arith) in
    let three : take m third ≡ take i second ++ ahead = take-put_mid i k second ahead m (omega arith) (omega arith) in
    let four : take n fourth ≡ take m third ++ last = take-put_mid m l third last n (omega arith) (omega arith) in
    sym (take_all n fourth (omega arith)) ∙ four ∙ ap (λ ys. ys ++ last) three ∙ ap (λ ys. ys ++ ahead ++ last) two ∙ ap (λ ys. ys ++ middle ++ ahead ++ last) one

pub length-third : (xs front middle ahead : List ℕ) (n i m j k : ℕ) → length xs ≡ n → 2 ≤ i → i ≤ m → m ≤ n → length front ≡ 2 → length middle ≡ i - 2 → length ahead ≡ m - i → j ≡ i - 2 → k ≡ m - i → length (put_mid i k (put_mid 2 j (front ++ drop 2 xs) middle) ahead) ≡ n
length-third xs front middle ahead n i m j k whole room before within f mid a j_is k_is =
    let first : List ℕ = front ++ drop 2 xs in
    let second : List ℕ = put_mid 2 j first middle in
    let len_first : length first ≡ n = omega (arith, length-append front (drop 2 xs), length-drop 2 xs) in
    let len_second : length second ≡ n = omega (arith, length-put_mid first middle 2 j (omega arith) (omega arith)) in
    omega (arith, length-put_mid second ahead i k (omega arith) (omega arith))

pub pieces-are : (front middle ahead last given digest : List ℕ) (n : ℕ) → front ≡ 0 ∷ 1 ∷ [] → middle ≡ replicate (n - (length given + length digest) - 2) 255 → ahead ≡ given → last ≡ digest → front ++ middle ++ ahead ++ last ≡ padded n given digest
pieces-are front middle ahead last given digest n p q r s = λ i. p i ++ q i ++ r i ++ s i
