-- What is written of a number is read as that number.
use Rattle.std.proofs.Common.{◌≡◌, ℕ, ◌+◌, ◌*◌, ◌/◌, ◌%◌, ◌<◌, ◌≤◌, ◌==◌, false, List, [], ◌∷◌, ◌++◌, length, Option, None, Some, ap, ◌∙◌, arith}
use Rattle.std.specs.Prelude.{option_and_then}
use Rattle.std.specs.Fmt.{decimal}
use Rattle.std.proofs.lemmas.Bool.Decides.{nat_tests}
use Rattle.std.proofs.lemmas.Fmt.{decimal_by_steps, decimal_nonempty}
use Rattle.krb_account_texts.specs.Reading.{digits_behind, next_number, number_in}

-- a digit is read behind a number
next-digit : (n d : ℕ) → d < 10 → 10 * n + d < 4294967296 → next_number n (48 + d) ≡ Some (10 * n + d)
next-digit n d small below = grind (arith, nat_tests)

-- a step behind what may be none
chain : (o : Option ℕ) (n : ℕ) (f g : ℕ → Option ℕ) (r : Option ℕ) → ((k : ℕ) → f k ≡ Some n → g k ≡ r) → option_and_then f o ≡ Some n → option_and_then g o ≡ r
chain None n f g r step read = cc read
chain (Some k) n f g r step read = step k read

-- digits, and one behind them
digits-more : (m n : ℕ) (ds : List ℕ) (digit : ℕ) → digits_behind m ds ≡ Some n → digits_behind m (ds ++ digit ∷ []) ≡ digits_behind n (digit ∷ [])
digits-more m n [] digit read = ap (λ (o : Option ℕ). option_and_then (λ (k : ℕ). digits_behind k (digit ∷ [])) o) read
digits-more m n (first ∷ ds) digit read =
    chain (next_number m first) n (λ (k : ℕ). digits_behind k ds) (λ (k : ℕ). digits_behind k (ds ++ digit ∷ [])) (digits_behind n (digit ∷ []))
    (λ k. digits-more k n ds digit) read

abbrev IsReadAgain : ℕ → List ℕ → Type 0
IsReadAgain n ds = n < 4294967296 → digits_behind 0 ds ≡ Some n

again-one : (n : ℕ) → n < 10 → IsReadAgain n ((48 + n) ∷ [])
again-one n small below =
    let e : 10 * 0 + n ≡ n = omega arith in
    ap (option_and_then (λ (k : ℕ). digits_behind k [])) (next-digit 0 n small (omega arith)) ∙ ap Some e

again-more : (n : ℕ) (ds : List ℕ) → 10 ≤ n → IsReadAgain (n / 10) ds → IsReadAgain n (ds ++ (48 + n % 10) ∷ [])
again-more n ds big so_far below =
    let e : 10 * (n / 10) + n % 10 ≡ n = omega arith in
    digits-more 0 (n / 10) ds (48 + n % 10) (so_far (omega arith))
    ∙ ap (option_and_then (λ (k : ℕ). digits_behind k [])) (next-digit (n / 10) (n % 10) (omega arith) (omega arith)) ∙ ap Some e

pub decimal-read : (n : ℕ) → n < 4294967296 → number_in (decimal n) ≡ Some n
unfolding number_in
decimal-read n below =
    let some = decimal_nonempty n (omega arith) in
    let filled : (length (decimal n) == 0) ≡ false = grind (arith, nat_tests) in
    rw filled (decimal_by_steps IsReadAgain again-one again-more n (omega arith) below)
