-- Lemmas on the sums of iterates
use Rattle.std.proofs.Common.{◌≡◌, ℕ, ◌+◌, ◌<◌, List, [], ◌++◌, length, get_or, bit_xor, refl, add-one}
use Rattle.std.proofs.lemmas.List.FromFn.{fill_by_all}
use Rattle.encryption_profiles.specs.Pbkdf2.{xor_of, iterate, sum_of_iterates, block_of, blocks_of}

-- a list is the xor of two where each of its bytes is
pub xor_of_from_bytes : (xs ys zs : List ℕ) → length zs ≡ length xs → ((k : ℕ) → k < length xs → get_or zs k 0 ≡ bit_xor (get_or xs k 0) (get_or ys k 0)) → zs ≡ xor_of xs ys
unfolding xor_of
xor_of_from_bytes xs ys zs same each = fill_by_all (λ i. bit_xor (get_or xs i 0) (get_or ys i 0)) zs (length xs) 0 same each

pub iterate-more : (f : List ℕ → List ℕ) (n : ℕ) (x : List ℕ) → iterate f (n + 1) x ≡ f (iterate f n x)
unfolding iterate
iterate-more f n x = rw add-one refl

pub sum_of_iterates-more : (f : List ℕ → List ℕ) (n : ℕ) (x : List ℕ) → sum_of_iterates f (n + 1) x ≡ xor_of (sum_of_iterates f n x) (iterate f (n + 1) x)
unfolding sum_of_iterates
sum_of_iterates-more f n x = rw add-one refl

pub iterate-none : (f : List ℕ → List ℕ) (x : List ℕ) → iterate f 0 x ≡ x
unfolding iterate
iterate-none f x = refl

pub sum_of_iterates-none : (f : List ℕ → List ℕ) (x : List ℕ) → sum_of_iterates f 0 x ≡ x
unfolding sum_of_iterates
sum_of_iterates-none f x = refl

pub blocks_of-none : (mac : List ℕ → List ℕ) (salt : List ℕ) (rounds : ℕ) → [] ≡ blocks_of mac salt rounds 0
unfolding blocks_of
blocks_of-none mac salt rounds = refl

pub blocks_of-more : (mac : List ℕ → List ℕ) (salt : List ℕ) (rounds n : ℕ) → blocks_of mac salt rounds (n + 1) ≡ blocks_of mac salt rounds n ++ block_of mac salt rounds (n + 1)
unfolding blocks_of
blocks_of-more mac salt rounds n = rw add-one refl
