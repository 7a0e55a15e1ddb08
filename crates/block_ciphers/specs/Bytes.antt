-- Strings of bytes.
use Rattle.std.specs.Prelude.{◌≡◌, ℕ, ◌<◌, List, length, map, slice_index, bit_xor}
use Rattle.std.specs.List.{range_with_len}

-- each element is a byte
abbrev pub IsBytes : List ℕ → Type 0
IsBytes s = (i : ℕ) → slice_index s i < 256

-- a block of this many bytes
pub record IsBlock (size : ℕ) (s : List ℕ) : Type 0 where
  pub sized : length s ≡ size
  pub bytes : IsBytes s

-- the sum of the first n bytes of two strings, bit by bit; past a string's end its bytes count as 0
unfoldable pub sum_of_bytes : ℕ → List ℕ → List ℕ → List ℕ
sum_of_bytes n a b = map (λ i. bit_xor (slice_index a i) (slice_index b i)) (range_with_len 0 n)
