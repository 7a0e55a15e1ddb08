-- Strings of bits, the first one at the left.
use Rattle.std.specs.Prelude.{ℕ, ◌+◌, ◌-◌, ◌*◌, ◌/◌, ◌^◌, zero, suc, List, [], ◌∷◌, length, map, slice_index}
use Rattle.std.specs.Int.{bit_at}
use Rattle.std.specs.List.{flat_map, range_with_len}
use Rattle.block_ciphers.specs.Bytes.{sum_of_bytes}
use Rattle.block_ciphers.specs.Chains.{block_at}

-- the n low bits of a number, the highest of them first
unfoldable pub low_bits : ℕ → ℕ → List ℕ
low_bits zero x = []
low_bits (suc n) x = bit_at x n ∷ low_bits n x

-- numbers as strings of n bits
abbrev pub strings : ℕ → List ℕ → List (List ℕ)
strings n numbers = map (λ x. low_bits n x) numbers

-- the number that a string of bits spells
unfoldable pub number : List ℕ → ℕ
number [] = 0
number (b ∷ s) = b * 2 ^ length s + number s

-- the bits of a string of bytes
unfoldable pub bits_of_bytes : List ℕ → List ℕ
bits_of_bytes s = flat_map (λ b. low_bits 8 b) s

-- the bytes that a string of bits spells
unfoldable pub bytes_of_bits : List ℕ → List ℕ
bytes_of_bits s = map (λ i. number (block_at 8 s i)) (range_with_len 0 (length s / 8))

-- the bits at the places that a table names, in its order: bit i of the result is bit table(i) of the input
unfoldable pub permuted : List ℕ → List ℕ → List ℕ
permuted table s = map (λ place. slice_index s (place - 1)) table

-- the sum of two strings of n bits, bit by bit
abbrev pub sum_of_bits : ℕ → List ℕ → List ℕ → List ℕ
sum_of_bits n a b = sum_of_bytes n a b
