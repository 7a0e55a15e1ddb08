-- Keys of triple DES made from random bytes (RFC 3961, section 6.3.1).
use Rattle.std.specs.Prelude.{◌≡◌, ℕ, ◌+◌, ◌%◌, List, [], ◌∷◌, ◌++◌, map, slice_index, slice_set, sum, bit_xor, if◌then◌else◌, Bool}
use Rattle.std.specs.List.{flat_map, range_with_len, list_any}
use Rattle.std.specs.Str.{bytes_eq}
use Rattle.block_ciphers.specs.Chains.{block_at}
use Rattle.block_ciphers.specs.Bits.{low_bits, number, bits_of_bytes, permuted}

-- the places of the 56 bits that are put into eight bytes, seven into each
unfoldable pub stretching : List ℕ
stretching =
    1 ∷ 2 ∷ 3 ∷ 4 ∷ 5 ∷ 6 ∷ 7 ∷
    9 ∷ 10 ∷ 11 ∷ 12 ∷ 13 ∷ 14 ∷ 15 ∷
    17 ∷ 18 ∷ 19 ∷ 20 ∷ 21 ∷ 22 ∷ 23 ∷
    25 ∷ 26 ∷ 27 ∷ 28 ∷ 29 ∷ 30 ∷ 31 ∷
    33 ∷ 34 ∷ 35 ∷ 36 ∷ 37 ∷ 38 ∷ 39 ∷
    41 ∷ 42 ∷ 43 ∷ 44 ∷ 45 ∷ 46 ∷ 47 ∷
    49 ∷ 50 ∷ 51 ∷ 52 ∷ 53 ∷ 54 ∷ 55 ∷
    56 ∷ 48 ∷ 40 ∷ 32 ∷ 24 ∷ 16 ∷ 8 ∷ []

-- the byte of seven bits and one behind them that makes the number of ones odd
unfoldable pub with_odd_parity : List ℕ → ℕ
with_odd_parity s = number (s ++ (sum s + 1) % 2 ∷ [])

-- the number of ones among a byte's bits is odd
abbrev pub HasOddParity : ℕ → Type 0
HasOddParity b = sum (low_bits 8 b) % 2 ≡ 1

-- seven bytes stretched to eight of odd parity
unfoldable pub stretched : List ℕ → List ℕ
stretched s =
    let bits = permuted stretching (bits_of_bytes s) in
    map (λ i. with_odd_parity (block_at 7 bits i)) (range_with_len 0 8)

-- the pairs of bytes that weak and semi-weak keys are made of: x, and x' in the second half
abbrev pub weak_pairs : List (ℕ × ℕ)
weak_pairs = (0x01, 0x01) ∷ (0x1f, 0x0e) ∷ (0xe0, 0xf1) ∷ (0xfe, 0xfe) ∷ []

-- the weak and semi-weak keys (NIST SP 800-67), x y x y x' y' x' y'
unfoldable pub weak_keys : List (List ℕ)
weak_keys =
    flat_map (λ p. map (λ q. p.0 ∷ q.0 ∷ p.0 ∷ q.0 ∷ p.1 ∷ q.1 ∷ p.1 ∷ q.1 ∷ []) weak_pairs) weak_pairs

-- whether a key of eight bytes is weak or semi-weak (NIST SP 800-67)
unfoldable pub is_weak : List ℕ → Bool
is_weak key = list_any (λ weak. bytes_eq weak key) weak_keys

-- a key of eight bytes, and in place of a weak or semi-weak one the one with F0 added to its last byte
unfoldable pub mended : List ℕ → List ℕ
mended key = if is_weak key then slice_set key 7 (bit_xor (slice_index key 7) 0xf0) else key

-- Random-to-key stretches each seven of 21 octets to eight of odd parity, and corrects a weak key with F0 (RFC 3961, section 6.3.1).
-- Test: `des3-seed` of `standards.txt`.
unfoldable pub random_to_key : List ℕ → List ℕ
random_to_key seed = flat_map (λ i. mended (stretched (block_at 7 seed i))) (range_with_len 0 3)
