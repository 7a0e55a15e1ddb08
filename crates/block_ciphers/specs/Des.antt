-- The Data Encryption Standard (FIPS 46-3), and the Triple Data Encryption Algorithm over it.
use Rattle.std.specs.Prelude.{ℕ, ◌+◌, ◌*◌, List, [], ◌∷◌, ◌++◌, take, drop, reverse, slice_index, slice_index_or}
use Rattle.std.specs.List.{flat_map, range_with_len}
use Rattle.block_ciphers.specs.Chains.{block_at}
use Rattle.block_ciphers.specs.Bits.{low_bits, number, bits_of_bytes, bytes_of_bits, permuted, sum_of_bits}
use Rattle.block_ciphers.specs.Tables.{initial_permutation, final_permutation, expansion, permutation, permuted_choice_1, permuted_choice_2, left_shifts, boxes}

-- what box k, from 0 on, puts for six bits: the number in the row that the first and the last one spell and in the
-- column that the others spell, as four bits
unfoldable pub selected : ℕ → List ℕ → List ℕ
selected k s =
    let row = number (take 1 s ++ drop 5 s) in
    let column = number (take 4 (drop 1 s)) in
    low_bits 4 (slice_index (slice_index_or boxes k []) (16 * row + column))

-- what the eight boxes put for 48 bits, each for six of them
unfoldable pub selected_by_all : List ℕ → List ℕ
selected_by_all s = flat_map (λ k. selected k (block_at 6 s k)) (range_with_len 0 8)

-- the cipher function f: P(S(E(R) xor K))
unfoldable pub cipher_function : List ℕ → List ℕ → List ℕ
cipher_function r k = permuted permutation (selected_by_all (sum_of_bits 48 (permuted expansion r) k))

-- a round of a cipher on 64 bits, the halves L and R, by a function f of R and a round key: R, and L xor f(R, K)
unfoldable pub round : (List ℕ → List ℕ → List ℕ) → List ℕ → List ℕ → List ℕ
round f k s = drop 32 s ++ sum_of_bits 32 (take 32 s) (f (drop 32 s) k)

-- a round for each of these round keys, in their order
unfoldable pub rounds : (List ℕ → List ℕ → List ℕ) → List (List ℕ) → List ℕ → List ℕ
rounds f [] s = s
rounds f (k ∷ keys) s = rounds f keys (round f k s)

-- the halves exchanged
unfoldable pub exchanged : List ℕ → List ℕ
exchanged s = drop 32 s ++ take 32 s

-- the rounds and the exchange after them
abbrev pub network : (List ℕ → List ℕ → List ℕ) → List (List ℕ) → List ℕ → List ℕ
network f keys s = exchanged (rounds f keys s)

-- a string of bits shifted by n places to the left, those that leave it coming in at its end
unfoldable pub turned : ℕ → List ℕ → List ℕ
turned n s = drop n s ++ take n s

-- the round keys that these shifts make of the two halves of a key
unfoldable pub keys_by_shifts : List ℕ → List ℕ → List ℕ → List (List ℕ)
keys_by_shifts [] c d = []
keys_by_shifts (n ∷ shifts) c d = permuted permuted_choice_2 (turned n c ++ turned n d) ∷ keys_by_shifts shifts (turned n c) (turned n d)

-- the sixteen round keys, of 48 bits, that a key of eight bytes makes
unfoldable pub round_keys : List ℕ → List (List ℕ)
round_keys key =
    let chosen = permuted permuted_choice_1 (bits_of_bytes key) in
    keys_by_shifts left_shifts (take 28 chosen) (drop 28 chosen)

-- the cipher of a block of eight bytes by round keys, in their order
unfoldable pub cipher_by : List (List ℕ) → List ℕ → List ℕ
cipher_by keys block =
    bytes_of_bits (permuted final_permutation (network cipher_function keys (permuted initial_permutation (bits_of_bytes block))))

-- DES of a block under a key of eight bytes, and what undoes it: the round keys in reverse order
unfoldable pub des_cipher : List ℕ → List ℕ → List ℕ
des_cipher key block = cipher_by (round_keys key) block

unfoldable pub des_inverse : List ℕ → List ℕ → List ℕ
des_inverse key block = cipher_by (reverse (round_keys key)) block

-- the keys K1, K2 and K3 of a key of 24 bytes, counted from 0
abbrev pub part : List ℕ → ℕ → List ℕ
part key i = block_at 8 key i

-- triple DES of a block under a key of 24 bytes: E_K3(D_K2(E_K1(block))) (FIPS 46-3)
unfoldable pub triple_des_cipher : List ℕ → List ℕ → List ℕ
triple_des_cipher key block = des_cipher (part key 2) (des_inverse (part key 1) (des_cipher (part key 0) block))

-- the inverse of triple DES of a block under a key of 24 bytes: D_K1(E_K2(D_K3(block))) (FIPS 46-3)
unfoldable pub triple_des_inverse : List ℕ → List ℕ → List ℕ
triple_des_inverse key block = des_inverse (part key 0) (des_cipher (part key 1) (des_inverse (part key 2) block))
