-- Worked values of DES.
use Rattle.std.specs.Prelude.{◌≡◌, ◌==◌, ◌-◌, ◌*◌, ◌%◌, ℕ, zero, suc, Bool, true, ◌&&◌, List, [], ◌∷◌, take, drop, map, count_by, refl, if◌then◌else◌}
use Rattle.std.specs.List.{list_all, range_with_len}
use Rattle.block_ciphers.specs.Bytes.{sum_of_bytes}
use Rattle.block_ciphers.specs.Bits.{number, low_bits, bits_of_bytes, bytes_of_bits, permuted}
use Rattle.block_ciphers.specs.Tables.{initial_permutation, final_permutation, expansion, permutation, permuted_choice_1, permuted_choice_2, left_shifts, boxes, box_1, box_2, box_3, box_4, box_5, box_6, box_7, box_8}
use Rattle.block_ciphers.specs.Des.{selected, selected_by_all, cipher_function, round, rounds, exchanged, turned, keys_by_shifts, round_keys, cipher_by, des_cipher, des_inverse, triple_des_cipher}
use Rattle.block_ciphers.specs.Seeds.{stretching, with_odd_parity, stretched, weak_keys, is_weak, mended, random_to_key}

-- key 133457799BBCDFF1, block 0123456789ABCDEF
pub worked_block : des_cipher (0x13 ∷ 0x34 ∷ 0x57 ∷ 0x79 ∷ 0x9B ∷ 0xBC ∷ 0xDF ∷ 0xF1 ∷ []) (0x01 ∷ 0x23 ∷ 0x45 ∷ 0x67 ∷ 0x89 ∷ 0xAB ∷ 0xCD ∷ 0xEF ∷ []) ≡ 0x85 ∷ 0xE8 ∷ 0x13 ∷ 0x54 ∷ 0x0F ∷ 0x0A ∷ 0xB4 ∷ 0x05 ∷ []
unfolding number low_bits bits_of_bytes bytes_of_bits permuted sum_of_bytes selected selected_by_all cipher_function round rounds exchanged turned keys_by_shifts round_keys cipher_by des_cipher des_inverse initial_permutation final_permutation expansion permutation permuted_choice_1 permuted_choice_2 left_shifts boxes box_1 box_2 box_3 box_4 box_5 box_6 box_7 box_8
worked_block = refl

-- x_0 to x_16, where x_(i+1) is x_i enciphered under x_i if i is even, and deciphered under it if i is odd
unfoldable pub step : ℕ → List ℕ → List ℕ
step zero x = x
step (suc i) x = let y = step i x in if i % 2 == 0 then des_cipher y y else des_inverse y y

-- the sixteen steps that a fault in any number of the tables changes (R. Rivest, Testing Implementations of DES)
pub sixteen_steps : step 16 (0x94 ∷ 0x74 ∷ 0xB8 ∷ 0xE8 ∷ 0xC7 ∷ 0x3B ∷ 0xCA ∷ 0x7D ∷ []) ≡ 0x1B ∷ 0x1A ∷ 0x2D ∷ 0xDB ∷ 0x4C ∷ 0x64 ∷ 0x24 ∷ 0x38 ∷ []
unfolding step number low_bits bits_of_bytes bytes_of_bits permuted sum_of_bytes selected selected_by_all cipher_function round rounds exchanged turned keys_by_shifts round_keys cipher_by des_cipher des_inverse initial_permutation final_permutation expansion permutation permuted_choice_1 permuted_choice_2 left_shifts boxes box_1 box_2 box_3 box_4 box_5 box_6 box_7 box_8
sixteen_steps = refl

-- triple DES (NIST SP 800-67, appendix B)
pub worked_triple :
    triple_des_cipher (0x01 ∷ 0x23 ∷ 0x45 ∷ 0x67 ∷ 0x89 ∷ 0xab ∷ 0xcd ∷ 0xef ∷ 0x23 ∷ 0x45 ∷ 0x67 ∷ 0x89 ∷ 0xab ∷ 0xcd ∷ 0xef ∷ 0x01 ∷ 0x45 ∷ 0x67 ∷ 0x89 ∷ 0xab ∷ 0xcd ∷ 0xef ∷ 0x01 ∷ 0x23 ∷ []) (0x54 ∷ 0x68 ∷ 0x65 ∷ 0x20 ∷ 0x71 ∷ 0x75 ∷ 0x66 ∷ 0x63 ∷ [])
    ≡ 0xa8 ∷ 0x26 ∷ 0xfd ∷ 0x8c ∷ 0xe5 ∷ 0x3b ∷ 0x85 ∷ 0x5f ∷ []
unfolding triple_des_cipher number low_bits bits_of_bytes bytes_of_bits permuted sum_of_bytes selected selected_by_all cipher_function round rounds exchanged turned keys_by_shifts round_keys cipher_by des_cipher des_inverse initial_permutation final_permutation expansion permutation permuted_choice_1 permuted_choice_2 left_shifts boxes box_1 box_2 box_3 box_4 box_5 box_6 box_7 box_8
worked_triple = refl

-- a key from random bytes (RFC 3961, appendix A.3)
pub worked_seed :
    random_to_key (0x93 ∷ 0x50 ∷ 0x79 ∷ 0xd1 ∷ 0x44 ∷ 0x90 ∷ 0xa7 ∷ 0x5c ∷ 0x30 ∷ 0x93 ∷ 0xc4 ∷ 0xa6 ∷ 0xe8 ∷ 0xc3 ∷ 0xb0 ∷ 0x49 ∷ 0xc7 ∷ 0x1e ∷ 0x6e ∷ 0xe7 ∷ 0x05 ∷ [])
    ≡ 0x92 ∷ 0x51 ∷ 0x79 ∷ 0xd0 ∷ 0x45 ∷ 0x91 ∷ 0xa7 ∷ 0x9b ∷ 0x5d ∷ 0x31 ∷ 0x92 ∷ 0xc4 ∷ 0xa7 ∷ 0xe9 ∷ 0xc2 ∷ 0x89 ∷ 0xb0 ∷ 0x49 ∷ 0xc7 ∷ 0x1f ∷ 0x6e ∷ 0xe6 ∷ 0x04 ∷ 0xcd ∷ []
unfolding random_to_key mended is_weak weak_keys stretched stretching with_odd_parity permuted bits_of_bytes number low_bits
worked_seed = refl

-- weak keys mended
pub worked_weak_seed :
    random_to_key (0x00 ∷ 0x00 ∷ 0x00 ∷ 0x00 ∷ 0x00 ∷ 0x00 ∷ 0x00 ∷ 0x00 ∷ 0x00 ∷ 0x00 ∷ 0x00 ∷ 0x00 ∷ 0x00 ∷ 0x00 ∷ 0x00 ∷ 0x00 ∷ 0x00 ∷ 0x00 ∷ 0x00 ∷ 0x00 ∷ 0x00 ∷ [])
    ≡ 0x01 ∷ 0x01 ∷ 0x01 ∷ 0x01 ∷ 0x01 ∷ 0x01 ∷ 0x01 ∷ 0xf1 ∷ 0x01 ∷ 0x01 ∷ 0x01 ∷ 0x01 ∷ 0x01 ∷ 0x01 ∷ 0x01 ∷ 0xf1 ∷ 0x01 ∷ 0x01 ∷ 0x01 ∷ 0x01 ∷ 0x01 ∷ 0x01 ∷ 0x01 ∷ 0xf1 ∷ []
unfolding random_to_key mended is_weak weak_keys stretched stretching with_odd_parity permuted bits_of_bytes number low_bits
worked_weak_seed = refl

-- whether a list holds each number below n once
unfoldable pub once_below : ℕ → List ℕ → Bool
once_below n s = list_all (λ i. count_by (λ x. x == i) s == 1) (range_with_len 0 n)

-- each row of each box holds 0 to 15 once
pub rows_of_boxes : list_all (λ box. list_all (λ row. once_below 16 (take 16 (drop (16 * row) box))) (range_with_len 0 4)) boxes ≡ true
unfolding once_below boxes box_1 box_2 box_3 box_4 box_5 box_6 box_7 box_8
rows_of_boxes = refl

-- IP holds each of 64 places once, and P each of 32
pub places_of_permutations : (once_below 64 (map (λ place. place - 1) initial_permutation) && once_below 32 (map (λ place. place - 1) permutation)) ≡ true
unfolding once_below initial_permutation permutation
places_of_permutations = refl
