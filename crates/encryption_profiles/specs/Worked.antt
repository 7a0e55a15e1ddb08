-- Worked values of the suite of triple DES.
use Rattle.std.specs.Prelude.{◌≡◌, [], ◌∷◌, refl}
use Rattle.block_ciphers.specs.Bytes.{sum_of_bytes}
use Rattle.encryption_profiles.specs.NFold.{copied_bit, first_factor, folded, n_fold_of, number_at, sum_of_numbers}
use Rattle.encryption_profiles.specs.Derivation.{derived_octets_of, iterated_ciphers}
use Rattle.block_ciphers.specs.Bits.{bits_of_bytes, bytes_of_bits, low_bits, number, permuted}
use Rattle.block_ciphers.specs.Des.{cipher_by, cipher_function, des_cipher, des_inverse, exchanged, keys_by_shifts, round, round_keys, rounds, selected, selected_by_all, triple_des_cipher, turned}
use Rattle.block_ciphers.specs.Seeds.{is_weak, mended, random_to_key, stretched, stretching, weak_keys, with_odd_parity}
use Rattle.block_ciphers.specs.Tables.{box_1, box_2, box_3, box_4, box_5, box_6, box_7, box_8, boxes, expansion, final_permutation, initial_permutation, left_shifts, permutation, permuted_choice_1, permuted_choice_2}
use Rattle.encryption_profiles.specs.Des3Derivation.{des3_derived_key_of}

-- the first derived key of RFC 3961, appendix A.3
pub worked_key :
    des3_derived_key_of
    (0xdc ∷ 0xe0 ∷ 0x6b ∷ 0x1f ∷ 0x64 ∷ 0xc8 ∷ 0x57 ∷ 0xa1 ∷ 0x1c ∷ 0x3d ∷ 0xb5 ∷ 0x7c ∷ 0x51 ∷ 0x89 ∷ 0x9b ∷ 0x2c ∷ 0xc1 ∷ 0x79 ∷ 0x10 ∷ 0x08 ∷ 0xce ∷ 0x97 ∷ 0x3b ∷ 0x92 ∷ [])
    (0x00 ∷ 0x00 ∷ 0x00 ∷ 0x01 ∷ 0x55 ∷ [])
    ≡ 0x92 ∷ 0x51 ∷ 0x79 ∷ 0xd0 ∷ 0x45 ∷ 0x91 ∷ 0xa7 ∷ 0x9b ∷ 0x5d ∷ 0x31 ∷ 0x92 ∷ 0xc4 ∷ 0xa7 ∷ 0xe9 ∷ 0xc2 ∷ 0x89 ∷ 0xb0 ∷ 0x49 ∷ 0xc7 ∷ 0x1f ∷ 0x6e ∷ 0xe6 ∷ 0x04 ∷ 0xcd ∷ []
unfolding des3_derived_key_of derived_octets_of iterated_ciphers n_fold_of folded first_factor sum_of_numbers number_at copied_bit random_to_key mended is_weak weak_keys stretched stretching with_odd_parity triple_des_cipher number low_bits bits_of_bytes bytes_of_bits permuted sum_of_bytes selected selected_by_all cipher_function round rounds exchanged turned keys_by_shifts round_keys cipher_by des_cipher des_inverse initial_permutation final_permutation expansion permutation permuted_choice_1 permuted_choice_2 left_shifts boxes box_1 box_2 box_3 box_4 box_5 box_6 box_7 box_8
worked_key = refl
