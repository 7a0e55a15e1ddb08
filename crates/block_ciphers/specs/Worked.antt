-- Worked values of FIPS 197.
use Rattle.std.specs.Prelude.{◌≡◌, [], ◌∷◌, refl}
use Rattle.block_ciphers.specs.Field.{field_product, product_below, remainder, inverse, inverse_below, of_bits, affine, sub_byte, inv_affine, inv_sub_byte}
use Rattle.block_ciphers.specs.Bytes.{sum_of_bytes}
use Rattle.block_ciphers.specs.Aes.{sub_bytes, shift_rows, column_product, multiply_columns, x_power, turned_word, next_word, expansion, key_schedule, rounds, cipher, aes_cipher}

-- {57} * {83} = {c1} (section 4.2)
pub product_57_83 : field_product 0x57 0x83 ≡ 0xc1
unfolding field_product product_below remainder
product_57_83 = refl

-- {53} is replaced by {ed} (section 5.1.1)
pub sub_byte_53 : sub_byte 0x53 ≡ 0xed
unfolding field_product product_below remainder inverse inverse_below of_bits affine sub_byte
sub_byte_53 = refl

pub inv_sub_byte_ed : inv_sub_byte 0xed ≡ 0x53
unfolding field_product product_below remainder inverse inverse_below of_bits inv_affine inv_sub_byte
inv_sub_byte_ed = refl

-- AES-128, appendix C.1
pub appendix_c1 :
    aes_cipher (0x00 ∷ 0x01 ∷ 0x02 ∷ 0x03 ∷ 0x04 ∷ 0x05 ∷ 0x06 ∷ 0x07 ∷ 0x08 ∷ 0x09 ∷ 0x0a ∷ 0x0b ∷ 0x0c ∷ 0x0d ∷ 0x0e ∷ 0x0f ∷ []) (0x00 ∷ 0x11 ∷ 0x22 ∷ 0x33 ∷ 0x44 ∷ 0x55 ∷ 0x66 ∷ 0x77 ∷ 0x88 ∷ 0x99 ∷ 0xaa ∷ 0xbb ∷ 0xcc ∷ 0xdd ∷ 0xee ∷ 0xff ∷ [])
    ≡ 0x69 ∷ 0xc4 ∷ 0xe0 ∷ 0xd8 ∷ 0x6a ∷ 0x7b ∷ 0x04 ∷ 0x30 ∷ 0xd8 ∷ 0xcd ∷ 0xb7 ∷ 0x80 ∷ 0x70 ∷ 0xb4 ∷ 0xc5 ∷ 0x5a ∷ []
unfolding field_product product_below remainder inverse inverse_below of_bits affine sub_byte sum_of_bytes sub_bytes shift_rows column_product multiply_columns x_power turned_word next_word expansion key_schedule rounds cipher aes_cipher
appendix_c1 = refl
