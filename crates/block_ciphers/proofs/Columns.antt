-- What tables of words make of a column, and words read from four bytes.
use Rattle.std.proofs.Common.{◌≡◌, ◌<◌, ◌+◌, ◌-◌, ◌%◌, ℕ, List, [], ◌∷◌, get_or, map, slice_index, bit_xor, sym, ap, ◌∙◌}
use Rattle.std.specs.Int.{w32, to_be_bytes}
use Rattle.std.specs.Int.Bits.{xor_assoc}
use Rattle.std.proofs.lemmas.Nat.{xor_comm}
use Rattle.std.proofs.lemmas.List.{ext_get_or}
use Rattle.block_ciphers.specs.Field.{field_product, sub_byte, inv_sub_byte}
use Rattle.block_ciphers.specs.Bytes.{sum_of_bytes}
use Rattle.block_ciphers.specs.Aes.{column_product, mixing, unmixing}
use Rattle.block_ciphers.specs.declared.aes.mixing.TheConstants.{MIXED_0, MIXED_1, MIXED_2, MIXED_3, UNMIXED_0, UNMIXED_1, UNMIXED_2, UNMIXED_3}
use Rattle.block_ciphers.proofs.Tables.{mixed_0, mixed_1, mixed_2, mixed_3, unmixed_0, unmixed_1, unmixed_2, unmixed_3, inv_sub_byte-sub_byte}
use Rattle.block_ciphers.proofs.States.{length-sum_of_bytes, get_or-sum_of_bytes}
use Rattle.block_ciphers.proofs.Inverses.{at_place, length-column_product}
use Rattle.block_ciphers.proofs.Blocks.{sum_of_bytes-zeros}
use Rattle.block_ciphers.proofs.WordBytes.{byte_in_sum}

-- the key, which the code adds first, added last
key_last : (k a b c d : ℕ) → bit_xor (bit_xor (bit_xor (bit_xor k a) b) c) d ≡ bit_xor (bit_xor (bit_xor (bit_xor a b) c) d) k
key_last k a b c d =
    rw (xor_assoc k a b, xor_assoc k (bit_xor a b) c, xor_assoc k (bit_xor (bit_xor a b) c) d) (xor_comm k (bit_xor (bit_xor (bit_xor a b) c) d))

-- the word m holds what x makes in place j of a product with p
abbrev IsPart : List ℕ → ℕ → ℕ → ℕ → Type 0
IsPart p j x m = (r : ℕ) → r < 4 → get_or (to_be_bytes w32 m) r 0 ≡ field_product (slice_index p ((r + 4 - j) % 4)) x

-- the parts of four bytes and a key add up to the product and the key
product_word :
    (p s : List ℕ) (k m0 m1 m2 m3 : ℕ) → IsPart p 0 (slice_index s 0) m0 → IsPart p 1 (slice_index s 1) m1 → IsPart p 2 (slice_index s 2) m2 → IsPart p 3 (slice_index s 3) m3
    → to_be_bytes w32 (bit_xor (bit_xor (bit_xor (bit_xor k m0) m1) m2) m3) ≡ sum_of_bytes 4 (column_product p s) (to_be_bytes w32 k)
product_word p s k m0 m1 m2 m3 h0 h1 h2 h3 =
    ext_get_or 0 (to_be_bytes w32 (bit_xor (bit_xor (bit_xor (bit_xor k m0) m1) m2) m3)) (sum_of_bytes 4 (column_product p s) (to_be_bytes w32 k))
    (sym (length-sum_of_bytes 4 (column_product p s) (to_be_bytes w32 k)))
    (λ r h.
    let at = λ (w : ℕ). get_or (to_be_bytes w32 w) r 0 in
    let apart : at (bit_xor (bit_xor (bit_xor (bit_xor k m0) m1) m2) m3) ≡ bit_xor (bit_xor (bit_xor (bit_xor (at k) (at m0)) (at m1)) (at m2)) (at m3) =
    byte_in_sum (bit_xor (bit_xor (bit_xor k m0) m1) m2) m3 r h
    ∙ ap (λ (x : ℕ). bit_xor x (at m3)) (byte_in_sum (bit_xor (bit_xor k m0) m1) m2 r h)
    ∙ ap (λ (x : ℕ). bit_xor (bit_xor x (at m2)) (at m3)) (byte_in_sum (bit_xor k m0) m1 r h)
    ∙ ap (λ (x : ℕ). bit_xor (bit_xor (bit_xor x (at m1)) (at m2)) (at m3)) (byte_in_sum k m0 r h) in
    apart ∙ key_last (at k) (at m0) (at m1) (at m2) (at m3)
    ∙ rw (h0 r h, h1 r h, h2 r h, h3 r h) (sym (get_or-sum_of_bytes 4 (column_product p s) (to_be_bytes w32 k) r h ∙ ap (λ (x : ℕ). bit_xor x (at k)) (at_place p s r h))))

-- a mixed and an unmixed column, as the code adds them up
module _ (k a b c d : ℕ) (ha : a < 256) (hb : b < 256) (hc : c < 256) (hd : d < 256) where
  pub mixed_column :
      to_be_bytes w32 (bit_xor (bit_xor (bit_xor (bit_xor k (slice_index MIXED_0 a)) (slice_index MIXED_1 b)) (slice_index MIXED_2 c)) (slice_index MIXED_3 d))
      ≡ sum_of_bytes 4 (column_product mixing (map sub_byte (a ∷ b ∷ c ∷ d ∷ []))) (to_be_bytes w32 k)
  mixed_column =
      product_word mixing (map sub_byte (a ∷ b ∷ c ∷ d ∷ [])) k (slice_index MIXED_0 a) (slice_index MIXED_1 b) (slice_index MIXED_2 c) (slice_index MIXED_3 d)
      (λ r h. mixed_0 r a h ha) (λ r h. mixed_1 r b h hb) (λ r h. mixed_2 r c h hc) (λ r h. mixed_3 r d h hd)

  pub unmixed_column :
      to_be_bytes w32 (bit_xor (bit_xor (bit_xor (bit_xor k (slice_index UNMIXED_0 a)) (slice_index UNMIXED_1 b)) (slice_index UNMIXED_2 c)) (slice_index UNMIXED_3 d))
      ≡ sum_of_bytes 4 (column_product unmixing (map inv_sub_byte (a ∷ b ∷ c ∷ d ∷ []))) (to_be_bytes w32 k)
  unmixed_column =
      product_word unmixing (map inv_sub_byte (a ∷ b ∷ c ∷ d ∷ [])) k (slice_index UNMIXED_0 a) (slice_index UNMIXED_1 b) (slice_index UNMIXED_2 c) (slice_index UNMIXED_3 d)
      (λ r h. unmixed_0 r a h ha) (λ r h. unmixed_1 r b h hb) (λ r h. unmixed_2 r c h hc) (λ r h. unmixed_3 r d h hd)

  -- a column substituted before it is unmixed is unmixed alone
  pub unmixed_alone :
      sum_of_bytes 4 (column_product unmixing (map inv_sub_byte (sub_byte a ∷ sub_byte b ∷ sub_byte c ∷ sub_byte d ∷ []))) (to_be_bytes w32 0)
      ≡ column_product unmixing (a ∷ b ∷ c ∷ d ∷ [])
  unmixed_alone =
      rw (inv_sub_byte-sub_byte a ha, inv_sub_byte-sub_byte b hb, inv_sub_byte-sub_byte c hc, inv_sub_byte-sub_byte d hd)
      (sum_of_bytes-zeros 4 (column_product unmixing (a ∷ b ∷ c ∷ d ∷ [])) (length-column_product unmixing (a ∷ b ∷ c ∷ d ∷ [])))
