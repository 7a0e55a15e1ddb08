-- The Advanced Encryption Standard (FIPS 197) on blocks of 16 bytes, under keys of 16 or 32 bytes.
use Rattle.std.specs.Prelude.{◌≡◌, ◌==◌, ◌⊎◌, ℕ, ◌+◌, ◌-◌, ◌*◌, ◌/◌, ◌%◌, zero, suc, ◌&&◌, List, [], ◌∷◌, ◌++◌, length, map, take, drop, slice_index, bit_xor, nat_lt, if◌then◌else◌}
use Rattle.std.specs.List.{range_with_len}
use Rattle.block_ciphers.specs.Bytes.{sum_of_bytes}
use Rattle.block_ciphers.specs.Field.{field_product, sub_byte, inv_sub_byte}

-- the byte in row r and column c of a state (FIPS 197, section 3.4): byte r + 4c of the block
abbrev pub entry : List ℕ → ℕ → ℕ → ℕ
entry s r c = slice_index s (r + 4 * c)

-- the state with f r c in row r and column c
abbrev pub state_of : (ℕ → ℕ → ℕ) → List ℕ
state_of f = map (λ k. f (k % 4) (k / 4)) (range_with_len 0 16)

-- SubBytes (FIPS 197, section 5.1.1)
unfoldable pub sub_bytes : List ℕ → List ℕ
sub_bytes s = state_of (λ r c. sub_byte (entry s r c))

-- ShiftRows (FIPS 197, section 5.1.2): row r is rotated left by r places
unfoldable pub shift_rows : List ℕ → List ℕ
shift_rows s = state_of (λ r c. entry s r ((c + r) % 4))

abbrev pub sum_of_four : (ℕ → ℕ) → ℕ
sum_of_four f = bit_xor (bit_xor (bit_xor (f 0) (f 1)) (f 2)) (f 3)

-- coefficient r of the product of two polynomials modulo x^4 + 1, given by their coefficients (FIPS 197, section 4.3)
abbrev pub coefficient : List ℕ → List ℕ → ℕ → ℕ
coefficient a b r = sum_of_four (λ j. field_product (slice_index a ((r + 4 - j) % 4)) (slice_index b j))

-- that product
unfoldable pub column_product : List ℕ → List ℕ → List ℕ
column_product a b = map (λ r. coefficient a b r) (range_with_len 0 4)

-- the column c of a state
abbrev pub column : List ℕ → ℕ → List ℕ
column s c = map (λ r. entry s r c) (range_with_len 0 4)

-- 03 x^3 + 01 x^2 + 01 x + 02 (FIPS 197, section 5.1.3)
abbrev pub mixing : List ℕ
mixing = 2 ∷ 1 ∷ 1 ∷ 3 ∷ []

-- each column times the polynomial a
unfoldable pub multiply_columns : List ℕ → List ℕ → List ℕ
multiply_columns a s = state_of (λ r c. slice_index (column_product a (column s c)) r)

-- MixColumns (FIPS 197, section 5.1.3)
abbrev pub mix_columns : List ℕ → List ℕ
mix_columns s = multiply_columns mixing s

-- InvSubBytes (FIPS 197, section 5.3.2)
unfoldable pub inv_sub_bytes : List ℕ → List ℕ
inv_sub_bytes s = state_of (λ r c. inv_sub_byte (entry s r c))

-- InvShiftRows (FIPS 197, section 5.3.1): row r is rotated right by r places
unfoldable pub inv_shift_rows : List ℕ → List ℕ
inv_shift_rows s = state_of (λ r c. entry s r ((c + (4 - r)) % 4))

-- 0b x^3 + 0d x^2 + 09 x + 0e (FIPS 197, section 5.3.3)
abbrev pub unmixing : List ℕ
unmixing = 14 ∷ 9 ∷ 13 ∷ 11 ∷ []

-- InvMixColumns (FIPS 197, section 5.3.3)
abbrev pub inv_mix_columns : List ℕ → List ℕ
inv_mix_columns s = multiply_columns unmixing s

-- word i of a string of four-byte words (FIPS 197, section 3.5)
abbrev pub word : List ℕ → ℕ → List ℕ
word w i = take 4 (drop (4 * i) w)

-- a word's bytes replaced; a word rotated (FIPS 197, section 5.2)
abbrev pub sub_word : List ℕ → List ℕ
sub_word w = map sub_byte w

abbrev pub rot_word : List ℕ → List ℕ
rot_word w = drop 1 w ++ take 1 w

-- x to the power n
unfoldable pub x_power : ℕ → ℕ
x_power zero = 1
x_power (suc n) = field_product 2 (x_power n)

-- the round constant Rcon[i], for i from 1 (FIPS 197, section 5.2)
abbrev pub round_constant : ℕ → List ℕ
round_constant i = x_power (i - 1) ∷ 0 ∷ 0 ∷ 0 ∷ []

-- what is added to word i - nk to make word i, from word i - 1, where the key has nk words
unfoldable pub turned_word : ℕ → ℕ → List ℕ → List ℕ
turned_word nk i previous =
    if i % nk == 0 then sum_of_bytes 4 (sub_word (rot_word previous)) (round_constant (i / nk))
    else (if nat_lt 6 nk && i % nk == 4 then sub_word previous else previous)

-- word i of the expanded key, from the words before it
unfoldable pub next_word : ℕ → ℕ → List ℕ → List ℕ
next_word nk i w = sum_of_bytes 4 (word w (i - nk)) (turned_word nk i (word w (i - 1)))

-- the key and the next n words of its expansion (FIPS 197, section 5.2)
unfoldable pub expansion : List ℕ → ℕ → List ℕ
expansion key zero = key
expansion key (suc n) = let w = expansion key n in w ++ next_word (length key / 4) (length key / 4 + n) w

-- the number of rounds: 10 or 14 (FIPS 197, section 5)
abbrev pub round_count : List ℕ → ℕ
round_count key = length key / 4 + 6

-- the key schedule, four words for each round and four before the first (FIPS 197, section 5.2)
unfoldable pub key_schedule : List ℕ → List ℕ
key_schedule key = expansion key (4 * (round_count key + 1) - length key / 4)

-- the round key of this number: four words of the key schedule (FIPS 197, section 5.2)
abbrev pub round_key : List ℕ → ℕ → List ℕ
round_key w n = take 16 (drop (16 * n) w)

-- AddRoundKey (FIPS 197, section 5.1.4)
abbrev pub add_round_key : List ℕ → List ℕ → List ℕ
add_round_key s k = sum_of_bytes 16 s k

-- the state after the first n rounds that mix columns
unfoldable pub rounds : List ℕ → List ℕ → ℕ → List ℕ
rounds w s zero = add_round_key s (round_key w 0)
rounds w s (suc n) = add_round_key (mix_columns (shift_rows (sub_bytes (rounds w s n)))) (round_key w (suc n))

-- the cipher of n rounds under a key schedule (FIPS 197, section 5.1)
unfoldable pub cipher : List ℕ → ℕ → List ℕ → List ℕ
cipher w n s = add_round_key (shift_rows (sub_bytes (rounds w s (n - 1)))) (round_key w n)

-- the rounds undone, the last one first
unfoldable pub inv_rounds : List ℕ → List ℕ → ℕ → List ℕ
inv_rounds w s zero = add_round_key s (round_key w 0)
inv_rounds w s (suc n) = inv_rounds w (inv_sub_bytes (inv_shift_rows (inv_mix_columns (add_round_key s (round_key w (suc n)))))) n

-- the inverse cipher of n rounds (FIPS 197, section 5.3)
unfoldable pub inv_cipher : List ℕ → ℕ → List ℕ → List ℕ
inv_cipher w n s = inv_rounds w (inv_sub_bytes (inv_shift_rows (add_round_key s (round_key w n)))) (n - 1)

-- a key of AES-128 or AES-256
abbrev pub IsAesKey : List ℕ → Type 0
IsAesKey key = (length key ≡ 16) ⊎ (length key ≡ 32)

-- AES of a block under a key (FIPS 197, section 5.1)
unfoldable pub aes_cipher : List ℕ → List ℕ → List ℕ
aes_cipher key block = cipher (key_schedule key) (round_count key) block

-- the inverse cipher of AES of a block under a key (FIPS 197, section 5.3)
unfoldable pub aes_inverse : List ℕ → List ℕ → List ℕ
aes_inverse key block = inv_cipher (key_schedule key) (round_count key) block
