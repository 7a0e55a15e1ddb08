-- PBKDF2 (RFC 8018, section 5.2), over any pseudorandom function
use Rattle.std.specs.Prelude.{◌≡◌, ℕ, zero, suc, ◌-◌, List, [], ◌∷◌, ◌++◌, length, map, take, bit_xor, slice_index, codes, refl}
use Rattle.std.specs.List.{range_with_len}
use Rattle.sha1.specs.Sha1.{compress, digest_bytes, first_words, hash_after, rounds, schedule, sha1}
use Rattle.encryption_profiles.specs.Hmac.{hmac_of, hmac_sha1_of, key_block}
use Rattle.std.specs.Int.{w32, div_ceil, to_be_bytes}

-- byte i is the xor of the two bytes i
unfoldable pub xor_of : List ℕ → List ℕ → List ℕ
xor_of xs ys = map (λ i. bit_xor (slice_index xs i) (slice_index ys i)) (range_with_len 0 (length xs))

-- f, n times
unfoldable pub iterate : (List ℕ → List ℕ) → ℕ → List ℕ → List ℕ
iterate f zero x = x
iterate f (suc n) x = f (iterate f n x)

-- the xor of x and its first n iterates
unfoldable pub sum_of_iterates : (List ℕ → List ℕ) → ℕ → List ℕ → List ℕ
sum_of_iterates f zero x = x
sum_of_iterates f (suc n) x = xor_of (sum_of_iterates f n x) (iterate f (suc n) x)

-- F, of a function that has the password: U_1 is of the salt and the block's number, as four bytes
unfoldable pub block_of : (List ℕ → List ℕ) → List ℕ → ℕ → ℕ → List ℕ
block_of mac salt rounds i = sum_of_iterates mac (rounds - 1) (mac (salt ++ to_be_bytes w32 i))

-- T_1 to T_n
unfoldable pub blocks_of : (List ℕ → List ℕ) → List ℕ → ℕ → ℕ → List ℕ
blocks_of mac salt rounds zero = []
blocks_of mac salt rounds (suc n) = blocks_of mac salt rounds n ++ block_of mac salt rounds (suc n)

-- the first len bytes of as many blocks of mac_len bytes as they need
unfoldable pub pbkdf2_of : (List ℕ → List ℕ → List ℕ) → ℕ → List ℕ → List ℕ → ℕ → ℕ → List ℕ
pbkdf2_of mac mac_len password salt rounds len =
    take len (blocks_of (mac password) salt rounds (div_ceil len mac_len))

-- PBKDF2 over HMAC-SHA1, whose codes have 20 bytes
abbrev pub pbkdf2_hmac_sha1_of : List ℕ → List ℕ → ℕ → ℕ → List ℕ
pbkdf2_hmac_sha1_of password salt rounds len = pbkdf2_of hmac_sha1_of 20 password salt rounds len

-- the second test case of RFC 6070: two rounds
pbkdf2_of-two_rounds : pbkdf2_hmac_sha1_of (codes "password") (codes "salt") 2 20
    ≡ 0xEA ∷ 0x6C ∷ 0x01 ∷ 0x4D ∷ 0xC7 ∷ 0x2D ∷ 0x6F ∷ 0x8C ∷ 0xCD ∷ 0x1E ∷ 0xD9 ∷ 0x2A ∷ 0xCE ∷ 0x1D ∷ 0x41 ∷ 0xF0 ∷ 0xD8 ∷ 0xDE ∷ 0x89 ∷ 0x57 ∷ []
unfolding pbkdf2_of blocks_of block_of sum_of_iterates iterate xor_of hmac_of key_block first_words schedule rounds compress hash_after digest_bytes sha1
pbkdf2_of-two_rounds = refl
