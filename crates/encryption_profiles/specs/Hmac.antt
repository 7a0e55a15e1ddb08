-- HMAC (RFC 2104), over any hash function and its block size
use Rattle.std.specs.Prelude.{◌≡◌, ℕ, ◌-◌, nat_lt, List, [], ◌∷◌, ◌++◌, length, map, take, replicate, bit_xor, if◌then◌else◌, codes, refl}
use Rattle.sha1.specs.Sha1.{compress, digest_bytes, first_words, hash_after, rounds, schedule, sha1}

-- the first n of the bytes, padded with zeros if there are fewer
abbrev pub fitted : ℕ → List ℕ → List ℕ
fitted n bytes = take n bytes ++ replicate (n - length bytes) 0

-- the key as one block, padded with zeros; of a longer key, its digest (RFC 2104, section 2, step 1, and section 3)
unfoldable pub key_block : (List ℕ → List ℕ) → ℕ → List ℕ → List ℕ
key_block digest block key = fitted block (if nat_lt block (length key) then digest key else key)

-- each byte xored with one byte
abbrev pub xored_with : ℕ → List ℕ → List ℕ
xored_with pad bytes = map (λ b. bit_xor b pad) bytes

-- ipad is the byte 36, opad the byte 5C (RFC 2104, section 2)
unfoldable pub hmac_of : (List ℕ → List ℕ) → ℕ → List ℕ → List ℕ → List ℕ
hmac_of digest block key message =
    let k = key_block digest block key in
    digest (xored_with 0x5C k ++ digest (xored_with 0x36 k ++ message))

-- HMAC-SHA1, whose blocks have 64 bytes
abbrev pub hmac_sha1_of : List ℕ → List ℕ → List ℕ
hmac_sha1_of key message = hmac_of sha1 64 key message

-- the second test case of RFC 2202
hmac_of-jefe : hmac_sha1_of (codes "Jefe") (codes "what do ya want for nothing?")
    ≡ 0xEF ∷ 0xFC ∷ 0xDF ∷ 0x6A ∷ 0xE5 ∷ 0xEB ∷ 0x2F ∷ 0xA2 ∷ 0xD2 ∷ 0x74 ∷ 0x16 ∷ 0xD5 ∷ 0xF1 ∷ 0x84 ∷ 0xDF ∷ 0x9C ∷ 0x25 ∷ 0x9A ∷ 0x7C ∷ 0x79 ∷ []
unfolding hmac_of key_block first_words schedule rounds compress hash_after digest_bytes sha1
hmac_of-jefe = refl
