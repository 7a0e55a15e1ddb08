-- The key of a shared secret (RFC 4556, section 3.2.3.1)
use Rattle.std.specs.Prelude.{ℕ, zero, suc, List, [], ◌∷◌, ◌++◌, take}
use Rattle.std.specs.Int.{div_ceil}
use Rattle.sha1.specs.Sha1.{sha1}

-- SHA1(0x00 | x) | SHA1(0x01 | x) | SHA1(0x02 | x) | .., n of them
unfoldable pub numbered_digests : List ℕ → ℕ → List ℕ
numbered_digests x zero = []
numbered_digests x (suc n) = numbered_digests x n ++ sha1 (n ∷ x)

-- the first `len` octets of as many digests as they need
unfoldable pub seed_octets_of : ℕ → List ℕ → List ℕ
seed_octets_of len x = take len (numbered_digests x (div_ceil len 20))

-- octetstring2key is random-to-key of SHA1(00 | x), SHA1(01 | x), .., cut to the seed's bits, which are whole octets (RFC 4556,
-- section 3.2.3.1). Test: `agree` of `standards.txt`.
abbrev pub agreement_key_of : (List ℕ → List ℕ) → ℕ → List ℕ → List ℕ
agreement_key_of random_to_key seed_bits x = random_to_key (seed_octets_of (div_ceil seed_bits 8) x)
