-- The hash of a key, in the format cdb.
use Rattle.std.specs.Prelude.{◌≡◌, ℕ, ◌*◌, ◌%◌, ◌^◌, List, [], ◌∷◌, bit_xor, codes, refl}
use Rattle.cdb.specs.declared.format.TheConstants.{HASH_START}

-- The hash of further octets: each is joined by exclusive or to 33 times the hash so far, modulo 2^32.
abbrev pub hash_from : ℕ → List ℕ → ℕ
hash_from hash [] = hash
hash_from hash (byte ∷ bytes) = hash_from (bit_xor ((hash * 33) % 2 ^ 32) byte) bytes

-- The hash of a key. It starts as 5381.
unfoldable pub hash_of : List ℕ → ℕ
hash_of = hash_from HASH_START

no_byte : hash_of [] ≡ 5381
unfolding hash_of
no_byte = refl

one_byte : hash_of (codes "a") ≡ 177604
unfolding hash_of
one_byte = refl
