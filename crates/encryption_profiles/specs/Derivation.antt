-- Keys that are derived from keys (RFC 3961, sections 5.1 and 5.3).
use Rattle.std.specs.Prelude.{ℕ, zero, suc, ◌*◌, List, [], ◌∷◌, ◌++◌, take}
use Rattle.std.specs.Int.{w32, div_ceil, to_be_bytes}
use Rattle.encryption_profiles.specs.NFold.{n_fold_of}

-- the cipher of x, the cipher of that cipher and so on, n of them (RFC 3961, section 5.1)
unfoldable pub iterated_ciphers : (List ℕ → List ℕ) → List ℕ → ℕ → List ℕ
iterated_ciphers E x zero = []
iterated_ciphers E x (suc n) = E x ++ iterated_ciphers E (E x) n

-- DR is the first `seed` bytes of the iterated ciphers of the n-folded constant, where E enciphers blocks of `size` bytes. Triple DES
-- has a seed of 21 bytes, and blocks of eight (RFC 3961, sections 5.1 and 6.3). Test: `des3-derive` of `standards.txt`.
-- DR of AES has as many bytes as the key, and blocks of 16 (RFC 3961, section 5.1; RFC 3962, section 6). Test: `seal 17`, `seal 18` of
-- `standards.txt`.
unfoldable pub derived_octets_of : (List ℕ → List ℕ) → ℕ → ℕ → List ℕ → List ℕ
derived_octets_of E size seed constant = take seed (iterated_ciphers E (n_fold_of constant (8 * size)) (div_ceil seed size))

-- A key of a usage is derived from the usage as four bytes, and a byte for the kind of key (RFC 3961, section 5.3). Test:
-- `usages` of `digests.rt`.
unfoldable pub usage_constant : ℕ → ℕ → List ℕ
usage_constant usage kind = to_be_bytes w32 usage ++ kind ∷ []
