-- Lemmas on the counted digests, and how long a seed is.
use Rattle.std.proofs.Common.{◌≡◌, ℕ, ◌+◌, ◌≤◌, List, [], ◌++◌, refl, add-one, arith}
use Rattle.std.specs.Int.{div_ceil, to_be_bytes, w32}
use Rattle.krb_crypto.specs.Suites.{cipher_seed_bits}
use Rattle.krb_crypto.specs.declared.suite.CipherSuite.{CipherSuite}
use Rattle.krb_crypto.specs.declared.suite.CipherSuite.TheVariants.{Aes128CtsHmacSha196, Aes256CtsHmacSha196, Des3CbcSha1Kd, Aes128CtsHmacSha256128, Aes256CtsHmacSha384192}
use Rattle.pkinit_messages.specs.Kdfs.{counted_digests}

pub counted_digests-none : (hash : List ℕ → List ℕ) (x : List ℕ) → [] ≡ counted_digests hash x 0
unfolding counted_digests
counted_digests-none hash x = refl

pub counted_digests-more : (hash : List ℕ → List ℕ) (x : List ℕ) (n : ℕ) → counted_digests hash x (n + 1) ≡ counted_digests hash x n ++ hash (to_be_bytes w32 (n + 1) ++ x)
unfolding counted_digests
counted_digests-more hash x n = rw add-one refl

-- a suite's seed has few octets
pub seed_small : (suite : CipherSuite) → div_ceil (cipher_seed_bits suite) 8 ≤ 5120
seed_small Aes128CtsHmacSha196 = omega arith
seed_small Aes256CtsHmacSha196 = omega arith
seed_small Des3CbcSha1Kd = omega arith
seed_small Aes128CtsHmacSha256128 = omega arith
seed_small Aes256CtsHmacSha384192 = omega arith
