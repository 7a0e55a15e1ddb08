-- The seeds of keys.
use Rattle.std.proofs.Common.{◌≤◌, lit≤}
use Rattle.krb_crypto.specs.Suites.{cipher_seed_size}
use Rattle.krb_crypto.specs.declared.suite.CipherSuite.{CipherSuite}
use Rattle.krb_crypto.specs.declared.suite.CipherSuite.TheVariants.{Aes128CtsHmacSha196, Aes256CtsHmacSha196, Des3CbcSha1Kd, Aes128CtsHmacSha256128, Aes256CtsHmacSha384192}

-- no suite's seed has more than 32 octets
pub seed_room : (suite : CipherSuite) → cipher_seed_size suite ≤ 32
seed_room Aes128CtsHmacSha196 = lit≤ tt
seed_room Aes256CtsHmacSha196 = lit≤ tt
seed_room Des3CbcSha1Kd = lit≤ tt
seed_room Aes128CtsHmacSha256128 = lit≤ tt
seed_room Aes256CtsHmacSha384192 = lit≤ tt
