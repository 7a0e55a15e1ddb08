-- The acceptor's subkey is of the random bytes as they are, for each suite that isn't refused.
use Rattle.std.proofs.Common.{◌≡◌, ◌+◌, ◌≤◌, ◌-◌, ℕ, List, Bool, true, length, take, drop, refl, arith}
use Rattle.std.proofs.lemmas.List.{length-drop, length-take-le}
use Rattle.krb_crypto.specs.Suites.{cipher_key_size}
use Rattle.krb_crypto.specs.declared.suite.CipherSuite.{CipherSuite}
use Rattle.krb_crypto.specs.declared.suite.CipherSuite.TheVariants.{Aes128CtsHmacSha196, Aes256CtsHmacSha196, Des3CbcSha1Kd, Aes128CtsHmacSha256128, Aes256CtsHmacSha384192}
use Rattle.krb_service.specs.ApReply.{reply_subkey}
use Rattle.gss_contexts.specs.Contexts.{is_newer}

pub subkey_is : (suite : CipherSuite) (words : List ℕ) → is_newer suite ≡ true → take (cipher_key_size suite) (drop 32 words) ≡ reply_subkey suite words
subkey_is Aes128CtsHmacSha196 words e = refl
subkey_is Aes256CtsHmacSha196 words e = refl
subkey_is Des3CbcSha1Kd words e = absurd (cc (e))
subkey_is Aes128CtsHmacSha256128 words e = refl
subkey_is Aes256CtsHmacSha384192 words e = refl

pub key_small : (suite : CipherSuite) → cipher_key_size suite ≤ 32
key_small Aes128CtsHmacSha196 = omega arith
key_small Aes256CtsHmacSha196 = omega arith
key_small Des3CbcSha1Kd = omega arith
key_small Aes128CtsHmacSha256128 = omega arith
key_small Aes256CtsHmacSha384192 = omega arith
