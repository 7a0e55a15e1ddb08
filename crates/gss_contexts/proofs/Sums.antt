-- How many octets a checksum has.
use Rattle.std.proofs.Common.{◌≡◌, ◌≤◌, ℕ, List, length, sym, subst, arith}
use Rattle.krb_crypto.specs.Keys.{KeyRecord}
use Rattle.krb_crypto.specs.Sealing.{checksum_of}
use Rattle.krb_crypto.specs.Suites.{cipher_checksum, cipher_tag_size}
use Rattle.krb_crypto.specs.declared.suite.CipherSuite.{CipherSuite}
use Rattle.krb_crypto.specs.declared.suite.CipherSuite.TheVariants.{Aes128CtsHmacSha196, Aes256CtsHmacSha196, Des3CbcSha1Kd, Aes128CtsHmacSha256128, Aes256CtsHmacSha384192}
use Rattle.krb_crypto.proofs.SealingLemmas.{suite_laws}
use Rattle.gss_contexts.specs.Tokens.{sum_of}

sized : (suite : CipherSuite) (key : List ℕ) (usage : ℕ) (text : List ℕ) → length (checksum_of (cipher_checksum suite) key usage text) ≡ cipher_tag_size suite
sized Aes128CtsHmacSha196 key usage text = (suite_laws Aes128CtsHmacSha196).tag_sized _ text
sized Aes256CtsHmacSha196 key usage text = (suite_laws Aes256CtsHmacSha196).tag_sized _ text
sized Des3CbcSha1Kd key usage text = (suite_laws Des3CbcSha1Kd).tag_sized _ text
sized Aes128CtsHmacSha256128 key usage text = (suite_laws Aes128CtsHmacSha256128).tag_sized _ text
sized Aes256CtsHmacSha384192 key usage text = (suite_laws Aes256CtsHmacSha384192).tag_sized _ text

bounded : (suite : CipherSuite) → cipher_tag_size suite ≤ 24
bounded Aes128CtsHmacSha196 = omega arith
bounded Aes256CtsHmacSha196 = omega arith
bounded Des3CbcSha1Kd = omega arith
bounded Aes128CtsHmacSha256128 = omega arith
bounded Aes256CtsHmacSha384192 = omega arith

pub sum_sized : (key : KeyRecord) (usage : ℕ) (text sum : List ℕ) → sum ≡ sum_of key usage text → length sum ≤ 24
sum_sized key usage text sum is =
    let most = bounded key.suite in
    let size = sized key.suite key.bytes usage text in
    subst (λ (l : List ℕ). length l ≤ 24) (sym is) (subst (λ (n : ℕ). n ≤ 24) (sym size) most)
