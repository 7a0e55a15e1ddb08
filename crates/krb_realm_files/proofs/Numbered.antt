-- The suite that a number names.
use Rattle.std.proofs.Common.{◌≡◌, ◌≢◌, ℕ, None, Some, refl, sym, ap, ◌∙◌, ne_eqb}
use Rattle.krb_crypto.specs.declared.suite.CipherSuite.{CipherSuite}
use Rattle.krb_crypto.specs.declared.suite.CipherSuite.TheVariants.{Aes128CtsHmacSha196, Aes256CtsHmacSha196, Des3CbcSha1Kd, Aes128CtsHmacSha256128, Aes256CtsHmacSha384192}
use Rattle.krb_crypto.specs.Suites.{cipher_number}
use Rattle.krb_realm_files.specs.SuiteNumbers.{suite_numbered}

pub of_number : (suite : CipherSuite) → suite_numbered (cipher_number suite) ≡ Some suite
of_number Aes128CtsHmacSha196 = refl
of_number Aes256CtsHmacSha196 = refl
of_number Des3CbcSha1Kd = refl
of_number Aes128CtsHmacSha256128 = refl
of_number Aes256CtsHmacSha384192 = refl

pub numbered : (suite : CipherSuite) (number : ℕ) → cipher_number suite ≡ number → Some suite ≡ suite_numbered number
numbered suite number is = sym (of_number suite) ∙ ap suite_numbered is

pub unnumbered : (number : ℕ) → ((suite : CipherSuite) → cipher_number suite ≢ number) → None ≡ suite_numbered number
unnumbered number none =
    rw (
      ne_eqb 17 number (none Aes128CtsHmacSha196),
      ne_eqb 18 number (none Aes256CtsHmacSha196),
      ne_eqb 16 number (none Des3CbcSha1Kd),
      ne_eqb 19 number (none Aes128CtsHmacSha256128),
      ne_eqb 20 number (none Aes256CtsHmacSha384192),
    ) refl
