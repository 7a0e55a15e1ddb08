-- The key of a suite that a shared secret gives (RFC 4556, section 3.2.3.1).
use Rattle.std.specs.Prelude.{ℕ, List, None}
use Rattle.krb_crypto.specs.declared.suite.CipherSuite.{CipherSuite}
use Rattle.krb_crypto.specs.Sealing.{seed_key_of}
use Rattle.krb_crypto.specs.Suites.{cipher_seed_bits}
use Rattle.krb_crypto.specs.Agreement.{agreement_key_of}
use Rattle.krb_crypto.specs.Secrets.{secret_with}

-- the key of the suite, without nonces: the realm's public value is used once
abbrev pub agreed_key : CipherSuite → List ℕ → List ℕ
agreed_key suite secret = agreement_key_of (seed_key_of suite) (cipher_seed_bits suite) (secret_with secret None)
