-- Encrypted data of messages (RFC 4120, section 5.2.9) that a key opens.
use Rattle.std.specs.Prelude.{◌≡◌, ℕ, true}
use Rattle.asn1_der.specs.Tree.{Tree}
use Rattle.asn1_der.proofs.Spelling.{IsInjective}
use Rattle.krb_crypto.specs.declared.suite.CipherSuite.{CipherSuite}
use Rattle.krb_crypto.specs.Suites.{cipher_number}
use Rattle.krb_messages.specs.declared.data_types.encrypted_data.EncryptedData.{EncryptedData}
use Rattle.krb_tickets.specs.Opens.{Opens, sole_opens}
use Rattle.picky_asn1.specs.Numbers.{is_number}
use Rattle.picky_asn1.specs.Bytes.{Bytes}

-- the data says that it is of the suite, and the value's encoding is sealed in it under the key, for the usage
pub record IsSealedIn {T : Type 0} (tree : T → Tree) (suite : CipherSuite) (key : Bytes) (usage : ℕ) (encrypted : EncryptedData) (value : T) : Type 0 where
  pub numbered : is_number (cipher_number suite) encrypted.etype.0 ≡ true
  pub opens : Opens {T = T} tree (cipher_number suite) key usage encrypted.cipher.0 value

-- there is one at most
pub sole_sealed : {T : Type 0} (tree : T → Tree) → IsInjective {T = T} tree → (suite : CipherSuite) (key : Bytes) (usage : ℕ) (encrypted : EncryptedData) (v w : T)
    → IsSealedIn {T = T} tree suite key usage encrypted v → IsSealedIn {T = T} tree suite key usage encrypted w → v ≡ w
sole_sealed tree injective suite key usage encrypted v w x y =
    sole_opens tree injective (cipher_number suite) key usage encrypted.cipher.0 v w x.opens y.opens
