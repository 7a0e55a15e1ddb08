-- What a key opens, where the data says that it is of the key's suite.
use Rattle.std.proofs.Common.{◌≡◌, ℕ, true, List, Option, None, Some}
use Rattle.asn1_der.specs.Tree.{Tree}
use Rattle.krb_crypto.specs.declared.suite.CipherSuite.{CipherSuite}
use Rattle.krb_crypto.specs.Suites.{cipher_number}
use Rattle.krb_messages.specs.declared.data_types.encrypted_data.EncryptedData.{EncryptedData}
use Rattle.picky_asn1_der.specs.Found.{IsFound}
use Rattle.krb_tickets.specs.Opens.{Opens}
use Rattle.picky_asn1.specs.Numbers.{is_number}
use Rattle.krb_tickets.specs.SealedData.{IsSealedIn}

pub opened_is_sealed : {T : Type 0} (tree : T → Tree) (suite : CipherSuite) (key : List ℕ) (usage : ℕ) (encrypted : EncryptedData) (found : Option T)
    → is_number (cipher_number suite) encrypted.etype.0 ≡ true
    → IsFound (Opens {T = T} tree (cipher_number suite) key usage encrypted.cipher.0) found
    → IsFound (IsSealedIn {T = T} tree suite key usage encrypted) found
opened_is_sealed tree suite key usage encrypted None numbered none = λ value sealed. none value sealed.opens
opened_is_sealed tree suite key usage encrypted (Some value) numbered opens = record { numbered = numbered; opens = opens }
