-- The key of a service (RFC 4120, section 1.1): the service's realm and name, and the key with its suite and kvno.
use Rattle.std.specs.Prelude.{ℕ, List}
use Rattle.picky_asn1.specs.Bytes.{Bytes}
use Rattle.krb_crypto.specs.declared.suite.CipherSuite.{CipherSuite}

-- An entry of a keytab: the service's realm and name, and its key with the suite and the kvno (RFC 4120, section 1.1).
pub record EntryRecord : Type 0 where
  pub realm : Bytes
  pub components : List Bytes
  pub suite : CipherSuite
  pub key : Bytes
  pub kvno : ℕ
