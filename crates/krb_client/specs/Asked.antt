-- What a client remembers of its requests (RFC 4120, sections 3.1, 3.2, 3.3).
use Rattle.std.specs.Prelude.{ℕ, List, Option}
use Rattle.krb_time.specs.Units.{Micros}
use Rattle.picky_asn1.specs.Bytes.{Bytes}
use Rattle.krb_crypto.specs.declared.suite.CipherSuite.{CipherSuite}
use Rattle.krb_messages.specs.declared.random_bytes.TheConstants.{AGREEMENT_SIZE, CLIENT_AGREEMENT}
use Rattle.krb_messages.specs.RandomBytes.{Random, random_part}

-- the random bytes of the client's agreement among those of an AS request (RFC 4556, section 3.2.1)
abbrev pub agreement_part : Random → Bytes
agreement_part = random_part CLIENT_AGREEMENT AGREEMENT_SIZE

-- what a client remembers of an AS request: the service's components, the nonce, the moment, and the agreement's random bytes
pub record AsAskedRecord : Type 0 where
  pub service : List Bytes
  pub nonce : ℕ
  pub moment : Micros
  pub agreement : Bytes

-- what a client remembers of a TGS request: the service's components, the nonce, and the session's key, by which it asked
pub record TgsAskedRecord : Type 0 where
  pub service : List Bytes
  pub nonce : ℕ
  pub suite : CipherSuite
  pub key : Bytes

-- what a client remembers of an AP request: the session's key, the authenticator's time, and the subkey, if any, which
-- is of the same suite
pub record ApAskedRecord : Type 0 where
  pub suite : CipherSuite
  pub key : Bytes
  pub time : Micros
  pub subkey : Option Bytes
