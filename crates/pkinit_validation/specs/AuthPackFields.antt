-- The fields of an AuthPack that the KDC reads (RFC 4556, section 3.2.1).
use Rattle.std.specs.Prelude.{ℤ}
use Rattle.picky_asn1_der.specs.Raw.{Raw}
use Rattle.krb_time.specs.Units.{Micros}

-- the element of clientPublicValue, and the time and the nonce of pkAuthenticator
pub record AuthPackFieldsRecord : Type 0 where
  pub value : Raw
  pub time : Micros
  pub nonce : ℤ
