-- Private keys of PKCS#1 (RFC 8017, appendix A.1.2), by which a party signs.
use Rattle.std.specs.Prelude.{◌≡◌}
use Rattle.picky_asn1.specs.Integer.{unsigned_octets}
use Rattle.x509_keys.specs.declared.rsa_public_key.RsaPublicKey.{RsaPublicKey}
use Rattle.x509_keys.specs.declared.rsa_private_key.RsaPrivateKey.{RsaPrivateKey}
use Rattle.rsa_keys.specs.PrivateNumbers.{ArePrimesIn}
use Rattle.rsa_keys.specs.declared.own_key.OwnKey.{OwnKey}

-- the public part of a private key (RFC 8017, section 3.2)
abbrev pub public_part : RsaPrivateKey → RsaPublicKey
public_part key = record { modulus = key.modulus; public_exponent = key.public_exponent }

-- the own key has the public part of a private key and its private exponent, and no primes but its own
pub record IsOwnKeyOf (key : RsaPrivateKey) (own : OwnKey) : Type 0 where
  pub public : own.public ≡ public_part key
  pub exponent : own.private.exponent.items ≡ unsigned_octets key.private_exponent
  pub primes : ArePrimesIn key own.private.primes
