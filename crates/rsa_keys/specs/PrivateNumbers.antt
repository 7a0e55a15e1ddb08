-- The numbers of private keys of PKCS#1 (RFC 8017, appendix A.1.2), and which keys are right.
use Rattle.std.specs.Prelude.{◌≡◌, ℕ, ◌^◌, ◌%◌, ℤ, length, Option, Some, None}
use Rattle.picky_asn1.specs.Bytes.{Bytes}
use Rattle.picky_asn1.specs.Integer.{unsigned_octets}
use Rattle.modular_arithmetic.specs.Naturals.{i2osp, os2ip}
use Rattle.public_key_cryptography.specs.Pkcs1.{encoded}
use Rattle.public_key_cryptography.specs.Primes.{ArePrimesOf}
use Rattle.public_key_cryptography.specs.RightKeys.{ArePair, IsSecondForm}
use Rattle.public_key_cryptography.specs.declared.hash.HashFunction.TheVariants.{Sha256}
use Rattle.public_key_cryptography.specs.declared.rsa_primes.PrimeNumbers.{PrimeNumbers}
use Rattle.public_key_cryptography.specs.declared.rsa_primes.Primes.{Primes}
use Rattle.x509_keys.specs.declared.rsa_private_key.RsaPrivateKey.{RsaPrivateKey}

-- the numbers have the octets of the private key's
pub record AreNumbersOf (key : RsaPrivateKey) (numbers : PrimeNumbers) : Type 0 where
  pub prime1 : numbers.prime1.items ≡ unsigned_octets key.prime_1
  pub prime2 : numbers.prime2.items ≡ unsigned_octets key.prime_2
  pub exponent1 : numbers.exponent1.items ≡ unsigned_octets key.exponent_1
  pub exponent2 : numbers.exponent2.items ≡ unsigned_octets key.exponent_2
  pub coefficient : numbers.coefficient.items ≡ unsigned_octets key.coefficient

-- the primes, if there are any, have these numbers
abbrev pub HaveNumbers : PrimeNumbers → Option Primes → Type 0
HaveNumbers numbers (Some primes) = ArePrimesOf primes numbers
HaveNumbers numbers None = Unit {0}

-- the primes, if there are any, are those of the private key
abbrev pub ArePrimesIn : RsaPrivateKey → Option Primes → Type 0
ArePrimesIn key primes = (numbers : PrimeNumbers) × AreNumbersOf key numbers × HaveNumbers numbers primes

-- the number that the octets of an INTEGER are
abbrev pub number_of : ℤ → ℕ
number_of number = os2ip (unsigned_octets number)

-- the numbers of a private key belong together, those of both forms (RFC 8017, section 3.2)
pub record IsRightKey (key : RsaPrivateKey) : Type 0 where
  pub second : IsSecondForm (number_of key.modulus) (number_of key.public_exponent) (number_of key.prime_1) (number_of key.prime_2)
      (number_of key.exponent_1) (number_of key.exponent_2) (number_of key.coefficient)
  pub pair : ArePair (number_of key.public_exponent) (number_of key.private_exponent) (number_of key.prime_1) (number_of key.prime_2)

-- RSASSA-PKCS1-v1_5-SIGN with SHA-256, by the modulus and the private exponent (RFC 8017, sections 5.2.1 and 8.2.1)
abbrev pub signature_by : RsaPrivateKey → Bytes → Bytes
signature_by key text =
    i2osp (length (unsigned_octets key.modulus))
    (os2ip (encoded (length (unsigned_octets key.modulus)) Sha256 text) ^ number_of key.private_exponent % number_of key.modulus)
