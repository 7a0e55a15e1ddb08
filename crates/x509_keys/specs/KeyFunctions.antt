-- Key functions as definitions see them: each is a function of its arguments.
use Rattle.std.specs.Prelude.{◌≡◌, Bool, false, Option, None, Some}
use Rattle.picky_asn1_der.specs.Raw.{Raw}
use Rattle.picky_asn1.specs.BitString.{Bits}
use Rattle.picky_asn1.specs.Bytes.{Bytes}
use Rattle.x509_algorithms.specs.declared.algorithm_identifier.AlgorithmIdentifier.{AlgorithmIdentifier}
use Rattle.x509_keys.specs.declared.subject_public_key_info.SubjectPublicKeyInfo.{SubjectPublicKeyInfo}
use Rattle.x509_keys.specs.Encodings.{HasEncoding}
use Rattle.x509_keys.specs.declared.functions.Signed.{Signed}
use Rattle.x509_keys.specs.declared.functions.Theirs as lent
use Rattle.x509_keys.specs.declared.functions.Theirs.TheVariants as variant

-- the peer's public value: a client's whole element, or the bits of a realm's
pub data TheirValue : Type 0 where
  WholeValue : Raw → TheirValue
  ValueBits : Bits → TheirValue

-- The public value that the peer sent (RFC 4556, sections 3.2.1 and 3.2.3.1).
abbrev pub theirs_of : lent.Theirs → TheirValue
theirs_of (variant.Whole element) = WholeValue element.now
theirs_of (variant.Bits bits) = ValueBits bits.now

-- whether a signature verifies, and whether one by RSA with SHA-1 does; the signature of some bytes; the public value, and the shared
-- secret, that random bytes give; and that each signature names an algorithm that has an encoding
pub record KeysRecord : Type 0 where
  pub verifies : SubjectPublicKeyInfo → AlgorithmIdentifier → Bytes → Bytes → Bool
  pub verifies_sha1 : SubjectPublicKeyInfo → Bytes → Bytes → Bool
  pub sign : Bytes → Option Signed
  pub public_value : Bytes → Option Raw
  pub agree : TheirValue → Bytes → Option Bytes
  pub encodes : (signed : Bytes) (made : Signed) → sign signed ≡ Some made → HasEncoding made.algorithm

-- what isn't signed names no algorithm
pub encodes_none : (signed : Bytes) (made : Signed) → None ≡ Some made → HasEncoding made.algorithm
encodes_none signed made e = absurd (cc (e))

-- no signature verifies, and no function has an answer
abbrev pub no_functions : KeysRecord
no_functions = record {
  verifies = λ key algorithm signed signature. false;
  verifies_sha1 = λ key signed signature. false;
  sign = λ signed. None;
  public_value = λ words. None;
  agree = λ theirs words. None;
  encodes = encodes_none;
}
