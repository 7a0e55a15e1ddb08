-- Key functions that sign by digests.
use Rattle.std.specs.Prelude.{◌≡◌, Bool, true, false, ◌&&◌, ◌++◌, List, Option, None, Some}
use Rattle.std.specs.Bool.{nat_eq}
use Rattle.std.specs.Cmp.Lexicographic.{pointwise}
use Rattle.std.specs.List.{list_any}
use Rattle.std.specs.Option.{option_copied, option_map}
use Rattle.sha2.specs.Sha256.{sha256}
use Rattle.picky_asn1_der.specs.Raw.{Raw}
use Rattle.picky_asn1.specs.Bytes.{Bytes}
use Rattle.x509_keys.specs.declared.subject_public_key_info.SubjectPublicKeyInfo.{SubjectPublicKeyInfo}
use Rattle.x509_keys.specs.contracts.subject_public_key_info.SubjectPublicKeyInfoPartialEq.TheImpl as key_eq
use Rattle.x509_keys.specs.Encodings.{HasEncoding}
use Rattle.x509_keys.specs.KeyFunctions.{KeysRecord}
use Rattle.x509_keys.specs.SignedBy.{encodes_by, signed_by}
use Rattle.x509_keys.specs.declared.functions.Signed.{Signed}
use Rattle.x509_keys.specs.declared.signature_algorithm.SignatureAlgorithm.{SignatureAlgorithm}
use Rattle.test_support.specs.declared.digest_keys.DigestKeys.{DigestKeys}
use Rattle.test_support.specs.declared.digest_keys.KnownKey.{KnownKey}

-- the signature by a key, of which the encoding is given
abbrev pub digest_of : Bytes → Bytes → Bytes
digest_of der signed = sha256 (der ++ signed)

-- the key is known, and the signature is by it
abbrev pub is_by : SubjectPublicKeyInfo → Bytes → Bytes → KnownKey → Bool
is_by key signed signature known = key_eq.ghosts.eq known.key.now key && pointwise nat_eq (digest_of known.der.items signed) signature

-- the signature, if there is an algorithm to name
abbrev pub named_by : Option SignatureAlgorithm → Bytes → Option Signed
named_by algorithm signature = option_map (λ named. signed_by named signature) algorithm

pub encodes : (algorithm : Option SignatureAlgorithm) (signature : Bytes) (made : Signed) → named_by algorithm signature ≡ Some made → HasEncoding made.algorithm
encodes None signature made e = absurd (cc (e))
encodes (Some named) signature made e = encodes_by named signature made e

-- signatures by the known keys verify; the own key signs, if there is an algorithm to name; each agreement has this public value and
-- this secret, if there are any
abbrev pub digest_functions : Bytes → Option SignatureAlgorithm → List KnownKey → Option Raw → Option Bytes → KeysRecord
digest_functions own algorithm known public_value secret = record {
  verifies = λ key used signed signature. list_any (is_by key signed signature) known;
  verifies_sha1 = λ key signed signature. false;
  sign = λ signed. named_by algorithm (digest_of own signed);
  public_value = λ words. public_value;
  agree = λ theirs words. secret;
  encodes = λ signed made e. encodes algorithm (digest_of own signed) made e;
}

-- what a party with these keys does
abbrev pub functions_of : DigestKeys → KeysRecord
functions_of keys =
    digest_functions keys.own.now (option_copied keys.algorithm) keys.known.now (option_copied keys.public_value) (option_copied keys.secret)

-- every signature verifies, and the given one is the own, if there is an algorithm to name
abbrev pub given_functions : Option SignatureAlgorithm → Bytes → KeysRecord
given_functions algorithm given = record {
  verifies = λ key used signed signature. true;
  verifies_sha1 = λ key signed signature. true;
  sign = λ signed. named_by algorithm given;
  public_value = λ words. None;
  agree = λ theirs words. None;
  encodes = λ signed made e. encodes algorithm given made e;
}
