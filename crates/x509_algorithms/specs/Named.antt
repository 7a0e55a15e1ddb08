-- Algorithms whose identifier alone decides their parameters, and AES by its mode: the arcs, and that they decide them.
use Rattle.std.specs.Prelude.{ℕ, List, Option, None, Some, refl, IsTrue}
use Rattle.asn1_leaves.specs.ObjectIdentifier.{oid_content, subidentifier}
use Rattle.x509_oids.specs.Identifiers as oids
use Rattle.x509_algorithms.specs.declared.aes_parameters.AesMode.{AesMode}
use Rattle.x509_algorithms.specs.declared.aes_parameters.AesMode.TheVariants as mode
use Rattle.x509_algorithms.specs.declared.aes_parameters.AesParameters.{AesParameters}
use Rattle.x509_algorithms.specs.declared.ec_parameters.EcParameters.{EcParameters}
use Rattle.x509_algorithms.specs.declared.rsassa_pss_params.RsassaPssParams.{RsassaPssParams}
use Rattle.x509_algorithms.specs.declared.sha_variant.ShaVariant.{ShaVariant}
use Rattle.x509_algorithms.specs.declared.sha_variant.ShaVariant.TheVariants as hash
use Rattle.x509_algorithms.specs.ShaVariants.{sha_arcs}
use Rattle.x509_algorithms.specs.declared.algorithm_kinds.AlgorithmIdentifierParameters.TheVariants as kind
use Rattle.x509_algorithms.specs.declared.named.RsaAlgorithm.{RsaAlgorithm}
use Rattle.x509_algorithms.specs.declared.named.RsaAlgorithm.TheVariants as rsa
use Rattle.x509_algorithms.specs.declared.named.PlainAlgorithm.{PlainAlgorithm}
use Rattle.x509_algorithms.specs.declared.named.PlainAlgorithm.TheVariants as plain
use Rattle.x509_algorithms.specs.AlgorithmKinds.{is_parameters_of}

-- The arcs of RSA's object identifier, of its keys and of its signatures by hash (RFC 8017, appendix C; RFC 4055).
abbrev pub rsa_arcs : RsaAlgorithm → List ℕ
rsa_arcs rsa.Encryption = oids.rsa_encryption
rsa_arcs rsa.Md5 = oids.md5_with_rsa_encrypthion
rsa_arcs rsa.Sha1 = oids.sha1_with_rsa_encryption
rsa_arcs rsa.Sha224 = oids.sha224_with_rsa_encryption
rsa_arcs rsa.Sha256 = oids.sha256_with_rsa_encryption
rsa_arcs rsa.Sha384 = oids.sha384_with_rsa_encryption
rsa_arcs rsa.Sha512 = oids.sha512_with_rsa_encryption
rsa_arcs rsa.Sha3_224 = oids.sha3_224_with_rsa_encryption
rsa_arcs rsa.Sha3_256 = oids.sha3_256_with_rsa_encryption
rsa_arcs rsa.Sha3_384 = oids.sha3_384_with_rsa_encryption
rsa_arcs rsa.Sha3_512 = oids.sha3_512_with_rsa_encryption

pub rsa_has_null : (a : RsaAlgorithm) → IsTrue (is_parameters_of (rsa_arcs a) kind.Null)
unfolding oid_content subidentifier
rsa_has_null rsa.Encryption = refl
rsa_has_null rsa.Md5 = refl
rsa_has_null rsa.Sha1 = refl
rsa_has_null rsa.Sha224 = refl
rsa_has_null rsa.Sha256 = refl
rsa_has_null rsa.Sha384 = refl
rsa_has_null rsa.Sha512 = refl
rsa_has_null rsa.Sha3_224 = refl
rsa_has_null rsa.Sha3_256 = refl
rsa_has_null rsa.Sha3_384 = refl
rsa_has_null rsa.Sha3_512 = refl

pub hash_has_null : (h : ShaVariant) → IsTrue (is_parameters_of (sha_arcs h) kind.Null)
unfolding oid_content subidentifier
hash_has_null hash.MD5 = refl
hash_has_null hash.SHA1 = refl
hash_has_null hash.SHA2_224 = refl
hash_has_null hash.SHA2_256 = refl
hash_has_null hash.SHA2_384 = refl
hash_has_null hash.SHA2_512 = refl
hash_has_null hash.SHA2_512_224 = refl
hash_has_null hash.SHA2_512_256 = refl
hash_has_null hash.SHA3_224 = refl
hash_has_null hash.SHA3_256 = refl
hash_has_null hash.SHA3_384 = refl
hash_has_null hash.SHA3_512 = refl
hash_has_null hash.SHAKE128 = refl
hash_has_null hash.SHAKE256 = refl

-- The arcs of the object identifier of an algorithm without parameters (RFC 5758, section 3.2; RFC 8410, section 3; RFC 9881, section 2).
abbrev pub plain_arcs : PlainAlgorithm → List ℕ
plain_arcs plain.DsaSha1 = oids.dsa_with_sha1
plain_arcs plain.EcdsaSha256 = oids.ecdsa_with_sha256
plain_arcs plain.EcdsaSha384 = oids.ecdsa_with_sha384
plain_arcs plain.EcdsaSha512 = oids.ecdsa_with_sha512
plain_arcs plain.EcdsaSha3_224 = oids.ecdsa_with_sha3_224
plain_arcs plain.EcdsaSha3_256 = oids.ecdsa_with_sha3_256
plain_arcs plain.EcdsaSha3_384 = oids.ecdsa_with_sha3_384
plain_arcs plain.EcdsaSha3_512 = oids.ecdsa_with_sha3_512
plain_arcs plain.Ed25519 = oids.ed25519
plain_arcs plain.Ed448 = oids.ed448
plain_arcs plain.X25519 = oids.x25519
plain_arcs plain.X448 = oids.x448
plain_arcs plain.MlDsa44 = oids.ml_dsa_44
plain_arcs plain.MlDsa65 = oids.ml_dsa_65
plain_arcs plain.MlDsa87 = oids.ml_dsa_87

pub plain_has_none : (a : PlainAlgorithm) → IsTrue (is_parameters_of (plain_arcs a) kind.None)
unfolding oid_content subidentifier
plain_has_none plain.DsaSha1 = refl
plain_has_none plain.EcdsaSha256 = refl
plain_has_none plain.EcdsaSha384 = refl
plain_has_none plain.EcdsaSha512 = refl
plain_has_none plain.EcdsaSha3_224 = refl
plain_has_none plain.EcdsaSha3_256 = refl
plain_has_none plain.EcdsaSha3_384 = refl
plain_has_none plain.EcdsaSha3_512 = refl
plain_has_none plain.Ed25519 = refl
plain_has_none plain.Ed448 = refl
plain_has_none plain.X25519 = refl
plain_has_none plain.X448 = refl
plain_has_none plain.MlDsa44 = refl
plain_has_none plain.MlDsa65 = refl
plain_has_none plain.MlDsa87 = refl

-- The arcs of AES-128's object identifier, by mode (NIST, Computer Security Objects Register).
abbrev pub aes128_arcs : AesMode → List ℕ
aes128_arcs mode.Ecb = oids.aes128_ecb
aes128_arcs mode.Cbc = oids.aes128_cbc
aes128_arcs mode.Ofb = oids.aes128_ofb
aes128_arcs mode.Cfb = oids.aes128_cfb
aes128_arcs mode.Wrap = oids.aes128_wrap
aes128_arcs mode.Gcm = oids.aes128_gcm
aes128_arcs mode.Ccm = oids.aes128_ccm
aes128_arcs mode.WrapPad = oids.aes128_wrap_pad

pub aes128_has : (m : AesMode) (params : AesParameters) → IsTrue (is_parameters_of (aes128_arcs m) (kind.Aes params))
unfolding oid_content subidentifier
aes128_has mode.Ecb params = refl
aes128_has mode.Cbc params = refl
aes128_has mode.Ofb params = refl
aes128_has mode.Cfb params = refl
aes128_has mode.Wrap params = refl
aes128_has mode.Gcm params = refl
aes128_has mode.Ccm params = refl
aes128_has mode.WrapPad params = refl

-- The arcs of AES-192's object identifier, by mode (NIST, Computer Security Objects Register).
abbrev pub aes192_arcs : AesMode → List ℕ
aes192_arcs mode.Ecb = oids.aes192_ecb
aes192_arcs mode.Cbc = oids.aes192_cbc
aes192_arcs mode.Ofb = oids.aes192_ofb
aes192_arcs mode.Cfb = oids.aes192_cfb
aes192_arcs mode.Wrap = oids.aes192_wrap
aes192_arcs mode.Gcm = oids.aes192_gcm
aes192_arcs mode.Ccm = oids.aes192_ccm
aes192_arcs mode.WrapPad = oids.aes192_wrap_pad

pub aes192_has : (m : AesMode) (params : AesParameters) → IsTrue (is_parameters_of (aes192_arcs m) (kind.Aes params))
unfolding oid_content subidentifier
aes192_has mode.Ecb params = refl
aes192_has mode.Cbc params = refl
aes192_has mode.Ofb params = refl
aes192_has mode.Cfb params = refl
aes192_has mode.Wrap params = refl
aes192_has mode.Gcm params = refl
aes192_has mode.Ccm params = refl
aes192_has mode.WrapPad params = refl

-- The arcs of AES-256's object identifier, by mode (NIST, Computer Security Objects Register).
abbrev pub aes256_arcs : AesMode → List ℕ
aes256_arcs mode.Ecb = oids.aes256_ecb
aes256_arcs mode.Cbc = oids.aes256_cbc
aes256_arcs mode.Ofb = oids.aes256_ofb
aes256_arcs mode.Cfb = oids.aes256_cfb
aes256_arcs mode.Wrap = oids.aes256_wrap
aes256_arcs mode.Gcm = oids.aes256_gcm
aes256_arcs mode.Ccm = oids.aes256_ccm
aes256_arcs mode.WrapPad = oids.aes256_wrap_pad

pub aes256_has : (m : AesMode) (params : AesParameters) → IsTrue (is_parameters_of (aes256_arcs m) (kind.Aes params))
unfolding oid_content subidentifier
aes256_has mode.Ecb params = refl
aes256_has mode.Cbc params = refl
aes256_has mode.Ofb params = refl
aes256_has mode.Cfb params = refl
aes256_has mode.Wrap params = refl
aes256_has mode.Gcm params = refl
aes256_has mode.Ccm params = refl
aes256_has mode.WrapPad params = refl

pub curve_key_has : (curve : EcParameters) → IsTrue (is_parameters_of oids.ec_public_key (kind.Ec curve))
unfolding oid_content subidentifier
curve_key_has curve = refl

pub pss_has : (params : RsassaPssParams) → IsTrue (is_parameters_of oids.rsassa_pss (kind.RsassaPss params))
unfolding oid_content subidentifier
pss_has params = refl

-- RSA signatures over this hash, where there are any
abbrev pub rsa_over : ShaVariant → Option RsaAlgorithm
rsa_over hash.MD5 = None
rsa_over hash.SHA1 = Some rsa.Sha1
rsa_over hash.SHA2_224 = Some rsa.Sha224
rsa_over hash.SHA2_256 = Some rsa.Sha256
rsa_over hash.SHA2_384 = Some rsa.Sha384
rsa_over hash.SHA2_512 = Some rsa.Sha512
rsa_over hash.SHA2_512_224 = None
rsa_over hash.SHA2_512_256 = None
rsa_over hash.SHA3_224 = Some rsa.Sha3_224
rsa_over hash.SHA3_256 = Some rsa.Sha3_256
rsa_over hash.SHA3_384 = Some rsa.Sha3_384
rsa_over hash.SHA3_512 = Some rsa.Sha3_512
rsa_over hash.SHAKE128 = None
rsa_over hash.SHAKE256 = None
