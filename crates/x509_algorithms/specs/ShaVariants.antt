-- Hashes, each with its object identifier.
use Rattle.std.proofs.Common.{◌≡◌, ℕ, List, [], ◌∷◌, ◌++◌, refl}
use Rattle.asn1_leaves.specs.ObjectIdentifier.{oid_content, subidentifier, IsObjectIdentifier}
use Rattle.x509_oids.specs.Identifiers as oids
use Rattle.x509_algorithms.specs.Arcs.{nist_hashes}
use Rattle.x509_algorithms.specs.declared.sha_variant.ShaVariant.{ShaVariant}
use Rattle.x509_algorithms.specs.declared.sha_variant.ShaVariant.TheVariants as hash

-- The arcs of a hash algorithm's object identifier, MD5 and SHA-1 among them (RFC 8017, appendix B.1).
abbrev pub sha_arcs : ShaVariant → List ℕ
sha_arcs hash.MD5 = oids.md5
sha_arcs hash.SHA1 = oids.sha1
sha_arcs hash.SHA2_224 = oids.sha224
sha_arcs hash.SHA2_256 = oids.sha256
sha_arcs hash.SHA2_384 = oids.sha384
sha_arcs hash.SHA2_512 = oids.sha512
sha_arcs hash.SHA2_512_224 = oids.sha512_224
sha_arcs hash.SHA2_512_256 = oids.sha512_256
sha_arcs hash.SHA3_224 = oids.sha3_224
sha_arcs hash.SHA3_256 = oids.sha3_256
sha_arcs hash.SHA3_384 = oids.sha3_384
sha_arcs hash.SHA3_512 = oids.sha3_512
sha_arcs hash.SHAKE128 = oids.shake128
sha_arcs hash.SHAKE256 = oids.shake256

-- the identifier's content octets
abbrev pub sha_content : ShaVariant → List ℕ
sha_content hash.MD5 = 0x2A ∷ 0x86 ∷ 0x48 ∷ 0x86 ∷ 0xF7 ∷ 0x0D ∷ 2 ∷ 5 ∷ []
sha_content hash.SHA1 = 0x2B ∷ 0x0E ∷ 3 ∷ 2 ∷ 0x1A ∷ []
sha_content hash.SHA2_224 = nist_hashes ++ 4 ∷ []
sha_content hash.SHA2_256 = nist_hashes ++ 1 ∷ []
sha_content hash.SHA2_384 = nist_hashes ++ 2 ∷ []
sha_content hash.SHA2_512 = nist_hashes ++ 3 ∷ []
sha_content hash.SHA2_512_224 = nist_hashes ++ 5 ∷ []
sha_content hash.SHA2_512_256 = nist_hashes ++ 6 ∷ []
sha_content hash.SHA3_224 = nist_hashes ++ 7 ∷ []
sha_content hash.SHA3_256 = nist_hashes ++ 8 ∷ []
sha_content hash.SHA3_384 = nist_hashes ++ 9 ∷ []
sha_content hash.SHA3_512 = nist_hashes ++ 10 ∷ []
sha_content hash.SHAKE128 = nist_hashes ++ 11 ∷ []
sha_content hash.SHAKE256 = nist_hashes ++ 12 ∷ []

pub sha_content_is : (h : ShaVariant) → oid_content (sha_arcs h) ≡ sha_content h
unfolding oid_content subidentifier
sha_content_is hash.MD5 = refl
sha_content_is hash.SHA1 = refl
sha_content_is hash.SHA2_224 = refl
sha_content_is hash.SHA2_256 = refl
sha_content_is hash.SHA2_384 = refl
sha_content_is hash.SHA2_512 = refl
sha_content_is hash.SHA2_512_224 = refl
sha_content_is hash.SHA2_512_256 = refl
sha_content_is hash.SHA3_224 = refl
sha_content_is hash.SHA3_256 = refl
sha_content_is hash.SHA3_384 = refl
sha_content_is hash.SHA3_512 = refl
sha_content_is hash.SHAKE128 = refl
sha_content_is hash.SHAKE256 = refl

pub sha_arcs_valid : (h : ShaVariant) → IsObjectIdentifier (sha_arcs h)
sha_arcs_valid hash.MD5 = refl
sha_arcs_valid hash.SHA1 = refl
sha_arcs_valid hash.SHA2_224 = refl
sha_arcs_valid hash.SHA2_256 = refl
sha_arcs_valid hash.SHA2_384 = refl
sha_arcs_valid hash.SHA2_512 = refl
sha_arcs_valid hash.SHA2_512_224 = refl
sha_arcs_valid hash.SHA2_512_256 = refl
sha_arcs_valid hash.SHA3_224 = refl
sha_arcs_valid hash.SHA3_256 = refl
sha_arcs_valid hash.SHA3_384 = refl
sha_arcs_valid hash.SHA3_512 = refl
sha_arcs_valid hash.SHAKE128 = refl
sha_arcs_valid hash.SHAKE256 = refl
