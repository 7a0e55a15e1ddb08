-- Digest algorithms of CMS (RFC 3370, section 2.1; RFC 5754, section 2).
use Rattle.std.specs.Prelude.{◌≡◌, ℕ, Bool, true, false, List, [], ◌∷◌, Option, None, Some, refl, if◌then◌else◌}
use Rattle.std.specs.Bool.{nat_eq}
use Rattle.std.specs.Cmp.Lexicographic.{pointwise}
use Rattle.sha1.specs.Sha1.{sha1}
use Rattle.sha2.specs.Sha256.{sha256}
use Rattle.sha2.specs.Sha512.{sha384, sha512}
use Rattle.asn1_leaves.specs.ObjectIdentifier.{oid_content, subidentifier}
use Rattle.picky_asn1.specs.Bytes.{Bytes}
use Rattle.picky_asn1.specs.declared.wrapper.ObjectIdentifierAsn1.{ObjectIdentifierAsn1}
use Rattle.picky_asn1_der.specs.Raw.{Raw}
use Rattle.x509_fields.specs.RawParameters.{is_null}
use Rattle.cms_signed_data.specs.declared.general_form.digest_algorithm.DigestAlgorithm.{DigestAlgorithm}
use Rattle.cms_signed_data.specs.declared.general_form.digest_algorithm.DigestAlgorithm.TheVariants.{Sha1, Sha256, Sha384, Sha512}
use Rattle.cms_signed_data.specs.declared.general_form.digest_algorithm.TheConstants.{SHA1, SHA256, SHA384, SHA512}
use Rattle.cms_signed_data.specs.declared.general_form.any_algorithm.AnyAlgorithm.{AnyAlgorithm}

-- the arcs of id-sha1, id-sha256, id-sha384 and id-sha512
abbrev pub digest_arcs : DigestAlgorithm → List ℕ
digest_arcs Sha1 = 1 ∷ 3 ∷ 14 ∷ 3 ∷ 2 ∷ 26 ∷ []
digest_arcs Sha256 = 2 ∷ 16 ∷ 840 ∷ 1 ∷ 101 ∷ 3 ∷ 4 ∷ 2 ∷ 1 ∷ []
digest_arcs Sha384 = 2 ∷ 16 ∷ 840 ∷ 1 ∷ 101 ∷ 3 ∷ 4 ∷ 2 ∷ 2 ∷ []
digest_arcs Sha512 = 2 ∷ 16 ∷ 840 ∷ 1 ∷ 101 ∷ 3 ∷ 4 ∷ 2 ∷ 3 ∷ []

-- the constants have the content octets of the identifiers
abbrev pub digest_content : DigestAlgorithm → List ℕ
digest_content Sha1 = SHA1
digest_content Sha256 = SHA256
digest_content Sha384 = SHA384
digest_content Sha512 = SHA512

pub digest_content-is : (algorithm : DigestAlgorithm) → oid_content (digest_arcs algorithm) ≡ digest_content algorithm
unfolding oid_content subidentifier
digest_content-is Sha1 = refl
digest_content-is Sha256 = refl
digest_content-is Sha384 = refl
digest_content-is Sha512 = refl

-- Parameters are missing or NULL: others are refused (RFC 5754, section 2; RFC 3370, section 2.1). Test: `digest parameters octets`.
abbrev pub are_no_parameters : List Raw → Bool
are_no_parameters [] = true
are_no_parameters (only ∷ []) = is_null only
are_no_parameters (first ∷ second ∷ more) = false

-- the algorithm that an identifier names
abbrev pub named_by : ObjectIdentifierAsn1 → Option DigestAlgorithm
named_by oid =
    if pointwise nat_eq (oid_content oid.0) SHA1 then Some Sha1
    else if pointwise nat_eq (oid_content oid.0) SHA256 then Some Sha256
    else if pointwise nat_eq (oid_content oid.0) SHA384 then Some Sha384
    else if pointwise nat_eq (oid_content oid.0) SHA512 then Some Sha512
    else None

-- The digest algorithm is SHA-1, SHA-256, SHA-384 or SHA-512 (RFC 3370, section 2.1; RFC 5754, section 2). Test: `digest SHA-224`.
unfoldable pub digest_named : AnyAlgorithm → Option DigestAlgorithm
digest_named algorithm = if are_no_parameters algorithm.parameters then named_by algorithm.algorithm else None

-- the digest of some octets
abbrev pub digest_by : DigestAlgorithm → Bytes → Bytes
digest_by Sha1 octets = sha1 octets
digest_by Sha256 octets = sha256 octets
digest_by Sha384 octets = sha384 octets
digest_by Sha512 octets = sha512 octets
