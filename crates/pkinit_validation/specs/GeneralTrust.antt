-- Who signed signed data of the general form, in parts of one table: the first case that holds counts (RFC 5652, sections 5.4 and 5.6; RFC
-- 4556, section 3.2.2).
use Rattle.std.specs.Prelude.{◌≡◌, ℕ, Bool, true, false, ◌&&◌, not, List, [], ◌∷◌, Option, None, Some, Result, Ok, Err, IsTrue, unwrap_or, refl, if◌then◌else◌}
use Rattle.std.specs.Bool.{nat_eq}
use Rattle.std.specs.Cmp.Lexicographic.{pointwise}
use Rattle.picky_asn1.specs.Bytes.{Bytes}
use Rattle.picky_asn1_der.specs.Raw.{Raw}
use Rattle.picky_asn1_der.specs.Splits.{raw_bytes}
use Rattle.asn1_leaves.specs.ObjectIdentifier.{oid_content, subidentifier}
use Rattle.decision_tables.specs.One.{IsSole}
use Rattle.decision_tables.specs.Tables.{Table, and_then, and_then_told, ask, done, refuse}
use Rattle.krb_constants.specs.declared.error_codes.TheConstants.{KDC_ERR_DIGEST_IN_SIGNED_DATA_NOT_ACCEPTED}
use Rattle.krb_messages.specs.Refusals.{Code}
use Rattle.x509_oids.specs.Identifiers as oids
use Rattle.x509_algorithms.specs.AlgorithmKinds.{is_parameters_of}
use Rattle.x509_algorithms.specs.contracts.algorithm_identifier.AlgorithmIdentifierSpelled.TheImpl as algorithm_impl
use Rattle.x509_algorithms.specs.declared.algorithm_identifier.AlgorithmIdentifier.{AlgorithmIdentifier}
use Rattle.x509_algorithms.specs.declared.algorithm_kinds.AlgorithmIdentifierParameters.TheVariants as kind
use Rattle.x509_certificates.specs.declared.certificate.Certificate.{Certificate}
use Rattle.x509_codec.specs.Covered.{as_set}
use Rattle.x509_keys.specs.KeyFunctions.{KeysRecord}
use Rattle.cms_signed_data.specs.Digests.{digest_by}
use Rattle.cms_signed_data.specs.declared.general_form.digest_algorithm.DigestAlgorithm.{DigestAlgorithm}
use Rattle.cms_signed_data.specs.declared.general_form.digest_algorithm.DigestAlgorithm.TheVariants.{Sha1, Sha256, Sha384, Sha512}
use Rattle.cms_signed_data.specs.GeneralContents.{GeneralParts, attributes_bytes, content_of, signature_of}
use Rattle.cms_signed_data.specs.Identifiers.{names}
use Rattle.pkinit_validation.specs.Accepted.{accepted}
use Rattle.pkinit_validation.specs.Certificates.{IsCertificate, ReadRecord, sole_certificate}
use Rattle.pkinit_validation.specs.Expected.{ExpectedRecord}
use Rattle.pkinit_validation.specs.Refusals.{code_of}
use Rattle.pkinit_validation.specs.declared.refusal.TrustRefusal.{TrustRefusal}
use Rattle.pkinit_validation.specs.declared.refusal.TrustRefusal.TheVariants.{InvalidSignature}
use Rattle.pkinit_validation.specs.declared.policies.policy.GeneralPolicy.{GeneralPolicy}
use Rattle.pkinit_validation.specs.declared.policies.signer.TheConstants.{RSA_ENCRYPTION, SHA1_WITH_RSA}

-- the signer's identifier, and the certificates
abbrev pub sid_of : GeneralParts → Raw
sid_of parts = parts.info.content.0.signer_infos.0.sid

abbrev pub certificates_of : GeneralParts → List Raw
certificates_of parts = parts.info.content.0.certificates.0

-- the bytes are a certificate, in any of its spellings, that the signer's identifier names
pub record IsNamedBy (sid : Raw) (bytes : Bytes) (read : ReadRecord) : Type 0 where
  pub is : IsCertificate bytes read
  pub named : names sid read.certificate ≡ true

pub sole_named : (sid : Raw) (bytes : Bytes) → IsSole (IsNamedBy sid bytes)
sole_named sid bytes v w p q = sole_certificate bytes v w p.is q.is

-- the element is a spelling of this algorithm, with any count of deviations
abbrev pub IsAlgorithm : Raw → AlgorithmIdentifier → Type 0
IsAlgorithm raw algorithm = (count : ℕ) × algorithm_impl.ghosts.spells algorithm (raw_bytes raw) count

pub sole_algorithm : (raw : Raw) → IsSole (IsAlgorithm raw)
sole_algorithm raw v w p q = (algorithm_impl.ghosts.laws.one v w (raw_bytes raw) p.0 q.0 p.1 q.1).0

-- an algorithm of RSA with NULL
abbrev pub rsa_named : (arcs : List ℕ) → IsTrue (is_parameters_of arcs kind.Null) → AlgorithmIdentifier
rsa_named arcs is = record { algorithm = record { 0 = arcs }; parameters = kind.Null; of_its_algorithm = is }

-- signatures of RSA with these hash functions have NULL
pub has_null_sha1 : IsTrue (is_parameters_of oids.sha1_with_rsa_encryption kind.Null)
unfolding oid_content subidentifier
has_null_sha1 = refl

pub has_null_sha384 : IsTrue (is_parameters_of oids.sha384_with_rsa_encryption kind.Null)
unfolding oid_content subidentifier
has_null_sha384 = refl

pub has_null_sha512 : IsTrue (is_parameters_of oids.sha512_with_rsa_encryption kind.Null)
unfolding oid_content subidentifier
has_null_sha512 = refl

-- The algorithm that rsaEncryption is beside a digest algorithm (RFC 3370, section 3.2). Beside SHA-256 it stays, since key functions take
-- it so.
abbrev pub rsa_beside : DigestAlgorithm → Option AlgorithmIdentifier
rsa_beside Sha1 = Some (rsa_named oids.sha1_with_rsa_encryption has_null_sha1)
rsa_beside Sha256 = None
rsa_beside Sha384 = Some (rsa_named oids.sha384_with_rsa_encryption has_null_sha384)
rsa_beside Sha512 = Some (rsa_named oids.sha512_with_rsa_encryption has_null_sha512)

-- The algorithm by which a signature is judged: beside rsaEncryption the digest algorithm names the hash function (RFC 3370, section 3.2).
-- Test: `granted, rsaEncryption with SHA-512`.
abbrev pub signature_under : DigestAlgorithm → AlgorithmIdentifier → AlgorithmIdentifier
signature_under digest algorithm = if pointwise nat_eq (oid_content algorithm.algorithm.0) RSA_ENCRYPTION then unwrap_or (rsa_beside digest) algorithm else algorithm

-- the digest algorithm is SHA-1
abbrev pub is_sha1 : DigestAlgorithm → Bool
is_sha1 Sha1 = true
is_sha1 Sha256 = false
is_sha1 Sha384 = false
is_sha1 Sha512 = false

-- the signature is one of RSA with SHA-1, beside the digest algorithm SHA-1
abbrev pub is_by_sha1 : GeneralParts → AlgorithmIdentifier → Bool
is_by_sha1 parts algorithm = is_sha1 parts.algorithm && pointwise nat_eq (oid_content algorithm.algorithm.0) SHA1_WITH_RSA

-- The signature verifies by this algorithm under the certificate's key, over the signed attributes with the tag of a SET OF. RSA with SHA-1
-- is judged beside the digest algorithm SHA-1 alone.
abbrev pub verifies_by : KeysRecord → Certificate → GeneralParts → AlgorithmIdentifier → Bool
verifies_by keys certificate parts algorithm =
    if is_by_sha1 parts algorithm
    then keys.verifies_sha1 certificate.tbs_certificate.subject_public_key_info (as_set (attributes_bytes parts.info)) (signature_of parts.info)
    else keys.verifies certificate.tbs_certificate.subject_public_key_info algorithm (as_set (attributes_bytes parts.info)) (signature_of parts.info)

abbrev pub verifies_under : KeysRecord → Certificate → GeneralParts → AlgorithmIdentifier → Bool
verifies_under keys certificate parts algorithm = verifies_by keys certificate parts (signature_under parts.algorithm algorithm)

-- Judges whether the signature verifies by this algorithm.
abbrev pub verified_by : KeysRecord → Certificate → GeneralParts → AlgorithmIdentifier → Table (Result (Unit {0}) TrustRefusal)
verified_by keys certificate parts algorithm =
    -- The signature verifies under the certificate's key over the signed attributes with the tag of a SET OF (RFC 5652, section 5.4).
    -- Test: `signature over [0]`, `signature by another key`.
    refuse (not (verifies_under keys certificate parts algorithm)) InvalidSignature
    (done (Ok tt))

-- Judges the signature by its algorithm.
abbrev pub by_algorithm : KeysRecord → Certificate → GeneralParts → Table (Result (Unit {0}) TrustRefusal)
by_algorithm keys certificate parts =
    -- The signatureAlgorithm is an algorithm that is known (RFC 5652, section 5.3). Test: `signature algorithm NULL`.
    ask (IsAlgorithm parts.info.content.0.signer_infos.0.signature_algorithm) (sole_algorithm parts.info.content.0.signer_infos.0.signature_algorithm) (done (Err InvalidSignature))
    (verified_by keys certificate parts)

-- Judges whether the certificate's holder signed the content.
abbrev pub general_signed_by : KeysRecord → Certificate → GeneralParts → Table (Result (Unit {0}) TrustRefusal)
general_signed_by keys certificate parts =
    -- The message-digest attribute is the digest of the eContent octets, by the digestAlgorithm (RFC 5652, sections 5.4 and 5.6).
    -- Test: `digest of other content`, `granted, SHA-384`, `granted, SHA-512`.
    refuse (not (pointwise nat_eq (digest_by parts.algorithm (content_of parts.info)) parts.digest)) InvalidSignature
    (by_algorithm keys certificate parts)

-- Judges signed data by the signer's certificate: first the certificate, then the signature.
abbrev pub by_certificate : KeysRecord → ExpectedRecord → GeneralParts → ReadRecord → Table (Result (Unit {0}) TrustRefusal)
by_certificate keys expected parts read =
    and_then (accepted keys expected read) (λ _. general_signed_by keys read.certificate parts)

-- Judges signed data by the first of these certificates that the signer names.
-- Ignored: other certificates, whatever they are (RFC 5652, section 5.1). Test: `granted, signer's certificate second`,
-- `granted, attribute certificate first`.
abbrev pub trusted_among : KeysRecord → ExpectedRecord → GeneralParts → List Raw → Table (Result (Unit {0}) TrustRefusal)
trusted_among keys expected parts [] = done (Err InvalidSignature)
trusted_among keys expected parts (raw ∷ more) =
    -- The signer names one of the certificates (RFC 5652, section 5.3). Test: `no certificate`, `other serial`, `other key identifier`.
    ask (IsNamedBy (sid_of parts) (raw_bytes raw)) (sole_named (sid_of parts) (raw_bytes raw)) (trusted_among keys expected parts more)
    (by_certificate keys expected parts)

-- the policy takes the digest algorithm
abbrev pub takes_digest : GeneralPolicy → DigestAlgorithm → Bool
takes_digest policy Sha1 = policy.takes_sha1
takes_digest policy Sha256 = true
takes_digest policy Sha384 = true
takes_digest policy Sha512 = true

-- Judges the signature of signedAuthPack.
abbrev pub general_signer : KeysRecord → GeneralPolicy → ExpectedRecord → GeneralParts → Table (Result (Unit {0}) Code)
general_signer keys policy expected parts =
    -- The policy takes the digestAlgorithm: SHA-1 by its own word alone (RFC 4556, section 3.2.2; RFC 6194). Test: `SHA-1 unasked`,
    -- `granted, SHA-1 asked for`.
    refuse (not (takes_digest policy parts.algorithm)) KDC_ERR_DIGEST_IN_SIGNED_DATA_NOT_ACCEPTED
    -- The client signed the content, by a certificate that is accepted under the realm's anchor and names the client (RFC 4556, section
    -- 3.2.2). Test: `certificate of bob`, `certificate of another authority`.
    (and_then_told code_of (trusted_among keys expected parts (certificates_of parts)) (λ _. done (Ok tt)))

-- what one certificate of the list comes to: nothing where the signer doesn't name it
abbrev pub IsJudgedAs : KeysRecord → ExpectedRecord → GeneralParts → ReadRecord → Option (Result (Unit {0}) TrustRefusal) → Type 0
IsJudgedAs keys expected parts read None = names (sid_of parts) read.certificate ≡ true → ⊥
IsJudgedAs keys expected parts read (Some outcome) = (names (sid_of parts) read.certificate ≡ true) × (by_certificate keys expected parts read).gives outcome

-- what these bytes come to: nothing where they are no certificate that the signer names
abbrev pub IsJudgedBy : KeysRecord → ExpectedRecord → GeneralParts → Bytes → Option (Result (Unit {0}) TrustRefusal) → Type 0
IsJudgedBy keys expected parts bytes None = (read : ReadRecord) → IsNamedBy (sid_of parts) bytes read → ⊥
IsJudgedBy keys expected parts bytes (Some outcome) = (read : ReadRecord) × IsNamedBy (sid_of parts) bytes read × (by_certificate keys expected parts read).gives outcome
