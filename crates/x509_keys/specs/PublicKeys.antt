-- Public keys, of which the identifier of the algorithm decides the kind (RFC 5280, section 4.1.2.7).
use Rattle.std.specs.Prelude.{◌≡◌, ℕ, Bool, List, ⊤, refl, IsTrue}
use Rattle.asn1_leaves.specs.ObjectIdentifier.{oid_content, subidentifier}
use Rattle.picky_asn1.specs.BitString.{Bits}
use Rattle.picky_asn1_der.specs.declared.bit_container.BitStringContainer.{BitStringContainer}
use Rattle.x509_spelling.specs.declared.kinds.KindOf.{KindOf}
use Rattle.x509_spelling.specs.declared.kinds.KindOf.TheVariants.{This, Other}
use Rattle.x509_spelling.specs.declared.kinds.LastKind.{LastKind}
use Rattle.x509_spelling.specs.Kinds.{case_belongs}
use Rattle.x509_oids.specs.Identifiers as oids
use Rattle.x509_keys.specs.KeyIdentifiers.{is_rsa, is_elliptic, is_named_curve, is_mldsa}
use Rattle.x509_keys.specs.declared.rsa_public_key.RsaPublicKey.{RsaPublicKey}
use Rattle.x509_spelling.specs.declared.strict.Strict.{Strict}
use Rattle.x509_keys.specs.declared.public_key.PublicKey.{PublicKey}
use Rattle.x509_keys.specs.declared.public_key.PublicKey.TheVariants as kind

-- The BIT STRING of RSA's key has no unused bits (RFC 5280, section 4.1.2.7).
-- Test: `301A300D06092A864886F70D01010105000309013006020105020103` of `standards.txt`.
abbrev pub PublicKinds : Type 0
PublicKinds = KindOf (Strict (BitStringContainer RsaPublicKey) × ⊤) (KindOf (Bits × ⊤) (KindOf (Bits × ⊤) (LastKind (Bits × ⊤))))

-- the key as one of four kinds
abbrev pub kinds_of : PublicKey → PublicKinds
kinds_of (kind.Rsa key) = This (record { 0 = key }, tt)
kinds_of (kind.Ec key) = Other (This (key, tt))
kinds_of (kind.Ed key) = Other (Other (This (key, tt)))
kinds_of (kind.Mldsa key) = Other (Other (Other (record { 0 = (key, tt) })))

abbrev pub key_made : PublicKinds → PublicKey
key_made (This fields) = kind.Rsa fields.0.0
key_made (Other (This fields)) = kind.Ec fields.0
key_made (Other (Other (This fields))) = kind.Ed fields.0
key_made (Other (Other (Other last))) = kind.Mldsa last.0.0

pub key_back : (v : PublicKey) → key_made (kinds_of v) ≡ v
key_back (kind.Rsa key) = refl
key_back (kind.Ec key) = refl
key_back (kind.Ed key) = refl
key_back (kind.Mldsa key) = refl

-- the identifier decides the kind
abbrev pub is_key_of : List ℕ → PublicKey → Bool
is_key_of arcs key =
    case_belongs (λ oid. is_rsa (oid_content oid)) (case_belongs (λ oid. is_elliptic (oid_content oid)) (case_belongs (λ oid. is_named_curve (oid_content oid))
    (λ oid (last : LastKind (Bits × ⊤)). is_mldsa (oid_content oid))))
    arcs (kinds_of key)

-- keys belong to their identifiers

pub rsa_key_of : (key : BitStringContainer RsaPublicKey) → IsTrue (is_key_of oids.rsa_encryption (kind.Rsa key))
unfolding oid_content subidentifier
rsa_key_of key = refl

pub curve_key_of : (point : Bits) → IsTrue (is_key_of oids.ec_public_key (kind.Ec point))
unfolding oid_content subidentifier
curve_key_of point = refl
