-- Private keys, of which the identifier of the algorithm decides the kind (RFC 5958, section 2).
use Rattle.std.specs.Prelude.{◌≡◌, ℕ, Bool, List, Option, None, Some, ⊤, refl}
use Rattle.asn1_leaves.specs.ObjectIdentifier.{oid_content}
use Rattle.picky_asn1_der.specs.declared.container.OctetStringContainer.{OctetStringContainer}
use Rattle.x509_spelling.specs.declared.enclosed.Enclosed.{Enclosed}
use Rattle.x509_spelling.specs.declared.kinds.KindOf.{KindOf}
use Rattle.x509_spelling.specs.declared.kinds.KindOf.TheVariants.{This, Other}
use Rattle.x509_spelling.specs.declared.kinds.LastKind.{LastKind}
use Rattle.x509_spelling.specs.Kinds.{case_belongs}
use Rattle.x509_keys.specs.KeyIdentifiers.{is_rsa, is_elliptic, is_named_curve}
use Rattle.x509_keys.specs.declared.rsa_private_key.RsaPrivateKey.{RsaPrivateKey}
use Rattle.x509_keys.specs.declared.ec_private_key.ECPrivateKey.{ECPrivateKey}
use Rattle.x509_keys.specs.declared.private_key_value.PrivateKeyValue.{PrivateKeyValue}
use Rattle.x509_keys.specs.declared.private_key_value.PrivateKeyValue.TheVariants as kind

-- a private key in an octet string, and what follows it
abbrev pub Held : Type 0 → Type 0 → Type 0
Held P T = Enclosed T × (P × ⊤)

abbrev pub PrivateKinds : Type 0 → Type 0
PrivateKinds P = KindOf (Held P RsaPrivateKey) (KindOf (Held P ECPrivateKey) (LastKind (Held P (List ℕ))))

abbrev held : {P T : Type 0} → OctetStringContainer T → P → Held P T
held container behind = (record { 0 = container.0 }, (behind, tt))

-- the key as one of three kinds
abbrev pub private_kinds : {P : Type 0} → PrivateKeyValue → P → PrivateKinds P
private_kinds (kind.Rsa key) behind = This (held key behind)
private_kinds (kind.EC key) behind = Other (This (held key behind))
private_kinds (kind.ED key) behind = Other (Other (record { 0 = held key behind }))

abbrev pub private_made : {P : Type 0} → PrivateKinds P → PrivateKeyValue
private_made (This fields) = kind.Rsa (record { 0 = fields.0.0 })
private_made (Other (This fields)) = kind.EC (record { 0 = fields.0.0 })
private_made (Other (Other last)) = kind.ED (record { 0 = last.0.0.0 })

abbrev pub behind_made : {P : Type 0} → PrivateKinds P → P
behind_made (This fields) = fields.1.0
behind_made (Other (This fields)) = fields.1.0
behind_made (Other (Other last)) = last.0.1.0

pub private_back : {P : Type 0} (v : PrivateKeyValue) (behind : P) → private_made (private_kinds v behind) ≡ v
private_back (kind.Rsa key) behind = refl
private_back (kind.EC key) behind = refl
private_back (kind.ED key) behind = refl

pub behind_back : {P : Type 0} (v : PrivateKeyValue) (behind : P) → behind_made (private_kinds v behind) ≡ behind
behind_back (kind.Rsa key) behind = refl
behind_back (kind.EC key) behind = refl
behind_back (kind.ED key) behind = refl

-- the identifier decides the kind
abbrev pub is_private_of : {P : Type 0} → List ℕ → PrivateKeyValue → P → Bool
is_private_of {P} arcs key behind =
    case_belongs (λ oid. is_rsa (oid_content oid)) (case_belongs (λ oid. is_elliptic (oid_content oid)) (λ oid (last : LastKind (Held P (List ℕ))). is_named_curve (oid_content oid)))
    arcs (private_kinds key behind)

-- The version of a OneAsymmetricKey is v2 (1) exactly where a publicKey is present, else v1 (0) (RFC 5958, section 2).
-- Test: `302E020101300506032B657004220420D4EE72DBF913584AD5B6D8F1F769F8AD3AFE7C28CBF1D4FBE097A88F44755842` of `standards.txt`.
abbrev pub version_with : {P : Type 0} → Option P → ℕ
version_with None = 0
version_with (Some key) = 1
