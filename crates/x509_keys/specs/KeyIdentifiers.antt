-- The content octets of the object identifiers of keys.
use Rattle.std.specs.Prelude.{◌≡◌, ℕ, Bool, true, ◌||◌, List, [], ◌∷◌, nat_eq, refl}
use Rattle.std.specs.Cmp.Lexicographic.{pointwise}
use Rattle.asn1_leaves.specs.ObjectIdentifier.{oid_content, subidentifier}
use Rattle.x509_oids.specs.Identifiers as oids

-- rsaEncryption (RFC 3279, section 2.3.1)
abbrev pub is_rsa : List ℕ → Bool
is_rsa content = pointwise nat_eq content (0x2A ∷ 0x86 ∷ 0x48 ∷ 0x86 ∷ 0xF7 ∷ 0x0D ∷ 1 ∷ 1 ∷ 1 ∷ [])

-- id-ecPublicKey (RFC 5480, section 2.1.1)
abbrev pub is_elliptic : List ℕ → Bool
is_elliptic content = pointwise nat_eq content (0x2A ∷ 0x86 ∷ 0x48 ∷ 0xCE ∷ 0x3D ∷ 2 ∷ 1 ∷ [])

-- id-X25519, id-X448, id-Ed25519 and id-Ed448 (RFC 8410, section 3)
abbrev pub is_named_curve : List ℕ → Bool
is_named_curve content =
    pointwise nat_eq content (0x2B ∷ 0x65 ∷ 110 ∷ []) || (pointwise nat_eq content (0x2B ∷ 0x65 ∷ 111 ∷ [])
    || (pointwise nat_eq content (0x2B ∷ 0x65 ∷ 112 ∷ []) || pointwise nat_eq content (0x2B ∷ 0x65 ∷ 113 ∷ [])))

-- id-ml-dsa-44, id-ml-dsa-65 and id-ml-dsa-87 (RFC 9881, section 2)
abbrev pub is_mldsa : List ℕ → Bool
is_mldsa content =
    pointwise nat_eq content (0x60 ∷ 0x86 ∷ 0x48 ∷ 1 ∷ 0x65 ∷ 3 ∷ 4 ∷ 3 ∷ 17 ∷ [])
    || (pointwise nat_eq content (0x60 ∷ 0x86 ∷ 0x48 ∷ 1 ∷ 0x65 ∷ 3 ∷ 4 ∷ 3 ∷ 18 ∷ [])
    || pointwise nat_eq content (0x60 ∷ 0x86 ∷ 0x48 ∷ 1 ∷ 0x65 ∷ 3 ∷ 4 ∷ 3 ∷ 19 ∷ []))

-- each is distinguished by its identifier

pub rsa_told : is_rsa (oid_content oids.rsa_encryption) ≡ true
unfolding oid_content subidentifier
rsa_told = refl

pub elliptic_told : is_elliptic (oid_content oids.ec_public_key) ≡ true
unfolding oid_content subidentifier
elliptic_told = refl

pub x25519_told : is_named_curve (oid_content oids.x25519) ≡ true
unfolding oid_content subidentifier
x25519_told = refl

pub x448_told : is_named_curve (oid_content oids.x448) ≡ true
unfolding oid_content subidentifier
x448_told = refl

pub ed25519_told : is_named_curve (oid_content oids.ed25519) ≡ true
unfolding oid_content subidentifier
ed25519_told = refl

pub ed448_told : is_named_curve (oid_content oids.ed448) ≡ true
unfolding oid_content subidentifier
ed448_told = refl

pub mldsa_44_told : is_mldsa (oid_content oids.ml_dsa_44) ≡ true
unfolding oid_content subidentifier
mldsa_44_told = refl

pub mldsa_65_told : is_mldsa (oid_content oids.ml_dsa_65) ≡ true
unfolding oid_content subidentifier
mldsa_65_told = refl

pub mldsa_87_told : is_mldsa (oid_content oids.ml_dsa_87) ≡ true
unfolding oid_content subidentifier
mldsa_87_told = refl
