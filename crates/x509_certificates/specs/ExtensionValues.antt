-- The values of extensions (RFC 5280, section 4.2.1): an identifier behind id-ce decides which.
use Rattle.std.specs.Prelude.{◌≡◌, ℕ, ℤ, Bool, true, false, ◌&&◌, ◌||◌, ◌==◌, nat_le, List, [], ◌∷◌, ⊤, refl, IsTrue}
use Rattle.asn1_leaves.specs.ObjectIdentifier.{oid_content, subidentifier}
use Rattle.picky_asn1.specs.declared.wrapper.ObjectIdentifierAsn1.{ObjectIdentifierAsn1}
use Rattle.x509_oids.specs.Identifiers as oids
use Rattle.x509_fields.specs.declared.general_name.GeneralName.{GeneralName}
use Rattle.x509_fields.specs.declared.basic_constraints.BasicConstraints.{BasicConstraints}
use Rattle.x509_certificates.specs.declared.key_usage.KeyUsage.{KeyUsage}
use Rattle.x509_spelling.specs.declared.enclosed.Enclosed.{Enclosed}
use Rattle.x509_spelling.specs.declared.kinds.KindOf.{KindOf}
use Rattle.x509_spelling.specs.declared.kinds.KindOf.TheVariants.{This, Other}
use Rattle.x509_spelling.specs.declared.kinds.LastKind.{LastKind}
use Rattle.x509_spelling.specs.Kinds.{case_belongs}
use Rattle.picky_asn1_der.specs.declared.container.OctetStringContainer.{OctetStringContainer}
use Rattle.x509_certificates.specs.declared.authority_key_identifier.AuthorityKeyIdentifier.{AuthorityKeyIdentifier}
use Rattle.x509_certificates.specs.declared.extension_value.ExtensionValue.{ExtensionValue}
use Rattle.x509_certificates.specs.declared.extension_value.ExtensionValue.TheVariants as kind

-- subjectKeyIdentifier, keyUsage, subjectAltName, issuerAltName, basicConstraints, cRLNumber, authorityKeyIdentifier, extKeyUsage
abbrev pub is_known : ℕ → Bool
is_known number = (number == 14) || (number == 15) || (nat_le 17 number && nat_le number 20) || (number == 35) || (number == 37)

abbrev pub if_known : Bool → ℕ → ℕ
if_known true number = number
if_known false number = 0

-- the arc behind id-ce, where the content octets are those of an extension that is known here, else 0
abbrev pub extension_number : List ℕ → ℕ
extension_number [] = 0
extension_number (first ∷ []) = 0
extension_number (first ∷ second ∷ []) = 0
extension_number (first ∷ second ∷ number ∷ []) = if_known ((first == 0x55) && ((second == 0x1D) && is_known number)) number
extension_number (first ∷ second ∷ number ∷ other ∷ octets) = 0

abbrev pub Held : Type 0 → Type 0
Held T = Enclosed T × ⊤

-- The value of keyUsage is a BIT STRING whose unused bits are zero (RFC 5280, section 4.2.1.3; X.690, section 11.2.1).
-- Test: `030201A1` of `standards.txt`.
abbrev pub ExtensionKinds : Type 0
ExtensionKinds =
    KindOf (Held AuthorityKeyIdentifier) (KindOf (Held (List ℕ)) (KindOf (Held KeyUsage) (KindOf (Held (List GeneralName)) (KindOf (Held (List GeneralName))
    (KindOf (Held BasicConstraints) (KindOf (Held (List ObjectIdentifierAsn1)) (KindOf (Held ℤ) (LastKind (List ℕ × ⊤)))))))))

abbrev held : {T : Type 0} → OctetStringContainer T → Held T
held container = (record { 0 = container.0 }, tt)

abbrev boxed : {T : Type 0} → Held T → OctetStringContainer T
boxed fields = record { 0 = fields.0.0 }

-- An extension's value is of the kind that its identifier decides. An unknown extension keeps its octets (RFC 5280, section 4.2).
-- Test: `published.txt`, `30170603551d200410300e300c060a60864801650302013009` of `published.txt`.
abbrev pub kinds_of : ExtensionValue → ExtensionKinds
kinds_of (kind.AuthorityKeyIdentifier value) = This (held value)
kinds_of (kind.SubjectKeyIdentifier value) = Other (This (held value))
kinds_of (kind.KeyUsage value) = Other (Other (This (held value)))
kinds_of (kind.SubjectAltName value) = Other (Other (Other (This (held value))))
kinds_of (kind.IssuerAltName value) = Other (Other (Other (Other (This (held value)))))
kinds_of (kind.BasicConstraints value) = Other (Other (Other (Other (Other (This (held value))))))
kinds_of (kind.ExtendedKeyUsage value) = Other (Other (Other (Other (Other (Other (This (held value)))))))
kinds_of (kind.CrlNumber value) = Other (Other (Other (Other (Other (Other (Other (This (held value))))))))
kinds_of (kind.Generic value) = Other (Other (Other (Other (Other (Other (Other (Other (record { 0 = (value, tt) }))))))))

abbrev pub value_made : ExtensionKinds → ExtensionValue
value_made (This fields) = kind.AuthorityKeyIdentifier (boxed fields)
value_made (Other (This fields)) = kind.SubjectKeyIdentifier (boxed fields)
value_made (Other (Other (This fields))) = kind.KeyUsage (boxed fields)
value_made (Other (Other (Other (This fields)))) = kind.SubjectAltName (boxed fields)
value_made (Other (Other (Other (Other (This fields))))) = kind.IssuerAltName (boxed fields)
value_made (Other (Other (Other (Other (Other (This fields)))))) = kind.BasicConstraints (boxed fields)
value_made (Other (Other (Other (Other (Other (Other (This fields))))))) = kind.ExtendedKeyUsage (boxed fields)
value_made (Other (Other (Other (Other (Other (Other (Other (This fields)))))))) = kind.CrlNumber (boxed fields)
value_made (Other (Other (Other (Other (Other (Other (Other (Other last)))))))) = kind.Generic last.0.0

pub value_back : (v : ExtensionValue) → value_made (kinds_of v) ≡ v
value_back (kind.AuthorityKeyIdentifier value) = refl
value_back (kind.SubjectKeyIdentifier value) = refl
value_back (kind.KeyUsage value) = refl
value_back (kind.SubjectAltName value) = refl
value_back (kind.IssuerAltName value) = refl
value_back (kind.BasicConstraints value) = refl
value_back (kind.ExtendedKeyUsage value) = refl
value_back (kind.CrlNumber value) = refl
value_back (kind.Generic value) = refl

abbrev pub is_numbered : ℕ → List ℕ → Bool
is_numbered number arcs = extension_number (oid_content arcs) == number

-- the identifier decides the kind: the first of these that it tells, and octets of which nothing is asked where it tells none
abbrev pub is_value_of : List ℕ → ExtensionValue → Bool
is_value_of arcs value =
    case_belongs (is_numbered 35) (case_belongs (is_numbered 14) (case_belongs (is_numbered 15) (case_belongs (is_numbered 17) (case_belongs (is_numbered 18)
    (case_belongs (is_numbered 19) (case_belongs (is_numbered 37) (case_belongs (is_numbered 20) (λ oid (last : LastKind (List ℕ × ⊤)). is_numbered 0 oid))))))))
    arcs (kinds_of value)

-- each kind belongs to its identifier

pub belongs_authority : (value : OctetStringContainer AuthorityKeyIdentifier) → IsTrue (is_value_of oids.authority_key_identifier (kind.AuthorityKeyIdentifier value))
unfolding oid_content subidentifier
belongs_authority value = refl

pub belongs_subject : (value : OctetStringContainer (List ℕ)) → IsTrue (is_value_of oids.subject_key_identifier (kind.SubjectKeyIdentifier value))
unfolding oid_content subidentifier
belongs_subject value = refl

pub belongs_usage : (value : OctetStringContainer KeyUsage) → IsTrue (is_value_of oids.key_usage (kind.KeyUsage value))
unfolding oid_content subidentifier
belongs_usage value = refl

pub belongs_alternative : (value : OctetStringContainer (List GeneralName)) → IsTrue (is_value_of oids.subject_alternative_name (kind.SubjectAltName value))
unfolding oid_content subidentifier
belongs_alternative value = refl

pub belongs_issuer : (value : OctetStringContainer (List GeneralName)) → IsTrue (is_value_of oids.issuer_alternative_name (kind.IssuerAltName value))
unfolding oid_content subidentifier
belongs_issuer value = refl

pub belongs_constraints : (value : OctetStringContainer BasicConstraints) → IsTrue (is_value_of oids.basic_constraints (kind.BasicConstraints value))
unfolding oid_content subidentifier
belongs_constraints value = refl

pub belongs_purposes : (value : OctetStringContainer (List ObjectIdentifierAsn1)) → IsTrue (is_value_of oids.extended_key_usage (kind.ExtendedKeyUsage value))
unfolding oid_content subidentifier
belongs_purposes value = refl

pub belongs_number : (value : OctetStringContainer ℤ) → IsTrue (is_value_of oids.crl_number (kind.CrlNumber value))
unfolding oid_content subidentifier
belongs_number value = refl
