-- The principal that a certificate names (RFC 4556, section 3.2.2).
use Rattle.std.specs.Prelude.{◌≡◌, not, if◌then◌else◌, List, [], ◌∷◌, Option, None, Some, Result, Ok, Err, codes, pos, refl}
use Rattle.std.specs.Bool.{nat_eq}
use Rattle.std.specs.Cmp.Lexicographic.{pointwise}
use Rattle.std.proofs.Common.{sym, ◌∙◌}
use Rattle.picky_asn1.specs.Bytes.{Bytes}
use Rattle.picky_asn1.specs.Integer.{integer_content, natural_octets}
use Rattle.asn1_leaves.specs.ObjectIdentifier.{oid_content, subidentifier}
use Rattle.x509_oids.specs.Identifiers as oids
use Rattle.asn1_der.specs.Length.{element, length_octets}
use Rattle.asn1_der.specs.Tree.{Tree, Writes, der}
use Rattle.asn1_der.specs.Tagged.{tagged_tree}
use Rattle.asn1_der.proofs.Spelling.{IsInjective}
use Rattle.asn1_der.proofs.Tagged.{tagged-injective}
use Rattle.picky_asn1_der.specs.Raw.{Raw, raw_tree}
use Rattle.decision_tables.specs.One.{IsSole}
use Rattle.decision_tables.specs.Tables.{Table, ask, done, need, refuse}
use Rattle.krb_messages.specs.Names.{components, is_same_name, is_same_realm}
use Rattle.x509_certificates.specs.ExtensionsFields.{extensions_in}
use Rattle.x509_certificates.specs.ExtensionsHeld.{first_among}
use Rattle.x509_certificates.specs.declared.certificate.Certificate.{Certificate}
use Rattle.x509_certificates.specs.declared.extension_value.ExtensionValue.{ExtensionValue}
use Rattle.x509_certificates.specs.declared.extension_value.ExtensionValue.TheVariants as kind
use Rattle.x509_fields.specs.Parameters.{or_else}
use Rattle.x509_fields.specs.declared.general_name.GeneralName.{GeneralName}
use Rattle.x509_fields.specs.declared.general_name.GeneralName.TheVariants as name_kind
use Rattle.pkinit_validation.specs.Expected.{ExpectedRecord}
use Rattle.pkinit_validation.specs.declared.principal_name.Krb5PrincipalName.{Krb5PrincipalName}
use Rattle.pkinit_validation.specs.contracts.principal_name.Krb5PrincipalNameTagged.TheImpl as name_impl
use Rattle.pkinit_validation.specs.declared.refusal.TrustRefusal.{TrustRefusal}
use Rattle.pkinit_validation.specs.declared.refusal.TrustRefusal.TheVariants.{NameMismatch}
use Rattle.asn1_der.specs.Octets.{sequence_octet}
use Rattle.pkinit_validation.specs.declared.principals.TheConstants.{PKINIT_SAN}

abbrev pub principal_tree : Krb5PrincipalName → Tree
principal_tree = tagged_tree sequence_octet name_impl.ghosts.row_tree name_impl.ghosts.row_of

principal-injective : IsInjective principal_tree
principal-injective = tagged-injective sequence_octet name_impl.ghosts.row_tree name_impl.ghosts.row_laws name_impl.ghosts.row_of name_impl.ghosts.one_row

-- The element is the one DER encoding of this KRB5PrincipalName.
unfoldable pub IsPrincipal : Raw → Krb5PrincipalName → Type 0
IsPrincipal raw principal = Writes principal_tree principal (der (raw_tree raw))

pub sole_principal : (raw : Raw) → IsSole (IsPrincipal raw)
unfolding IsPrincipal
sole_principal raw v w p q = principal-injective v w p.0 q.0 (sym p.1 ∙ q.1)

-- PKINIT_SAN has the content octets of id-pkinit-san
pub pkinit_san-is : oid_content oids.pkinit_san ≡ PKINIT_SAN
unfolding oid_content subidentifier
pkinit_san-is = refl

-- The value of an otherName of the type id-pkinit-san.
abbrev pub principal_element : GeneralName → Option Raw
principal_element (name_kind.OtherName name) = if pointwise nat_eq (oid_content name.type_id.0) PKINIT_SAN then Some name.value.0 else None
principal_element other = None

-- The element of the first otherName of the type id-pkinit-san among some names.
abbrev pub first_element : List GeneralName → Option Raw
first_element [] = None
first_element (name ∷ names) = or_else (principal_element name) (first_element names)

-- The element of the first otherName of the type id-pkinit-san in a subjectAltName.
abbrev pub element_held : ExtensionValue → Option Raw
element_held (kind.SubjectAltName held) = first_element held.0
element_held other = None

-- The element of the first otherName of the type id-pkinit-san among all subjectAltNames, in the order of the extensions.
abbrev pub element_of : Certificate → Option Raw
element_of certificate = first_among element_held (extensions_in certificate.tbs_certificate.extensions.tagged.0)

-- Judges which principal a certificate names.
-- Not judged: the name-type of principalName (RFC 4120, section 6.2). Test: `name type 7 in the certificate`.
abbrev pub named : ExpectedRecord → Certificate → Table (Result (Unit {0}) TrustRefusal)
named expected certificate =
    -- A subjectAltName has an otherName of the type id-pkinit-san, of which the first counts (RFC 4556, section 3.2.2).
    -- Test: `no names`, `two subject alternative names, the principal in the second`, `first of two is another`.
    need (element_of certificate) NameMismatch (λ element.
    -- The value of this otherName is the one DER encoding of a KRB5PrincipalName (RFC 4556, section 3.2.2).
    -- Test: `first of two doesn't read`, `name type not minimal`.
    ask (IsPrincipal element) (sole_principal element) (done (Err NameMismatch)) (λ principal.
    -- The realm of KRB5PrincipalName is the principal's (RFC 4556, section 3.2.2). Test: `other realm`, `realm in small letters`.
    refuse (not (is_same_realm principal.realm.0 expected.realm)) NameMismatch
    -- The principalName of KRB5PrincipalName has the components of the principal's name (RFC 4556, section 3.2.2).
    -- Test: `other principal`, `component more`.
    (refuse (not (is_same_name (components principal.principal_name.0) expected.name)) NameMismatch
    (done (Ok tt)))))

-- The DER of the principal `a` of the realm `R`, with the name type 1.
a_of_r : der (principal_tree (record {
  realm = record { 0 = codes "R" };
  principal_name = record { 0 = record { name_type = record { 0 = pos 1 }; name_string = record { 0 = codes "a" ∷ [] } } };
})) ≡ 0x30 ∷ 0x15 ∷ 0xA0 ∷ 0x03 ∷ 0x1B ∷ 0x01 ∷ 0x52 ∷ 0xA1 ∷ 0x0E ∷ 0x30 ∷ 0x0C ∷ 0xA0 ∷ 0x03 ∷ 0x02 ∷ 0x01 ∷ 0x01 ∷ 0xA1 ∷ 0x05 ∷ 0x30 ∷ 0x03 ∷ 0x1B ∷ 0x01 ∷ 0x61 ∷ []
unfolding element length_octets integer_content natural_octets
a_of_r = refl
