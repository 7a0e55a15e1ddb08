-- The values of attributes (RFC 2985, section 5; RFC 5652, section 11): an identifier decides of which type they are.
use Rattle.std.specs.Prelude.{◌≡◌, ℕ, Bool, ◌==◌, if◌then◌else◌, List, [], ◌∷◌, ⊤, refl, IsTrue}
use Rattle.std.specs.Bool.{nat_eq}
use Rattle.std.specs.Cmp.Lexicographic.{pointwise}
use Rattle.asn1_leaves.specs.ObjectIdentifier.{oid_content, subidentifier}
use Rattle.picky_asn1.specs.declared.wrapper.ObjectIdentifierAsn1.{ObjectIdentifierAsn1}
use Rattle.x509_oids.specs.Identifiers as oids
use Rattle.x509_fields.specs.declared.time.Time.{Time}
use Rattle.x509_spelling.specs.declared.kinds.KindOf.{KindOf}
use Rattle.x509_spelling.specs.declared.kinds.KindOf.TheVariants.{This, Other}
use Rattle.x509_spelling.specs.declared.kinds.LastKind.{LastKind}
use Rattle.x509_spelling.specs.Kinds.{case_belongs}
use Rattle.x509_certificates.specs.declared.extension.Extension.{Extension}
use Rattle.x509_certificates.specs.declared.any_values.AnyValues.{AnyValues}
use Rattle.x509_certificates.specs.declared.attribute_values.AttributeValues.{AttributeValues}
use Rattle.x509_certificates.specs.declared.attribute_values.AttributeValues.TheVariants as kind

-- the content octets of an attribute of PKCS #9
abbrev pub pkcs_9 : ℕ → List ℕ
pkcs_9 number = 0x2A ∷ 0x86 ∷ 0x48 ∷ 0x86 ∷ 0xF7 ∷ 0x0D ∷ 1 ∷ 9 ∷ number ∷ []

-- the content octets of the attribute of a statement's purposes
abbrev pub statement_type : List ℕ
statement_type = 0x2B ∷ 6 ∷ 1 ∷ 4 ∷ 1 ∷ 0x82 ∷ 0x37 ∷ 2 ∷ 1 ∷ 11 ∷ []

-- id-data (RFC 5652, section 4)
abbrev pub id_data : List ℕ
id_data = 1 ∷ 2 ∷ 840 ∷ 113549 ∷ 1 ∷ 7 ∷ 1 ∷ []

-- extensionRequest, contentType, a statement's purposes, messageDigest and signingTime by a number each, others by 0
abbrev pub attribute_number : List ℕ → ℕ
attribute_number content =
    if pointwise nat_eq content (pkcs_9 14) then 14
    else (if pointwise nat_eq content (pkcs_9 3) then 3
    else (if pointwise nat_eq content statement_type then 11
    else (if pointwise nat_eq content (pkcs_9 4) then 4
    else (if pointwise nat_eq content (pkcs_9 5) then 5 else 0))))

abbrev Alone : Type 0 → Type 0
Alone T = T × ⊤

abbrev pub AttributeKinds : Type 0
AttributeKinds =
    KindOf (Alone (List (List Extension))) (KindOf (Alone (List ObjectIdentifierAsn1)) (KindOf (Alone (List (List ObjectIdentifierAsn1)))
    (KindOf (Alone (List (List ℕ))) (KindOf (Alone (List Time)) (LastKind (Alone AnyValues))))))

-- the values as one of six kinds
abbrev pub kinds_of : AttributeValues → AttributeKinds
kinds_of (kind.Extensions values) = This (values, tt)
kinds_of (kind.ContentType values) = Other (This (values, tt))
kinds_of (kind.SpcStatementType values) = Other (Other (This (values, tt)))
kinds_of (kind.MessageDigest values) = Other (Other (Other (This (values, tt))))
kinds_of (kind.SigningTime values) = Other (Other (Other (Other (This (values, tt)))))
kinds_of (kind.Custom values) = Other (Other (Other (Other (Other (record { 0 = (values, tt) })))))

abbrev pub values_made : AttributeKinds → AttributeValues
values_made (This fields) = kind.Extensions fields.0
values_made (Other (This fields)) = kind.ContentType fields.0
values_made (Other (Other (This fields))) = kind.SpcStatementType fields.0
values_made (Other (Other (Other (This fields)))) = kind.MessageDigest fields.0
values_made (Other (Other (Other (Other (This fields))))) = kind.SigningTime fields.0
values_made (Other (Other (Other (Other (Other last))))) = kind.Custom last.0.0

pub values_back : (v : AttributeValues) → values_made (kinds_of v) ≡ v
values_back (kind.Extensions values) = refl
values_back (kind.ContentType values) = refl
values_back (kind.SpcStatementType values) = refl
values_back (kind.MessageDigest values) = refl
values_back (kind.SigningTime values) = refl
values_back (kind.Custom values) = refl

abbrev pub is_numbered : ℕ → List ℕ → Bool
is_numbered number arcs = attribute_number (oid_content arcs) == number

-- the identifier decides the kind: the first of these that it tells, and values of any type where it tells none
abbrev pub is_value_of : List ℕ → AttributeValues → Bool
is_value_of arcs values =
    case_belongs (is_numbered 14) (case_belongs (is_numbered 3) (case_belongs (is_numbered 11) (case_belongs (is_numbered 4) (case_belongs (is_numbered 5)
    (λ oid (last : LastKind (Alone AnyValues)). is_numbered 0 oid)))))
    arcs (kinds_of values)

-- each kind belongs to its identifier

pub belongs_extensions : (values : List (List Extension)) → IsTrue (is_value_of oids.extension_req (kind.Extensions values))
unfolding oid_content subidentifier
belongs_extensions values = refl

pub belongs_type : (values : List ObjectIdentifierAsn1) → IsTrue (is_value_of oids.content_type (kind.ContentType values))
unfolding oid_content subidentifier
belongs_type values = refl

pub belongs_statement : (values : List (List ObjectIdentifierAsn1)) → IsTrue (is_value_of oids.spc_statement_type (kind.SpcStatementType values))
unfolding oid_content subidentifier
belongs_statement values = refl

pub belongs_digest : (values : List (List ℕ)) → IsTrue (is_value_of oids.message_digest (kind.MessageDigest values))
unfolding oid_content subidentifier
belongs_digest values = refl

pub belongs_time : (values : List Time) → IsTrue (is_value_of oids.signing_time (kind.SigningTime values))
unfolding oid_content subidentifier
belongs_time values = refl
