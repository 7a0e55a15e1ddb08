-- How the parts of signed data are spelled.
use Rattle.std.proofs.Common.{◌≡◌, ℕ, Bool, List, [], ◌∷◌, ◌++◌, refl}
use Rattle.asn1_der.specs.Length.{element}
use Rattle.asn1_der.specs.Tree.{Tree, primitive, constructed, wrapped, more, none, leaf, der, IsWhole}
use Rattle.asn1_der.proofs.Leaf.{leaf-whole, der-leaf}
use Rattle.picky_asn1_der.specs.PathLaws.{IsElement, LeadsTo, go_on, alone_at, second_at}
use Rattle.picky_asn1.specs.declared.wrapper.ObjectIdentifierAsn1.{ObjectIdentifierAsn1}
use Rattle.x509_algorithms.specs.declared.algorithm_identifier.AlgorithmIdentifier.{AlgorithmIdentifier}
use Rattle.x509_certificates.specs.declared.certificate.Certificate.{Certificate}
use Rattle.x509_fields.specs.declared.raw_algorithm_identifier.RawAlgorithmIdentifier.{RawAlgorithmIdentifier}
use Rattle.cms_signed_data.specs.declared.encapsulated_content_info.EncapsulatedContentInfo.{EncapsulatedContentInfo}
use Rattle.cms_signed_data.specs.declared.signed_attributes.SignedAttributes.{SignedAttributes}
use Rattle.cms_signed_data.specs.declared.signer_info.IssuerAndSerialNumber.{IssuerAndSerialNumber}
use Rattle.cms_signed_data.specs.SpelledElements.{SpellsElements}
use Rattle.asn1_der.specs.Octets.{context_0_octet, object_identifier_octet, octet_string_octet, sequence_octet, set_octet}

-- the spelling of each part, which is an element; and where content and digest are in the two parts that hold them
pub record PartSpellings : Type 1 where
  pub oid : ObjectIdentifierAsn1 → List ℕ → ℕ → Type 0
  pub oid_are : SpellsElements oid
  pub version : ℕ → List ℕ → ℕ → Type 0
  pub version_are : SpellsElements version
  pub digest_algorithm : RawAlgorithmIdentifier → List ℕ → ℕ → Type 0
  pub digest_algorithm_are : SpellsElements digest_algorithm
  pub encapsulated : EncapsulatedContentInfo → List ℕ → ℕ → Type 0
  pub encapsulated_are : SpellsElements encapsulated
  pub certificate : Certificate → List ℕ → ℕ → Type 0
  pub certificate_are : SpellsElements certificate
  pub sid : IssuerAndSerialNumber → List ℕ → ℕ → Type 0
  pub sid_are : SpellsElements sid
  pub attributes : SignedAttributes → List ℕ → ℕ → Type 0
  pub attributes_are : SpellsElements attributes
  pub algorithm : AlgorithmIdentifier → List ℕ → ℕ → Type 0
  pub algorithm_are : SpellsElements algorithm
  pub octets : List ℕ → List ℕ → ℕ → Type 0
  pub octets_are : SpellsElements octets
  pub octets_is : (v : List ℕ) (b : List ℕ) (n : ℕ) → octets v b n → b ≡ element octet_string_octet v
  pub content_there : (v : EncapsulatedContentInfo) (b : List ℕ) (n : ℕ) → encapsulated v b n → LeadsTo b (1 ∷ 0 ∷ []) (element octet_string_octet v.content.0)
  pub digest_there : (v : SignedAttributes) (b : List ℕ) (n : ℕ) → attributes v b n → LeadsTo b (1 ∷ 1 ∷ 0 ∷ []) (element octet_string_octet v.message_digest.values.0)

oid_element : (valid : Bool) (oid : List ℕ) → IsWhole (leaf valid object_identifier_octet oid) → IsElement (der (leaf valid object_identifier_octet oid))
oid_element valid oid whole = (object_identifier_octet, oid, refl, der-leaf valid object_identifier_octet oid (leaf-whole valid object_identifier_octet oid whole))

-- a content of this type (RFC 5652, section 5.2)
pub content_at : (valid : Bool) (oid octets b : List ℕ)
    → IsWhole (constructed sequence_octet (more (leaf valid object_identifier_octet oid) (more (wrapped context_0_octet (primitive octet_string_octet octets)) none)))
    → b ≡ der (constructed sequence_octet (more (leaf valid object_identifier_octet oid) (more (wrapped context_0_octet (primitive octet_string_octet octets)) none)))
    → LeadsTo b (1 ∷ 0 ∷ []) (element octet_string_octet octets)
content_at valid oid octets b whole is =
    go_on b (element context_0_octet (element octet_string_octet octets ++ [])) (element octet_string_octet octets) (1 ∷ []) (0 ∷ [])
    (second_at sequence_octet (der (leaf valid object_identifier_octet oid)) (element context_0_octet (element octet_string_octet octets ++ [])) b refl (oid_element valid oid whole.0) (context_0_octet, element octet_string_octet octets ++ [], refl, refl) is)
    (alone_at context_0_octet (element octet_string_octet octets) (element context_0_octet (element octet_string_octet octets ++ [])) refl (octet_string_octet, octets, refl, refl) refl)

-- the attribute message-digest that follows another one (RFC 5652, sections 5.3 and 11.2)
pub digest_at : (valid : Bool) (oid octets : List ℕ) (first : Tree) (b : List ℕ) → IsElement (der first)
    → IsWhole (constructed context_0_octet (more first (more (constructed sequence_octet (more (leaf valid object_identifier_octet oid) (more (wrapped set_octet (primitive octet_string_octet octets)) none))) none)))
    → b ≡ der (constructed context_0_octet (more first (more (constructed sequence_octet (more (leaf valid object_identifier_octet oid) (more (wrapped set_octet (primitive octet_string_octet octets)) none))) none)))
    → LeadsTo b (1 ∷ 1 ∷ 0 ∷ []) (element octet_string_octet octets)
digest_at valid oid octets first b front whole is =
    let set : List ℕ = element set_octet (element octet_string_octet octets ++ []) in
    let attribute : List ℕ = element sequence_octet (der (leaf valid object_identifier_octet oid) ++ (set ++ [])) in
    let outer : LeadsTo b (1 ∷ []) attribute =
    second_at context_0_octet (der first) attribute b refl front (sequence_octet, der (leaf valid object_identifier_octet oid) ++ (set ++ []), refl, refl) is in
    let inner : LeadsTo attribute (1 ∷ []) set =
    second_at sequence_octet (der (leaf valid object_identifier_octet oid)) set attribute refl (oid_element valid oid whole.1.0.0) (set_octet, element octet_string_octet octets ++ [], refl, refl) refl in
    let alone : LeadsTo set (0 ∷ []) (element octet_string_octet octets) = alone_at set_octet (element octet_string_octet octets) set refl (octet_string_octet, octets, refl, refl) refl in
    go_on b attribute (element octet_string_octet octets) (1 ∷ []) (1 ∷ 0 ∷ []) outer (go_on attribute set (element octet_string_octet octets) (1 ∷ []) (0 ∷ []) inner alone)
