-- Why nothing was written, and what was.
use Rattle.std.proofs.Common.{◌≡◌, ℕ, List, Result, Ok, Err, refl, sym, ap, ◌∙◌, subst, inl, inr}
use Rattle.std.specs.Prelude.{◌⊎◌, Option, None, Some, IfOk}
use Rattle.asn1_leaves.specs.ObjectIdentifier.{IsObjectIdentifier}
use Rattle.asn1_der.specs.Tree.{Tree, der, IsWhole}
use Rattle.asn1_der.specs.Tagged.{tagged_tree, leaf_as}
use Rattle.picky_asn1.specs.contracts.encoding.oid.ObjectIdentifierAsn1Leaf.TheImpl as oid_leaf
use Rattle.picky_asn1.specs.declared.wrapper.ObjectIdentifierAsn1.{ObjectIdentifierAsn1}
use Rattle.x509_oids.specs.Identifiers as oids
use Rattle.x509_fields.specs.RawParameters.{null}
use Rattle.x509_fields.specs.contracts.raw_algorithm_identifier.RawAlgorithmIdentifierSerialize.TheImpl as raw_impl
use Rattle.x509_fields.specs.contracts.raw_algorithm_identifier.RawAlgorithmIdentifierSpelled.TheImpl as raw_spelled
use Rattle.x509_fields.specs.declared.raw_algorithm_identifier.RawAlgorithmIdentifier.{RawAlgorithmIdentifier}
use Rattle.x509_spelling.specs.Spellings.{IsExact}
use Rattle.cms_signed_data.specs.contracts.encapsulated_content_info.EncapsulatedContentInfoTagged.TheImpl as encapsulated_impl
use Rattle.cms_signed_data.specs.declared.encapsulated_content_info.EncapsulatedContentInfo.{EncapsulatedContentInfo}
use Rattle.cms_signed_data.proofs.WholeLemmas.{oid_whole, id_whole}
use Rattle.x509_certificates.specs.contracts.certificate.CertificateSpelled.TheImpl as certificate
use Rattle.x509_codec.specs.Answers.{ReadsSpelling}
use Rattle.x509_spelling.specs.declared.fault.X509Fault.{X509Fault}
use Rattle.x509_spelling.specs.declared.fault.X509Fault.TheVariants as x509
use Rattle.x509_certificates.specs.declared.certificate.Certificate.{Certificate}
use Rattle.cms_signed_data.specs.Faults.{fault_of}
use Rattle.cms_signed_data.specs.Around.{IsInfoAround}
use Rattle.x509_codec.specs.Covered.{as_set}
use Rattle.cms_signed_data.specs.SignedParts.{attributes_tree}
use Rattle.cms_signed_data.specs.Written.{sha256_algorithm, encapsulated_of, attributes_of, signed_bytes, id_of, id_tree, signer_of, IsWritten, IsUnsigned, IsNoCertificate}
use Rattle.x509_keys.specs.declared.functions.Signed.{Signed}
use Rattle.cms_signed_data.specs.contracts.signer_info.SignerInfoSpelled.TheImpl as signer_info
use Rattle.cms_signed_data.specs.declared.signed_attributes.SignedAttributes.{SignedAttributes}
use Rattle.cms_signed_data.specs.declared.signer_info.IssuerAndSerialNumber.{IssuerAndSerialNumber}
use Rattle.cms_signed_data.specs.declared.signer_info.SignerInfo.{SignerInfo}
use Rattle.cms_signed_data.specs.declared.fault.SignedFault.TheVariants.{Unreadable, Memory}

fault_cases : (fault : X509Fault) → (fault_of fault ≡ Memory) ⊎ (fault_of fault ≡ Unreadable)
fault_cases x509.Der = inr refl
fault_cases x509.Leaf = inr refl
fault_cases x509.Meaning = inr refl
fault_cases x509.Memory = inl refl

-- the bytes are no certificate's, or memory ran out
pub no_certificate : (given : List ℕ) (fault : X509Fault) → ReadsSpelling certificate.ghosts.spells given (Err fault)
    → (fault_of fault ≡ Memory) ⊎ ((fault_of fault ≡ Unreadable) × IsNoCertificate given)
no_certificate given fault (inl memory) = let same : fault ≡ x509.Memory = cc (memory) in inl (ap fault_of same)
no_certificate given fault (inr none) =
    elim (fault_cases fault) [
      | inl memory ↦ inl memory
      | inr unreadable ↦
          inr (unreadable, λ value count s. let found : Err fault ≡ Ok value = (none value).1 (count, s) in absurd (cc (found)))
    ]

pub spelled_of : (given : List ℕ) (value : Certificate) → ReadsSpelling certificate.ghosts.spells given (Ok value) → (n : ℕ) × certificate.ghosts.spells value given n
spelled_of given value (inl memory) = absurd (cc (memory))
spelled_of given value (inr reads) = (reads value).0 refl

pub ok_of : {T E : Type 0} (r : Result T E) (v : T) (P : T → Type 0) → IfOk r P → r ≡ Ok v → P v
ok_of {T} {E} r v P holds is = subst (λ (x : Result T E). IfOk x P) is holds

-- the spelling of a value that is the wanted one
moved : {T : Type 0} (tree : T → Tree) (spells : T → List ℕ → ℕ → Type 0) (v w : T) (bytes : List ℕ) → v ≡ w → IsWhole (tree w) → (IsWhole (tree v) → spells v bytes 0) → spells w bytes 0
moved {T} tree spells v w bytes same whole s = subst (λ (x : T). spells x bytes 0) same (s (subst (λ (x : T). IsWhole (tree x)) (sym same) whole))

abbrev pub oid_tree : ObjectIdentifierAsn1 → Tree
oid_tree = tagged_tree 6 (leaf_as oid_leaf.ghosts.is_valid oid_leaf.ghosts.content_of) (λ v. v)

abbrev pub encapsulated_tree : EncapsulatedContentInfo → Tree
encapsulated_tree = tagged_tree 48 encapsulated_impl.ghosts.row_tree encapsulated_impl.ghosts.row_of

pub sha256_spelled : (made : RawAlgorithmIdentifier) (oid bytes : List ℕ) → made.algorithm ≡ record { 0 = oid } → oid ≡ oids.sha256 → made.parameters.0 ≡ null
    → (IsWhole (raw_impl.ghosts.tree made) → raw_spelled.ghosts.spells made bytes 0) → raw_spelled.ghosts.spells sha256_algorithm bytes 0
sha256_spelled made oid bytes same is_oid is_null s =
    let oids_are : made.algorithm ≡ record { 0 = oids.sha256 } = same ∙ (λ i. record { 0 = is_oid i }) in
    let all : made ≡ sha256_algorithm = λ i. record { algorithm = oids_are i; parameters = record { 0 = is_null i } } in
    moved raw_impl.ghosts.tree raw_spelled.ghosts.spells made sha256_algorithm bytes all (tt, (tt, tt)) s

pub encapsulated_spelled : (content_type content : List ℕ) (made : EncapsulatedContentInfo) (bytes : List ℕ) → IsObjectIdentifier content_type → made ≡ encapsulated_of content_type content
    → (IsWhole (encapsulated_tree made) → IsExact encapsulated_tree made bytes 0) → IsExact encapsulated_tree (encapsulated_of content_type content) bytes 0
encapsulated_spelled content_type content made bytes valid same s =
    moved encapsulated_tree (IsExact encapsulated_tree) made (encapsulated_of content_type content) bytes same (oid_whole content_type valid, ((tt, tt), tt)) s

pub oid_spelled : (arcs bytes : List ℕ) → arcs ≡ oids.signed_data → (IsWhole (oid_tree (record { 0 = arcs })) → IsExact oid_tree (record { 0 = arcs }) bytes 0)
    → IsExact oid_tree (record { 0 = oids.signed_data }) bytes 0
oid_spelled arcs bytes same s = moved oid_tree (IsExact oid_tree) (record { 0 = arcs }) (record { 0 = oids.signed_data }) bytes (λ i. record { 0 = same i }) tt s

-- what is signed is the attributes as a SET OF
pub signed_is : (content_type content attributes lent judged also : List ℕ) → lent ≡ attributes → attributes ≡ der (attributes_tree (attributes_of content_type content))
    → judged ≡ as_set lent → also ≡ judged → also ≡ signed_bytes content_type content
signed_is content_type content attributes lent judged also is_lent are_attributes is_judged is_also = is_also ∙ is_judged ∙ ap as_set (is_lent ∙ are_attributes)

abbrev pub IsId : List ℕ → List ℕ → Type 0
IsId given id = (value : Certificate) × (n : ℕ) × certificate.ghosts.spells value given n × (id ≡ der (id_tree (id_of value)))

pub unsigned : (sign : List ℕ → Option Signed) (content_type content given id attributes judged also lent : List ℕ) → IsId given id
    → lent ≡ attributes → attributes ≡ der (attributes_tree (attributes_of content_type content)) → judged ≡ as_set lent → also ≡ judged
    → (answer : Option Signed) → answer ≡ sign also → answer ≡ None → IsUnsigned sign content_type content given
unsigned sign content_type content given id attributes judged also lent is_id is_lent are_attributes is_judged is_also answer signs none =
    let same : also ≡ signed_bytes content_type content = signed_is content_type content attributes lent judged also is_lent are_attributes is_judged is_also in
    ((is_id.0, is_id.1, is_id.2), ap sign (sym same) ∙ sym signs ∙ none)

pub written : (sign : List ℕ → Option Signed) (content_type content given id attributes judged also lent : List ℕ) → IsId given id
    → lent ≡ attributes → (attributes ≡ der (attributes_tree (attributes_of content_type content))) × IsWhole (attributes_tree (attributes_of content_type content))
    → judged ≡ as_set lent → also ≡ judged → (answer : Option Signed) (signed : Signed) → answer ≡ sign also → answer ≡ Some signed
    → (id_lent attributes_lent signer signer_lent bytes : List ℕ) → id_lent ≡ id → attributes_lent ≡ attributes
    → ((sid : IssuerAndSerialNumber) (held : SignedAttributes) → IsExact id_tree sid id_lent 0 → IsExact attributes_tree held attributes_lent 0
    → signer_info.ghosts.spells (signer_of sid held signed) signer 0)
    → signer_lent ≡ signer
    → ((value : Certificate) (n : ℕ) (made : SignerInfo) → certificate.ghosts.spells value given n → signer_info.ghosts.spells made signer_lent 0
    → IsInfoAround content_type content value n made given bytes)
    → IsWritten sign content_type content given bytes
written sign content_type content given id attributes judged also lent is_id is_lent are_attributes is_judged is_also answer signed signs some
    id_lent attributes_lent signer signer_lent bytes is_id_lent are_lent makes_signer is_signer_lent makes_info =
    let same : also ≡ signed_bytes content_type content = signed_is content_type content attributes lent judged also is_lent are_attributes.0 is_judged is_also in
    let held : SignedAttributes = attributes_of content_type content in
    let sid_spelled : IsExact id_tree (id_of is_id.0) id_lent 0 = ((id_whole is_id.0 given is_id.1 is_id.2, is_id_lent ∙ is_id.3), refl) in
    let attributes_spelled : IsExact attributes_tree held attributes_lent 0 = ((are_attributes.1, are_lent ∙ are_attributes.0), refl) in
    let made : SignerInfo = signer_of (id_of is_id.0) held signed in
    let is_made : signer_info.ghosts.spells made signer_lent 0 =
    subst (λ (l : List ℕ). signer_info.ghosts.spells made l 0) (sym is_signer_lent) (makes_signer (id_of is_id.0) held sid_spelled attributes_spelled) in
    let around : IsInfoAround content_type content is_id.0 is_id.1 made given bytes = makes_info is_id.0 is_id.1 made is_id.2 is_made in
    record {
      value = is_id.0;
      count = is_id.1;
      signed = signed;
      certificate_spelled = is_id.2;
      signs = ap sign (sym same) ∙ sym signs ∙ some;
      spelled = around.spelled;
      certificate_at = around.certificate_at;
    }
