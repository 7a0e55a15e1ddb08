-- Signed data of the one form is signed data of the general form.
use Rattle.std.proofs.Common.{◌≡◌, ℕ, Bool, true, false, List, [], ◌∷◌, ◌++◌, Option, None, Some, refl, sym, ap, ◌∙◌, subst, ⊎_elim, eq-eqb}
use Rattle.std.specs.Prelude.{◌==◌, ◌&&◌, ◌||◌, if◌then◌else◌}
use Rattle.std.specs.List.{list_any}
use Rattle.std.specs.Bool.{nat_eq}
use Rattle.std.specs.Cmp.Lexicographic.{pointwise}
use Rattle.std.proofs.lemmas.Bool.{and_parts, eqb-true}
use Rattle.asn1_der.specs.Length.{element}
use Rattle.asn1_der.specs.Octets.{context_0_octet, object_identifier_octet, octet_string_octet, sequence_octet, set_octet}
use Rattle.asn1_der.specs.Tagged.{tagged_tree}
use Rattle.asn1_der.specs.Tree.{AreWhole, IsWhole, Tree, Trees, constructed, der, ders, leaf, more, none, wrapped}
use Rattle.asn1_der.proofs.Spelling.{ders-one}
use Rattle.asn1_leaves.specs.ObjectIdentifier.{is_object_identifier, oid_content}
use Rattle.picky_asn1.specs.Bytes.{Bytes}
use Rattle.picky_asn1.specs.declared.wrapper.ObjectIdentifierAsn1.{ObjectIdentifierAsn1}
use Rattle.picky_asn1_der.specs.PartLaws.{part-one}
use Rattle.picky_asn1_der.specs.Parts.{IsPart}
use Rattle.picky_asn1_der.specs.PathLaws.{IsElement, LeadsTo, go_on, held_at, part_there}
use Rattle.picky_asn1_der.specs.Raw.{Raw, has_low_number, raw_tree}
use Rattle.picky_asn1_der.specs.Splits.{raw_bytes}
use Rattle.x509_fields.specs.RawParameters.{is_null}
use Rattle.x509_fields.specs.contracts.raw_algorithm_identifier.RawAlgorithmIdentifierSpelled.TheImpl as raw_algorithm_impl
use Rattle.x509_fields.specs.declared.raw_algorithm_identifier.RawAlgorithmIdentifier.{RawAlgorithmIdentifier}
use Rattle.cms_signed_data.specs.Digests.{are_no_parameters, digest_named, named_by}
use Rattle.cms_signed_data.specs.contracts.general_form.any_algorithm.AnyAlgorithmTagged.TheImpl as any_impl
use Rattle.cms_signed_data.specs.declared.general_form.digest_algorithm.DigestAlgorithm.{DigestAlgorithm}
use Rattle.cms_signed_data.specs.declared.general_form.digest_algorithm.DigestAlgorithm.TheVariants.{Sha1, Sha256, Sha384, Sha512}
use Rattle.cms_signed_data.specs.declared.general_form.digest_algorithm.TheConstants.{SHA1, SHA256, SHA384, SHA512}
use Rattle.cms_signed_data.specs.declared.general_form.any_algorithm.AnyAlgorithm.{AnyAlgorithm}
use Rattle.cms_signed_data.specs.Form.{are_attributes, content_type_id, has_form, is_id, is_sha256, is_signed, is_signer, message_digest_id, sha256_id, signed_data_id}
use Rattle.cms_signed_data.specs.Parts.{AreCertificates, AreDigests, AreSigners, IsTagged, certificate_place, certificates_are, digests_are, signed_are, signers_are, tagged_are}
use Rattle.cms_signed_data.specs.PartSpellings.{PartSpellings}
use Rattle.cms_signed_data.specs.SignedContents.{IsSignedContent}
use Rattle.cms_signed_data.specs.SignedLaws as one
use Rattle.cms_signed_data.specs.SignedParts.{SignedParts, attributes_tree, digest_of}
use Rattle.cms_signed_data.specs.SignedRows.{content_row, signed_row}
use Rattle.cms_signed_data.specs.SignedRowLaws.{fourth_leads, second_leads}
use Rattle.cms_signed_data.specs.contracts.content_info.ContentInfoSpelled.TheImpl as content_info
use Rattle.cms_signed_data.specs.contracts.form.ContentInfoOfForm.TheImpl as of_form
use Rattle.cms_signed_data.specs.contracts.signed_data.SignedDataSpelled.TheImpl as signed_impl
use Rattle.cms_signed_data.specs.contracts.signer_info.SignerInfoSpelled.TheImpl as signer_impl
use Rattle.cms_signed_data.specs.declared.content_info.ContentInfo.{ContentInfo}
use Rattle.cms_signed_data.specs.declared.signed_attributes.SignedAttributes.{SignedAttributes}
use Rattle.cms_signed_data.specs.declared.signer_info.SignerInfo.{SignerInfo}
use Rattle.cms_signed_data.specs.GeneralContents.{GeneralParts, IsGeneralContent, IsGeneralInfo, attributes_der, general_tree}
use Rattle.cms_signed_data.specs.GeneralForm.{both, digest_in, fits_version, has_general_form, has_type, held_in, is_identifier, is_of_type, octets_in, only, sole_of, sole_value}
use Rattle.cms_signed_data.specs.Identifiers.{id_content}
use Rattle.cms_signed_data.specs.OneForm.{IsSameData, attributes_general, sid_element}
use Rattle.cms_signed_data.specs.contracts.general_form.attributes.GeneralAttributesTagged.TheImpl as attributes_impl
use Rattle.cms_signed_data.specs.contracts.general_form.general_signer.GeneralSignerTagged.TheImpl as general_signer_impl
use Rattle.cms_signed_data.specs.declared.general_form.attributes.GeneralAttribute.{GeneralAttribute}
use Rattle.cms_signed_data.specs.declared.general_form.form.TheConstants.{CONTENT_TYPE, MESSAGE_DIGEST}
use Rattle.cms_signed_data.specs.declared.general_form.general_info.GeneralInfo.{GeneralInfo}
use Rattle.cms_signed_data.specs.declared.general_form.general_signer.GeneralSigner.{GeneralSigner}

-- Part 1. Trees that are written as some bytes, piece by piece.

-- the bytes are the encoding of the tree, in which nothing is missing
pub record Written (t : Tree) (b : Bytes) : Type 0 where
  pub whole : IsWhole t
  pub bytes : b ≡ der t

pub record AreWritten (ts : Trees) (b : Bytes) : Type 0 where
  pub whole : AreWhole ts
  pub bytes : b ≡ ders ts

exactly : {t : Tree} {b : Bytes} → IsWhole t × (b ≡ der t) → Written t b
exactly w = record { whole = w.0; bytes = w.1 }

ends : {b : Bytes} → b ≡ [] → AreWritten none b
ends e = record { whole = tt; bytes = e }

next : {t : Tree} {ts : Trees} {front rest b : Bytes} → Written t front → AreWritten ts rest → b ≡ front ++ rest → AreWritten (more t ts) b
next w others e = record { whole = (w.whole, others.whole); bytes = e ∙ (λ i. w.bytes i ++ others.bytes i) }

alone : {t : Tree} {b : Bytes} → Written t b → AreWritten (more t none) b
alone {t} w = record { whole = (w.whole, tt); bytes = w.bytes ∙ sym (ders-one t) }

held : {first : ℕ} {ts : Trees} {content b : Bytes} → AreWritten ts content → b ≡ element first content → Written (constructed first ts) b
held {first} w e = record { whole = w.whole; bytes = e ∙ ap (element first) w.bytes }

-- an element of any type
abbrev raw_at : (b : Bytes) → IsElement b → Raw
raw_at b e = record { first = e.0; content = e.1 }

of_leaf : (valid : Bool) (first : ℕ) (content b : Bytes) → valid ≡ true → b ≡ element first content → Written (leaf valid first content) b
of_leaf true first content b low e = record { whole = tt; bytes = e }
of_leaf false first content b low e = absurd (cc (low))

raw : (b : Bytes) (e : IsElement b) → Written (raw_tree (raw_at b e)) b
raw b e = of_leaf (has_low_number e.0) e.0 e.1 b e.2 e.3

-- Part 2. Octets that are compared.

pub same_list : (a b : List ℕ) → pointwise nat_eq a b ≡ true → a ≡ b
same_list [] [] e = refl
same_list [] (y ∷ b) e = absurd (cc (e))
same_list (x ∷ a) [] e = absurd (cc (e))
same_list (x ∷ a) (y ∷ b) e =
    let parts = and_parts (nat_eq x y) (pointwise nat_eq a b) e in
    let first : x ≡ y = eqb-true x y parts.0 in
    let rest : a ≡ b = same_list a b parts.1 in
    λ i. first i ∷ rest i

pub same_itself : (a : List ℕ) → pointwise nat_eq a a ≡ true
same_itself [] = refl
same_itself (x ∷ a) = λ i. eq-eqb x x refl i && same_itself a i

-- Part 3. The digest algorithm.

-- the algorithm with these content octets
abbrev chosen : Bytes → Option DigestAlgorithm
chosen content =
    if pointwise nat_eq content SHA1 then Some Sha1
    else if pointwise nat_eq content SHA256 then Some Sha256
    else if pointwise nat_eq content SHA384 then Some Sha384
    else if pointwise nat_eq content SHA512 then Some Sha512
    else None

named_sha256 : (oid : ObjectIdentifierAsn1) → is_id oid sha256_id ≡ true → named_by oid ≡ Some Sha256
named_sha256 oid e = subst (λ (content : List ℕ). chosen content ≡ Some Sha256) (sym (same_list (oid_content oid.0) sha256_id e)) refl

named_with : (oid : ObjectIdentifierAsn1) (parameters : List Raw) → are_no_parameters parameters ≡ true → is_id oid sha256_id ≡ true
    → digest_named (record { algorithm = oid; parameters = parameters }) ≡ Some Sha256
unfolding digest_named
named_with oid parameters without e = ap (λ (b : Bool). if b then named_by oid else None) without ∙ named_sha256 oid e

abbrev any_tree : AnyAlgorithm → Tree
any_tree = tagged_tree sequence_octet any_impl.ghosts.row_tree any_impl.ghosts.row_of

abbrev oid_tree : ObjectIdentifierAsn1 → Tree
oid_tree oid = leaf (is_object_identifier oid.0) object_identifier_octet (oid_content oid.0)

-- what was found of a digest algorithm that is SHA-256
pub record FoundSha256 (b : Bytes) : Type 0 where
  pub algorithm : AnyAlgorithm
  pub written : Written (any_tree algorithm) b
  pub named : digest_named algorithm ≡ Some Sha256

missing : (oid : ObjectIdentifierAsn1) (front rest content b : Bytes) → Written (oid_tree oid) front → content ≡ front ++ rest → b ≡ element sequence_octet content
    → is_id oid sha256_id ≡ true → rest ≡ [] → FoundSha256 b
missing oid front rest content b w joined e is none_left = record {
  algorithm = record { algorithm = oid; parameters = [] };
  written = held (next w (ends none_left) joined) e;
  named = named_with oid [] refl is;
}

spelled_out : (oid : ObjectIdentifierAsn1) (parameters : Raw) (front middle behind rest content b : Bytes) → Written (oid_tree oid) front → content ≡ front ++ rest
    → b ≡ element sequence_octet content → is_id oid sha256_id ≡ true → is_null parameters ≡ true → Written (raw_tree parameters) middle → rest ≡ middle ++ behind → behind ≡ []
    → FoundSha256 b
spelled_out oid parameters front middle behind rest content b w joined e is null written further none_left = record {
  algorithm = record { algorithm = oid; parameters = parameters ∷ [] };
  written = held (next w (next written (ends none_left) further) joined) e;
  named = named_with oid (parameters ∷ []) null is;
}

found_sha256 : (v : RawAlgorithmIdentifier) (b : Bytes) (n : ℕ) → raw_algorithm_impl.ghosts.spells v b n → is_sha256 v ≡ true → FoundSha256 b
unfolding is_sha256
found_sha256 v b n s is =
    let parts = and_parts (is_id v.algorithm sha256_id) (is_null v.parameters.0) is in
    ⊎_elim
    (λ left. missing v.algorithm s.1.3.0 s.1.0 s.0 b (exactly s.1.3.1.0) s.1.3.3 s.2 parts.0 (sym left.3 ∙ s.1.4.4.0))
    (λ lead. spelled_out v.algorithm v.parameters.0 s.1.3.0 lead.0 s.1.4.0 s.1.0 s.0 b (exactly s.1.3.1.0) s.1.3.3 s.2 parts.0 parts.1 (exactly lead.1.0) lead.3 s.1.4.4.0)
    s.1.4.3

-- Part 4. The signed attributes.

abbrev general_attributes_tree : SignedAttributes → Tree
general_attributes_tree attributes = tagged_tree context_0_octet attributes_impl.ghosts.row_tree attributes_impl.ghosts.row_of (attributes_general attributes)

-- one value that is an identifier
identifier_set : (valid : Bool) (content : Bytes) → IsWhole (wrapped set_octet (leaf valid object_identifier_octet content))
    → der (wrapped set_octet (leaf valid object_identifier_octet content)) ≡ element set_octet (element object_identifier_octet content ++ [])
identifier_set true content whole = refl
identifier_set false content whole = absurd whole

attributes_written : (v : SignedAttributes) (b : Bytes) → IsWhole (attributes_tree v) × (b ≡ der (attributes_tree v)) → Written (general_attributes_tree v) b
attributes_written v b w =
    let values = v.content_type.values.0 in
    let set = identifier_set (is_object_identifier values.0) (oid_content values.0) w.0.0.1.0 in
    record {
      whole = ((w.0.0.0, ((tt, tt), tt)), (w.0.1.0, tt));
      bytes =
          w.1 ∙ (λ i. element context_0_octet (element sequence_octet (der (oid_tree v.content_type.ty) ++ (set i ++ []))
          ++ (element sequence_octet (der (oid_tree v.message_digest.ty) ++ (element set_octet (element octet_string_octet v.message_digest.values.0 ++ []) ++ [])) ++ [])));
    }

-- Part 5. The signer.

module _ (v : SignerInfo) (b : Bytes) (n : ℕ) (g : signer_impl.ghosts.spells v b n) (sha : is_sha256 v.digest_algorithm ≡ true) where
  abbrev digest_found : FoundSha256 g.1.4.4.3.0
  digest_found = found_sha256 v.digest_algorithm g.1.4.4.3.0 g.1.4.4.1 g.1.4.4.3.1 sha

  algorithm_is : IsElement g.1.4.4.4.4.3.0
  algorithm_is = of_form.ghosts.spellings.algorithm_are v.signature_algorithm g.1.4.4.4.4.3.0 g.1.4.4.4.4.1 g.1.4.4.4.4.3.1

  abbrev signer_general : GeneralSigner
  signer_general = record {
    version = v.version;
    sid = sid_element v.sid;
    digest_algorithm = digest_found.algorithm;
    signed_attributes = attributes_general v.signed_attributes;
    signature_algorithm = raw_at g.1.4.4.4.4.3.0 algorithm_is;
    signature = v.signature;
  }

  abbrev signer_tree : Tree
  signer_tree = tagged_tree sequence_octet general_signer_impl.ghosts.row_tree general_signer_impl.ghosts.row_of signer_general

  signer_written : Written signer_tree b
  unfolding id_content
  signer_written =
      held
      (next (exactly g.1.3.1.0)
      (next (exactly (tt, g.1.4.3.1.0.1))
      (next digest_found.written
      (next (attributes_written v.signed_attributes g.1.4.4.4.3.0 g.1.4.4.4.3.1.0)
      (next (raw g.1.4.4.4.4.3.0 algorithm_is)
      (next (exactly g.1.4.4.4.4.4.3.1.0) (ends g.1.4.4.4.4.4.4.0)
      g.1.4.4.4.4.4.3.3) g.1.4.4.4.4.3.3) g.1.4.4.4.3.3) g.1.4.4.3.3) g.1.4.3.3) g.1.3.3)
      g.2

  algorithm_spelled : (k : ℕ) × of_form.ghosts.spellings.algorithm v.signature_algorithm (raw_bytes signer_general.signature_algorithm) k
  algorithm_spelled =
      (g.1.4.4.4.4.1, subst (λ (l : Bytes). of_form.ghosts.spellings.algorithm v.signature_algorithm l g.1.4.4.4.4.1) algorithm_is.3 g.1.4.4.4.4.3.1)

-- Part 6. What the one form says.

pub record FormFacts (v : ContentInfo) : Type 0 where
  pub outer_type : is_id v.content_type signed_data_id ≡ true
  pub version : (v.content.0.version == 3) ≡ true
  pub signer_version : (v.content.0.signer_infos.0.version == 1) ≡ true
  pub digest : is_sha256 v.content.0.signer_infos.0.digest_algorithm ≡ true
  pub content_type : is_id v.content.0.signer_infos.0.signed_attributes.content_type.ty content_type_id ≡ true
  pub message_digest : is_id v.content.0.signer_infos.0.signed_attributes.message_digest.ty message_digest_id ≡ true
  pub same_type : pointwise nat_eq v.content.0.signer_infos.0.signed_attributes.content_type.values.0.0 v.content.0.encap_content_info.content_type.0 ≡ true

facts_of : (v : ContentInfo) → has_form v ≡ true → FormFacts v
unfolding has_form is_signed is_signer are_attributes
facts_of v form =
    let signed = v.content.0 in
    let signer = signed.signer_infos.0 in
    let type = signed.encap_content_info.content_type in
    let attributes = signer.signed_attributes in
    let types = pointwise nat_eq attributes.content_type.values.0.0 type.0 in
    let outer = and_parts (is_id v.content_type signed_data_id) (is_signed signed) form in
    let version = and_parts (signed.version == 3) (is_sha256 signed.digest_algorithms.0 && is_signer type signer) outer.1 in
    let digests = and_parts (is_sha256 signed.digest_algorithms.0) (is_signer type signer) version.1 in
    let signs = and_parts (signer.version == 1) (is_sha256 signer.digest_algorithm && are_attributes type attributes) digests.1 in
    let digest = and_parts (is_sha256 signer.digest_algorithm) (are_attributes type attributes) signs.1 in
    let first = and_parts (is_id attributes.content_type.ty content_type_id) (is_id attributes.message_digest.ty message_digest_id && types) digest.1 in
    let second = and_parts (is_id attributes.message_digest.ty message_digest_id) types first.1 in
    record {
      outer_type = outer.0;
      version = version.0;
      signer_version = signs.0;
      digest = digest.0;
      content_type = first.0;
      message_digest = second.0;
      same_type = second.1;
    }

if_true : {A : Type 0} (b : Bool) (x y : A) → b ≡ true → (if b then x else y) ≡ x
if_true true x y e = refl
if_true false x y e = absurd (cc (e))

if_false : {A : Type 0} (b : Bool) (x y : A) → b ≡ false → (if b then x else y) ≡ y
if_false true x y e = absurd (cc (e))
if_false false x y e = refl

-- of two attributes the first, or the second, is the one of a type
two_first : (ty : Bytes) (a c : GeneralAttribute) → is_of_type ty a ≡ true → is_of_type ty c ≡ false → sole_of ty (a ∷ c ∷ []) ≡ only a.values
two_first ty a c p q =
    if_true (is_of_type ty a) (sole_value ty a (c ∷ [])) (sole_of ty (c ∷ [])) p ∙ if_false (list_any (is_of_type ty) (c ∷ [])) None (only a.values) (λ i. q i || false)

two_second : (ty : Bytes) (a c : GeneralAttribute) → is_of_type ty a ≡ false → is_of_type ty c ≡ true → sole_of ty (a ∷ c ∷ []) ≡ only c.values
two_second ty a c p q = if_false (is_of_type ty a) (sole_value ty a (c ∷ [])) (sole_of ty (c ∷ [])) p ∙ if_true (is_of_type ty c) (sole_value ty c []) (sole_of ty []) q

-- an identifier of one attribute isn't the other's
other_type : (oid : ObjectIdentifierAsn1) (own other : Bytes) → is_id oid own ≡ true → pointwise nat_eq own other ≡ false → is_id oid other ≡ false
other_type oid own other is apart = subst (λ (content : List ℕ). pointwise nat_eq content other ≡ false) (sym (same_list (oid_content oid.0) own is)) apart

module _ (v : ContentInfo) (facts : FormFacts v) where
  abbrev attributes : SignedAttributes
  attributes = v.content.0.signer_infos.0.signed_attributes

  abbrev type_attribute : GeneralAttribute
  type_attribute = record {
    ty = attributes.content_type.ty;
    values = record { first = object_identifier_octet; content = oid_content attributes.content_type.values.0.0 } ∷ [];
  }

  abbrev digest_attribute : GeneralAttribute
  digest_attribute = record { ty = attributes.message_digest.ty; values = record { first = octet_string_octet; content = attributes.message_digest.values.0 } ∷ [] }

  sole_type : sole_of CONTENT_TYPE (attributes_general attributes).0 ≡ only type_attribute.values
  sole_type = two_first CONTENT_TYPE type_attribute digest_attribute facts.content_type (other_type attributes.message_digest.ty message_digest_id CONTENT_TYPE facts.message_digest refl)

  sole_digest : sole_of MESSAGE_DIGEST (attributes_general attributes).0 ≡ only digest_attribute.values
  sole_digest = two_second MESSAGE_DIGEST type_attribute digest_attribute (other_type attributes.content_type.ty content_type_id MESSAGE_DIGEST facts.content_type refl) facts.message_digest

  type_fits : is_identifier (oid_content v.content.0.encap_content_info.content_type.0) (sole_of CONTENT_TYPE (attributes_general attributes).0) ≡ true
  type_fits =
      ap (is_identifier (oid_content v.content.0.encap_content_info.content_type.0)) sole_type
      ∙ subst (λ (arcs : List ℕ). pointwise nat_eq (oid_content attributes.content_type.values.0.0) (oid_content arcs) ≡ true)
      (same_list attributes.content_type.values.0.0 v.content.0.encap_content_info.content_type.0 facts.same_type) (same_itself (oid_content attributes.content_type.values.0.0))

  digest_there : octets_in (sole_of MESSAGE_DIGEST (attributes_general attributes).0) ≡ Some attributes.message_digest.values.0
  digest_there = ap octets_in sole_digest

-- Part 7. The whole.

module _ (info : ContentInfo) (bytes : Bytes) (n : ℕ) (s : content_info.ghosts.spells info bytes n) (form : has_form info ≡ true) where
  abbrev signed_bytes : Bytes
  signed_bytes = s.1.4.3.1.0

  abbrev signed_spelled : signed_impl.ghosts.spells info.content.0 signed_bytes s.1.4.1
  signed_spelled = s.1.4.3.1.1

  facts : FormFacts info
  facts = facts_of info form

  abbrev digest_bytes : Bytes
  digest_bytes = signed_spelled.1.4.3.1.0

  digest_is : IsElement digest_bytes
  digest_is = of_form.ghosts.spellings.digest_algorithm_are info.content.0.digest_algorithms.0 digest_bytes signed_spelled.1.4.1 signed_spelled.1.4.3.1.1

  abbrev certificate_bytes : Bytes
  certificate_bytes = signed_spelled.1.4.4.4.3.1.0

  certificate_is : IsElement certificate_bytes
  certificate_is = of_form.ghosts.spellings.certificate_are info.content.0.certificates.0 certificate_bytes signed_spelled.1.4.4.4.1 signed_spelled.1.4.4.4.3.1.1

  abbrev signer_bytes : Bytes
  signer_bytes = signed_spelled.1.4.4.4.4.3.1.0

  abbrev signer_spelled : signer_impl.ghosts.spells info.content.0.signer_infos.0 signer_bytes signed_spelled.1.4.4.4.4.1
  signer_spelled = signed_spelled.1.4.4.4.4.3.1.1

  abbrev signer : GeneralSigner
  signer = signer_general info.content.0.signer_infos.0 signer_bytes signed_spelled.1.4.4.4.4.1 signer_spelled facts.digest

  abbrev info_general : GeneralInfo
  info_general = record {
    content_type = info.content_type;
    content = record {
      0 = record {
        version = info.content.0.version;
        digest_algorithms = raw_at digest_bytes digest_is ∷ [];
        encap_content_info = info.content.0.encap_content_info;
        certificates = record { 0 = raw_at certificate_bytes certificate_is ∷ [] };
        signer_infos = record { 0 = signer };
      };
    };
  }

  info_written : Written (general_tree info_general) bytes
  info_written =
      held
      (next (exactly s.1.3.1.0)
      (next
      (held
      (alone
      (held
      (next (exactly signed_spelled.1.3.1.0)
      (next (held (alone (raw digest_bytes digest_is)) signed_spelled.1.4.3.1.2)
      (next (exactly signed_spelled.1.4.4.3.1.0)
      (next (held (alone (raw certificate_bytes certificate_is)) signed_spelled.1.4.4.4.3.1.2)
      (next (held (alone (signer_written info.content.0.signer_infos.0 signer_bytes signed_spelled.1.4.4.4.4.1 signer_spelled facts.digest)) signed_spelled.1.4.4.4.4.3.1.2)
      (ends signed_spelled.1.4.4.4.4.4.0)
      signed_spelled.1.4.4.4.4.3.3) signed_spelled.1.4.4.4.3.3) signed_spelled.1.4.4.3.3) signed_spelled.1.4.3.3) signed_spelled.1.3.3)
      signed_spelled.2))
      s.1.4.3.1.2)
      (ends s.1.4.4.0) s.1.4.3.3) s.1.3.3)
      s.2

  digest_algorithm_named : digest_named signer.digest_algorithm ≡ Some Sha256
  digest_algorithm_named = (digest_found info.content.0.signer_infos.0 signer_bytes signed_spelled.1.4.4.4.4.1 signer_spelled facts.digest).named

  form_is_general : has_general_form info_general ≡ true
  unfolding fits_version has_general_form has_type
  form_is_general = λ i. facts.outer_type i && (facts.version i && (facts.signer_version i && type_fits info facts i))

  is_held : held_in info_general ≡ Some (Sha256, digest_of info)
  unfolding digest_in held_in
  is_held =
      if_true (has_general_form info_general) (both (digest_named signer.digest_algorithm) (digest_in info_general)) None form_is_general
      ∙ (λ i. both (digest_algorithm_named i) (digest_there info facts i))

  -- the path to the certificate
  abbrev parts_of : PartSpellings
  parts_of = of_form.ghosts.spellings

  to_tagged : LeadsTo bytes (1 ∷ []) s.1.4.3.0
  to_tagged = second_leads parts_of.oid (IsTagged parts_of) (content_row info) parts_of.oid_are (tagged_are parts_of) bytes n s

  to_signed : LeadsTo s.1.4.3.0 (0 ∷ []) signed_bytes
  to_signed =
      held_at context_0_octet signed_bytes s.1.4.3.0 refl (signed_are parts_of info.content.0 signed_bytes s.1.4.1 signed_spelled) s.1.4.3.1.2

  to_certificates : LeadsTo signed_bytes (3 ∷ []) signed_spelled.1.4.4.4.3.0
  to_certificates =
      fourth_leads parts_of.version (AreDigests parts_of) parts_of.encapsulated (AreCertificates parts_of) (AreSigners parts_of) (signed_row info.content.0)
      parts_of.version_are (digests_are parts_of) parts_of.encapsulated_are (certificates_are parts_of) (signers_are parts_of) signed_bytes s.1.4.1 signed_spelled

  to_certificate : LeadsTo signed_spelled.1.4.4.4.3.0 (0 ∷ []) certificate_bytes
  to_certificate = held_at context_0_octet certificate_bytes signed_spelled.1.4.4.4.3.0 refl certificate_is signed_spelled.1.4.4.4.3.1.2

  leads_there : LeadsTo bytes certificate_place certificate_bytes
  leads_there =
      go_on bytes s.1.4.3.0 certificate_bytes (1 ∷ []) (0 ∷ 3 ∷ 0 ∷ []) to_tagged
      (go_on s.1.4.3.0 signed_bytes certificate_bytes (0 ∷ []) (3 ∷ 0 ∷ []) to_signed
      (go_on signed_bytes signed_spelled.1.4.4.4.3.0 certificate_bytes (3 ∷ []) (0 ∷ []) to_certificates to_certificate))

  certificate_same : (certificate : Bytes) → IsPart bytes certificate_place certificate → raw_bytes (raw_at certificate_bytes certificate_is) ≡ certificate
  certificate_same certificate at =
      sym certificate_is.3 ∙ part-one certificate_place bytes certificate_bytes certificate (part_there bytes certificate_bytes certificate_place leads_there) at

pub is_general : (bytes : Bytes) (parts : SignedParts) → IsSignedContent bytes parts → (general : GeneralParts) × IsGeneralContent bytes general × IsSameData parts general
unfolding IsGeneralInfo attributes_der id_content
is_general bytes parts is =
    let info = parts.info in
    let n = is.form.0.0 in
    let s = is.form.0.1 in
    let form = is.form.1 in
    let signs = info.content.0.signer_infos.0 in
    let spelled = signer_spelled info bytes n s form in
    let own = info_written info bytes n s form in
    let held_attributes =
    attributes_written signs.signed_attributes parts.signed_attributes (spelled.1.4.4.4.3.1.0.0, one.attributes_der bytes parts is) in (
      record { info = info_general info bytes n s form; algorithm = Sha256; digest = digest_of info },
      record { spelled = (own.whole, own.bytes); held = is_held info bytes n s form },
      record {
        encapsulated = refl;
        algorithm = refl;
        digest = refl;
        attributes = sym held_attributes.bytes;
        signature = refl;
        certificates = (raw_at (certificate_bytes info bytes n s form) (certificate_is info bytes n s form), refl, certificate_same info bytes n s form parts.certificate is.certificate_at);
        sid = refl;
        signature_algorithm =
            algorithm_spelled signs (signer_bytes info bytes n s form) (signed_spelled info bytes n s form).1.4.4.4.4.1 spelled (facts info bytes n s form).digest;
      },
    )
