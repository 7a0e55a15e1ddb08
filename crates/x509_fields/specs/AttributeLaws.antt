-- An attribute is distinguished by its identifier and the element that its value is written as.
use Rattle.std.proofs.Common.{◌≡◌, ℕ, Bool, true, false, List, sym, ap, subst, arith}
use Rattle.std.proofs.Props.{props}
use Rattle.std.specs.Prelude.{◌&&◌, ◌||◌, not, IsTrue, ⊤}
use mathlib.Core.HLevel.{is_prop→PathP}
use Rattle.asn1_der.specs.Tree.{Tree}
use Rattle.asn1_der.proofs.Tagged.{TagLaws}
use Rattle.asn1_leaves.specs.ObjectIdentifier.{oid_content}
use Rattle.picky_asn1.specs.declared.wrapper.ObjectIdentifierAsn1.{ObjectIdentifierAsn1}
use Rattle.asn1_leaves.specs.CharSets.{is_general_string}
use Rattle.picky_asn1_der.specs.Raw.{Raw, has_low_number}
use Rattle.x509_fields.specs.declared.directory_string.DirectoryString.{DirectoryString}
use Rattle.x509_fields.specs.declared.directory_string.DirectoryString.TheVariants.{PrintableString, Utf8String, BmpString}
use Rattle.x509_fields.specs.declared.attribute_type_and_value.AttributeValue.{AttributeValue}
use Rattle.x509_fields.specs.declared.attribute_type_and_value.AttributeValue.TheVariants.{Directory, Email, Custom}
use Rattle.x509_fields.specs.declared.attribute_type_and_value.AttributeTypeAndValue.{AttributeTypeAndValue}
use Rattle.x509_fields.specs.Attributes.{is_value_of, value_raw, directory_raw, is_directory_text, is_string_content, is_email_content}

-- the trees of what is distinguished by what it holds
pub held_tag_laws : {R T : Type 0} (tree : ℕ → R → Tree) → TagLaws tree → (row_of : T → R) → ((v w : T) → row_of v ≡ row_of w → v ≡ w) → TagLaws (λ octet v. tree octet (row_of v))
held_tag_laws tree laws row_of told = record {
  begins = λ octet v. laws.begins octet (row_of v);
  injective = λ octet v w whole also e. told v w (laws.injective octet (row_of v) (row_of w) whole also e);
}

same_directory : (s t : DirectoryString) → directory_raw s ≡ directory_raw t → s ≡ t
same_directory (PrintableString a) (PrintableString b) e = ap (λ (r : Raw). PrintableString r.content) e
same_directory (Utf8String a) (Utf8String b) e = ap (λ (r : Raw). Utf8String r.content) e
same_directory (BmpString a) (BmpString b) e = ap (λ (r : Raw). BmpString r.content) e
same_directory (PrintableString a) (Utf8String b) e = absurd (omega (arith, ap (λ (r : Raw). r.first) e))
same_directory (PrintableString a) (BmpString b) e = absurd (omega (arith, ap (λ (r : Raw). r.first) e))
same_directory (Utf8String a) (PrintableString b) e = absurd (omega (arith, ap (λ (r : Raw). r.first) e))
same_directory (Utf8String a) (BmpString b) e = absurd (omega (arith, ap (λ (r : Raw). r.first) e))
same_directory (BmpString a) (PrintableString b) e = absurd (omega (arith, ap (λ (r : Raw). r.first) e))
same_directory (BmpString a) (Utf8String b) e = absurd (omega (arith, ap (λ (r : Raw). r.first) e))

isnt_email : (s : DirectoryString) (octets : List ℕ) → directory_raw s ≡ record { first = 22; content = octets } → ⊥
isnt_email (PrintableString a) octets e = absurd (omega (arith, ap (λ (r : Raw). r.first) e))
isnt_email (Utf8String a) octets e = absurd (omega (arith, ap (λ (r : Raw). r.first) e))
isnt_email (BmpString a) octets e = absurd (omega (arith, ap (λ (r : Raw). r.first) e))

string_isnt_other : (s t e l : Bool) → IsTrue (s && t) → IsTrue (not (s || e) && l) → ⊥
string_isnt_other true t e l left right = absurd (cc (right))
string_isnt_other false t e l left right = absurd (cc (left))

email_isnt_other : (s t e l : Bool) → IsTrue (e && t) → IsTrue (not (s || e) && l) → ⊥
email_isnt_other true t e l left right = absurd (cc (right))
email_isnt_other false t true l left right = absurd (cc (right))
email_isnt_other false t false l left right = absurd (cc (left))

same_value : (arcs : List ℕ) (v w : AttributeValue) → IsTrue (is_value_of arcs v) → IsTrue (is_value_of arcs w) → value_raw v ≡ value_raw w → v ≡ w
same_value arcs (Directory s) (Directory t) left right e = ap Directory (same_directory s t e)
same_value arcs (Email a) (Email b) left right e = ap (λ (r : Raw). Email r.content) e
same_value arcs (Custom a) (Custom b) left right e = ap Custom e
same_value arcs (Directory s) (Email b) left right e = absurd (isnt_email s b e)
same_value arcs (Email a) (Directory t) left right e = absurd (isnt_email t a (sym e))
same_value arcs (Directory s) (Custom b) left right e =
    absurd (string_isnt_other (is_string_content (oid_content arcs)) (is_directory_text s) (is_email_content (oid_content arcs)) (has_low_number b.first) left right)
same_value arcs (Custom a) (Directory t) left right e =
    absurd (string_isnt_other (is_string_content (oid_content arcs)) (is_directory_text t) (is_email_content (oid_content arcs)) (has_low_number a.first) right left)
same_value arcs (Email a) (Custom b) left right e =
    absurd (email_isnt_other (is_string_content (oid_content arcs)) (is_general_string a) (is_email_content (oid_content arcs)) (has_low_number b.first) left right)
same_value arcs (Custom a) (Email b) left right e =
    absurd (email_isnt_other (is_string_content (oid_content arcs)) (is_general_string b) (is_email_content (oid_content arcs)) (has_low_number a.first) right left)

abbrev pub fields_of : AttributeTypeAndValue → ObjectIdentifierAsn1 × (Raw × ⊤)
fields_of v = (v.ty, (value_raw v.value, tt))

pub same_parts : (v w : AttributeTypeAndValue) → v.ty ≡ w.ty → v.value ≡ w.value → v ≡ w
same_parts v w types values =
    λ i. record {
      ty = types i;
      value = values i;
      of_its_type = is_prop→PathP (λ j. IsTrue (is_value_of (types j).0 (values j))) (λ j. hlevel props) v.of_its_type w.of_its_type i;
    }

pub same_attribute : (v w : AttributeTypeAndValue) → fields_of v ≡ fields_of w → v ≡ w
same_attribute v w e =
    let types : v.ty ≡ w.ty = ap (λ (f : ObjectIdentifierAsn1 × (Raw × ⊤)). f.0) e in
    let raws : value_raw v.value ≡ value_raw w.value = ap (λ (f : ObjectIdentifierAsn1 × (Raw × ⊤)). f.1.0) e in
    let values : v.value ≡ w.value = same_value w.ty.0 v.value w.value (subst (λ (t : ObjectIdentifierAsn1). IsTrue (is_value_of t.0 v.value)) types v.of_its_type) w.of_its_type raws in
    same_parts v w types values
