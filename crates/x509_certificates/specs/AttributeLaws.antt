-- An attribute is distinguished by its fields.
use Rattle.std.proofs.Common.{◌≡◌, ap, sym, ◌∙◌}
use Rattle.std.proofs.Props.{props}
use Rattle.std.specs.Prelude.{IsTrue}
use mathlib.Core.HLevel.{is_prop→PathP}
use Rattle.picky_asn1.specs.declared.wrapper.ObjectIdentifierAsn1.{ObjectIdentifierAsn1}
use Rattle.x509_certificates.specs.declared.attribute.Attribute.{Attribute}
use Rattle.x509_certificates.specs.AttributeValues.{AttributeKinds, kinds_of, values_made, values_back, is_value_of}

abbrev pub row_of : Attribute → ObjectIdentifierAsn1 × AttributeKinds
row_of v = (v.ty, kinds_of v.value)

pub same_parts : (v w : Attribute) → v.ty ≡ w.ty → v.value ≡ w.value → v ≡ w
same_parts v w types values =
    λ i. record {
      ty = types i;
      value = values i;
      of_its_type = is_prop→PathP (λ j. IsTrue (is_value_of (types j).0 (values j))) (λ j. hlevel props) v.of_its_type w.of_its_type i;
    }

pub same_attribute : (v w : Attribute) → row_of v ≡ row_of w → v ≡ w
same_attribute v w e =
    let types : v.ty ≡ w.ty = ap (λ (f : ObjectIdentifierAsn1 × AttributeKinds). f.0) e in
    let values : v.value ≡ w.value =
    sym (values_back v.value) ∙ ap (λ (f : ObjectIdentifierAsn1 × AttributeKinds). values_made f.1) e ∙ values_back w.value in
    same_parts v w types values
