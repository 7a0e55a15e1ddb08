-- An extension is distinguished by its fields.
use Rattle.std.proofs.Common.{◌≡◌, ap, sym, ◌∙◌}
use Rattle.std.proofs.Props.{props}
use Rattle.std.specs.Prelude.{IsTrue}
use mathlib.Core.HLevel.{is_prop→PathP}
use Rattle.picky_asn1.specs.declared.wrapper.ObjectIdentifierAsn1.{ObjectIdentifierAsn1}
use Rattle.picky_asn1_der.specs.declared.default.DefaultField.{DefaultField}
use Rattle.x509_spelling.specs.declared.default_false.DefaultFalse.{DefaultFalse}
use Rattle.x509_certificates.specs.declared.extension_value.ExtensionValue.{ExtensionValue}
use Rattle.x509_certificates.specs.declared.extension.Extension.{Extension}
use Rattle.x509_certificates.specs.ExtensionValues.{ExtensionKinds, kinds_of, value_made, value_back, is_value_of}

abbrev pub row_of : Extension → ObjectIdentifierAsn1 × (DefaultField (DefaultFalse 0) × ExtensionKinds)
row_of v = (v.extn_id, (v.critical, kinds_of v.extn_value))

pub same_parts : (v w : Extension) → v.extn_id ≡ w.extn_id → v.critical ≡ w.critical → v.extn_value ≡ w.extn_value → v ≡ w
same_parts v w ids flags values =
    λ i. record {
      extn_id = ids i;
      critical = flags i;
      extn_value = values i;
      of_its_id = is_prop→PathP (λ j. IsTrue (is_value_of (ids j).0 (values j))) (λ j. hlevel props) v.of_its_id w.of_its_id i;
    }

pub same_extension : (v w : Extension) → row_of v ≡ row_of w → v ≡ w
same_extension v w e =
    let ids : v.extn_id ≡ w.extn_id = ap (λ (f : ObjectIdentifierAsn1 × (DefaultField (DefaultFalse 0) × ExtensionKinds)). f.0) e in
    let flags : v.critical ≡ w.critical = ap (λ (f : ObjectIdentifierAsn1 × (DefaultField (DefaultFalse 0) × ExtensionKinds)). f.1.0) e in
    let values : v.extn_value ≡ w.extn_value =
    sym (value_back v.extn_value) ∙ ap (λ (f : ObjectIdentifierAsn1 × (DefaultField (DefaultFalse 0) × ExtensionKinds)). value_made f.1.1) e ∙ value_back w.extn_value in
    same_parts v w ids flags values
