use Rattle.std.proofs.Common.{ℕ, List, IsTrue, [], ◌∷◌, sym, subst}
use Rattle.x509_certificates.specs.declared.attribute_values.AttributeValues.TheVariants as kind
use Rattle.x509_certificates.specs.AttributeValues.{is_value_of, belongs_type}
use Rattle.x509_certificates.proofs.attribute.Attribute.new_content_type_pkcs7.Goals as goal

pub invariant_of-result : goal.invariant_of-result
invariant_of-result c = record {
  of_its_type =
      subst (λ (arcs : List ℕ). IsTrue (is_value_of arcs (kind.ContentType (record { 0 = c.in_ok-data.data } ∷ [])))) (sym c.in_ok-oid.ensures.1)
      (belongs_type (record { 0 = c.in_ok-data.data } ∷ []));
}
