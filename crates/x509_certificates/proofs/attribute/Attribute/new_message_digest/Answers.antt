use Rattle.std.proofs.Common.{ℕ, List, IsTrue, [], ◌∷◌, sym, subst}
use Rattle.x509_certificates.specs.declared.attribute_values.AttributeValues.TheVariants as kind
use Rattle.x509_certificates.specs.AttributeValues.{is_value_of, belongs_digest}
use Rattle.x509_certificates.proofs.attribute.Attribute.new_message_digest.Goals as goal

pub invariant_of-result : goal.invariant_of-result
invariant_of-result c = record {
  of_its_type =
      subst (λ (arcs : List ℕ). IsTrue (is_value_of arcs (kind.MessageDigest (c.args.digest ∷ [])))) (sym c.in_ok-oid.ensures.1)
      (belongs_digest (c.args.digest ∷ []));
}
