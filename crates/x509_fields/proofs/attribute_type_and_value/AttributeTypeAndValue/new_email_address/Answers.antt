use Rattle.std.proofs.Common.{ℕ, List, IsTrue, sym, subst}
use Rattle.x509_fields.specs.declared.attribute_type_and_value.AttributeValue.TheVariants.{Email}
use Rattle.x509_fields.specs.Attributes.{is_value_of, address_value_of}
use Rattle.x509_fields.proofs.attribute_type_and_value.AttributeTypeAndValue.new_email_address.Goals as goal

pub invariant_of-result : goal.invariant_of-result
invariant_of-result c = record {
  of_its_type =
      subst (λ (arcs : List ℕ). IsTrue (is_value_of arcs (Email c.args.address))) (sym c.in_ok-oid.ensures.1)
      (address_value_of c.args.address c.as_bytes-octets.ensures.character_set);
}
