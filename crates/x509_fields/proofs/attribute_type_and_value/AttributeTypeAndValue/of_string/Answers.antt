use Rattle.std.proofs.Common.{ℕ, List, IsTrue, sym, subst}
use Rattle.x509_fields.specs.declared.attribute_type_and_value.AttributeValue.TheVariants.{Directory}
use Rattle.x509_fields.specs.Attributes.{is_value_of}
use Rattle.x509_fields.specs.NameAttrs.{string_value_of}
use Rattle.x509_fields.proofs.attribute_type_and_value.AttributeTypeAndValue.of_string.Goals as goal

pub invariant_of-result : goal.invariant_of-result
invariant_of-result c = record {
  of_its_type =
      subst (λ (arcs : List ℕ). IsTrue (is_value_of arcs (Directory c.args.value))) (sym c.in_ok-oid.ensures)
      (string_value_of c.args.name c.args.value c.look_at_text.ensures);
}
