use Rattle.std.proofs.Common.{List, [], ◌∷◌, ap, ◌∙◌}
use Rattle.x509_fields.specs.declared.attribute_type_and_value.AttributeTypeAndValue.{AttributeTypeAndValue}
use Rattle.x509_fields.proofs.name.Name.new_common_name.Goals as goal

pub returns : goal.returns
returns c = (
  c.in_ok-attribute.attribute,
  c.in_ok-attribute.ensures,
  c.in_ok-sets.ensures.items ∙ ap (λ (set : List AttributeTypeAndValue). set ∷ []) (c.from.ensures ∙ c.in_ok-attributes.ensures.items),
)
