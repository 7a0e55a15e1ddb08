use Rattle.x509_fields.specs.AttributeLaws.{same_parts}
use Rattle.x509_fields.proofs.attribute_type_and_value.AttributeTypeAndValueClone.clone.Goals as goal

pub returns : goal.returns
returns c = record { cases = same_parts _ _ (λ i. record { 0 = c.in_ok-ty.ensures.cases i }) c.in_ok-value.ensures.cases }
