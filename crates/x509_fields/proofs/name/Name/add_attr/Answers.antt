use Rattle.x509_fields.specs.AttributeMade.{IsOfAttribute}
use Rattle.x509_fields.specs.declared.attribute_type_and_value.AttributeTypeAndValue.{AttributeTypeAndValue}
use Rattle.x509_fields.proofs.NameLemmas.{added_alone}
use Rattle.x509_fields.proofs.name.Name.add_attr.Goals as goal

pub returns : goal.returns
returns c =
    added_alone c.add_alone.result (λ (v : AttributeTypeAndValue). IsOfAttribute c.args.attr c.args.value v) c.in_ok-attribute.attribute c.args.self.now c.add_alone.new.self c.in_ok-attribute.ensures
    c.add_alone.ensures
