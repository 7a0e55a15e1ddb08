use Rattle.std.proofs.Common.{ap, ◌∙◌}
use Rattle.asn1_der.specs.Tree.{der}
use Rattle.cms_signed_data.specs.declared.signed_attributes.SignedAttributes.{SignedAttributes}
use Rattle.cms_signed_data.specs.SignedParts.{attributes_tree}
use Rattle.cms_signed_data.proofs.WholeLemmas.{attributes_whole}
use Rattle.cms_signed_data.proofs.written_parts.attribute_bytes.Goals as goal

pub returns : goal.returns
returns c = (
  c.in_ok-bytes.ensures ∙ ap (λ (a : SignedAttributes). der (attributes_tree a)) c.in_ok-attributes.ensures,
  attributes_whole c.args.content_type.now c.args.content.now c.as_bytes-octets.ensures.valid,
)
