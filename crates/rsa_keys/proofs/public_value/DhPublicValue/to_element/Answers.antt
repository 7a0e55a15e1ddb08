use Rattle.std.proofs.Common.{◌≡◌, sym, ◌∙◌}
use Rattle.asn1_der.specs.Length.{element}
use Rattle.asn1_der.specs.Octets.{sequence_octet}
use Rattle.picky_asn1_der.specs.Splits.{raw_bytes}
use Rattle.rsa_keys.specs.Algorithms.{algorithm_of}
use Rattle.rsa_keys.specs.Values.{key_content, value_bytes, value_element}
use Rattle.rsa_keys.proofs.Elements.{made}
use Rattle.rsa_keys.proofs.public_value.DhPublicValue.to_element.Goals as goal

pub returns : goal.returns
returns c =
    let algorithm : raw_bytes c.in_ok-algorithm.algorithm ≡ algorithm_of c.args.self.now.group = sym c.in_ok-algorithm.ensures ∙ c.in_ok-from_slice.ensures.items ∙ c.algorithm_of.ensures in
    let bytes : c.in_ok-key_info_bytes.field-0.items ≡ value_bytes c.args.self.now.group c.args.self.now.number =
    c.in_ok-key_info_bytes.ensures ∙ (λ i. element sequence_octet (key_content (algorithm i) (c.in_ok-number.ensures.cases i))) in
    made c.element_of-2.result c.in_ok-key_info_bytes.field-0.items (value_element c.args.self.now.group c.args.self.now.number) bytes c.element_of-2.ensures
