use Rattle.std.proofs.Common.{rules, not, ap, ◌∙◌}
use Rattle.std.proofs.lemmas.Fn.{filter_same}
use Rattle.x509_certificates.specs.Pem.{is_white_space, visible}
use Rattle.x509_certificates.proofs.pem.visible.Goals as goal

pub returns : goal.returns
returns c = filter_same _ (λ octet. not (is_white_space octet)) _ (λ x r f' k. search rules) _ _ c.retain.ensures.filtered ∙ ap visible c.in_ok-octets.ensures.items
