use Rattle.cms_signed_data.specs.SignedLaws.{certificate_spelled, attributes_der, content_there, digest_there, signature_there}
use Rattle.cms_signed_data.proofs.laws.parts_are_spelled.Goals as goal

pub returns : goal.returns
returns c = record {
  certificate = certificate_spelled;
  attributes = attributes_der;
  content = content_there;
  digest = digest_there;
  signature = signature_there;
}
