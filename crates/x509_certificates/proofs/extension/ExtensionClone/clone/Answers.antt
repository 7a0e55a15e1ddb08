use Rattle.std.proofs.Common.{refl}
use Rattle.x509_certificates.specs.ExtensionLaws.{same_parts}
use Rattle.x509_certificates.proofs.extension.ExtensionClone.clone.Goals as goal

pub returns : goal.returns
returns c = record { cases = same_parts _ _ (λ i. record { 0 = c.in_ok-extn_id.ensures.cases i }) refl c.in_ok-extn_value.ensures.cases }
