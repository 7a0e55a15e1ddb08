use Rattle.x509_certificates.specs.ExtensionsLaws.{same_parts}
use Rattle.x509_certificates.proofs.certificate_extensions.CertificateExtensionsClone.clone.Goals as goal

pub returns : goal.returns
returns c = record { cases = same_parts _ _ c.in_ok-tagged.ensures }
