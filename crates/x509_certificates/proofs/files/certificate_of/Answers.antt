use Rattle.x509_certificates.proofs.Holding.{counted, unspelled}
use Rattle.x509_certificates.specs.contracts.certificate.CertificateSpelled.TheImpl as certificate
use Rattle.x509_certificates.proofs.files.certificate_of.Goals as goal

pub returns-in-Ok : goal.returns-in-Ok
returns-in-Ok c = counted certificate.ghosts.spells c.args.found _ _ c.as_slice.ensures.value c.in-Ok.ensures

pub returns-in-Err : goal.returns-in-Err
returns-in-Err c = unspelled certificate.ghosts.spells c.args.found _ c.in-Err.fault c.fault_at.result c.as_slice.ensures.value c.in-Err.ensures c.fault_at.ensures
