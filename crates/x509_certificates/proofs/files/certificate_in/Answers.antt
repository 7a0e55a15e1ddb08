use Rattle.x509_certificates.proofs.Holding.{held}
use Rattle.x509_certificates.specs.declared.pem.Label.TheVariants.{Certificate}
use Rattle.x509_certificates.proofs.files.certificate_in.Goals as goal

pub returns-in-Ok : goal.returns-in-Ok
returns-in-Ok c = held _ Certificate c.args.file.now c.in-Ok.found c.certificate_of.result c.in-Ok.ensures c.certificate_of.ensures
