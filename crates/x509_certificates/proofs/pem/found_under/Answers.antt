use Rattle.x509_certificates.proofs.Boundaries.{found_under}
use Rattle.x509_certificates.proofs.pem.found_under.Goals as goal

pub returns-in-Ok : goal.returns-in-Ok
returns-in-Ok c = found_under c.args.label c.args.text.now c.in-Ok.enclosed c.found_of.result c.in-Ok.ensures c.found_of.ensures
