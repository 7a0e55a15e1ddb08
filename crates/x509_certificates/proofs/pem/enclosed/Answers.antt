use Rattle.x509_certificates.proofs.Boundaries.{encloses}
use Rattle.x509_certificates.proofs.pem.enclosed.Goals as goal

pub returns-in-Some : goal.returns-in-Some
returns-in-Some c = encloses c.args.label c.args.text.now _ _ c.begin.result.now c.ended.result c.begin.ensures c.in-Some.ensures c.ended.ensures
