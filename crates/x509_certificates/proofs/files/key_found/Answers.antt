use Rattle.x509_certificates.proofs.Holding.{key_found}
use Rattle.x509_certificates.proofs.files.key_found.Goals as goal

pub returns-in-Err : goal.returns-in-Err
returns-in-Err c = key_found c.args.file.now c.in-Err.fault c.pkcs1_found.result c.in-Err.ensures c.pkcs1_found.ensures
