use Rattle.std.proofs.Common.{rules, ◌≡◌, inr}
use Rattle.x509_certificates.specs.declared.fault.FileFault.TheVariants.{NotFound}
use Rattle.x509_certificates.proofs.Holding.{pkcs1_found}
use Rattle.x509_certificates.proofs.files.pkcs1_found.Goals as goal

pub returns-in-Err : goal.returns-in-Err
returns-in-Err c =
    let given : c.args.fault ≡ NotFound = search rules in
    inr (given, pkcs1_found c.args.file.now c.in-Err.fault c.if_encrypted.result c.in-Err.ensures c.if_encrypted.ensures)
