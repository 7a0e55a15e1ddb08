use Rattle.std.proofs.Common.{inl}
use Rattle.x509_certificates.proofs.Boundaries.{by_text, has}
use Rattle.x509_certificates.proofs.pem.is_pem.Goals as goal

pub returns-in-Some : goal.returns-in-Some
returns-in-Some c = inl (has c.in-Some.ensures)

pub returns-in-None : goal.returns-in-None
returns-in-None c = by_text c.args.file.now c.is_text.result c.in-None.ensures c.is_text.ensures
