use Rattle.std.proofs.Common.{inl, inr, refl}
use Rattle.x509_certificates.specs.declared.pem.TheConstants.{ENCRYPTED}
use Rattle.x509_certificates.proofs.Boundaries.{has, has_none}
use Rattle.x509_certificates.proofs.pem.without_base64.Goals as goal

pub returns-in-Some : goal.returns-in-Some
returns-in-Some c = inl (has c.in-Some.ensures, refl)

pub returns-in-None : goal.returns-in-None
returns-in-None c = inr (has_none ENCRYPTED.now c.args.enclosed.now.body.now c.in-None.ensures, refl)
