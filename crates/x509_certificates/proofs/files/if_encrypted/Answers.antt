use Rattle.std.proofs.Common.{rules, ◌≡◌, inl, inr, refl}
use Rattle.x509_certificates.specs.declared.fault.FileFault.TheVariants.{NotFound}
use Rattle.x509_certificates.proofs.files.if_encrypted.Goals as goal

pub returns-in-Ok : goal.returns-in-Ok
returns-in-Ok c = let given : c.args.fault ≡ NotFound = search rules in inr (given, inl (c.in-Ok.found, c.in-Ok.ensures, refl))
