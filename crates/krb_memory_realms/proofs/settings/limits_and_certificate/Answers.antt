use Rattle.std.proofs.Common.{inr, refl, ap}
use Rattle.std.specs.Option.{option_copied}
use Rattle.krb_memory_realms.proofs.Certificates.{no_certificate}
use Rattle.krb_memory_realms.proofs.settings.limits_and_certificate.Goals as goal

pub returns-then-not-branch-clause-made : goal.returns-then-not-branch-clause-made
returns-then-not-branch-clause-made c = inr (
  refl,
  λ are.
      no_certificate c.in-Some.bytes.now (option_copied c.args.certificate) c.in_ok-is_certificate.field-0 (ap option_copied c.in-Some.is)
      c.in_ok-is_certificate.ensures c.if-not-branch.true are.1,
)
