use Rattle.std.proofs.Common.{subst}
use Rattle.std.specs.Bool.{MatchBool}
use Rattle.x509_certificates.specs.Pem.{IsPem}
use Rattle.x509_certificates.proofs.Holding.{in_pem, in_whole}
use Rattle.x509_certificates.proofs.files.found_in.Goals as goal

pub returns-then-is_pem : goal.returns-then-is_pem
returns-then-is_pem c =
    in_pem c.args.label c.args.file.now c.found_under.result
    (subst (λ b. MatchBool b (IsPem c.args.file.now) (IsPem c.args.file.now → ⊥)) c.if-is_pem.true c.is_pem.ensures)
    c.found_under.ensures

pub returns-else-is_pem : goal.returns-else-is_pem
returns-else-is_pem c =
    in_whole c.args.label c.args.file.now c.whole.result
    (subst (λ b. MatchBool b (IsPem c.args.file.now) (IsPem c.args.file.now → ⊥)) c.if-is_pem.false c.is_pem.ensures)
    c.whole.ensures
