use Rattle.std.proofs.Common.{Err, inr, refl}
use Rattle.decision_tables.specs.Tables.{done}
use Rattle.krb_client.specs.Messages.{IsErrorCode, sole_error_code}
use Rattle.gss_initiator.proofs.Outcomes.{found, not_found}
use Rattle.gss_initiator.specs.declared.refusal.InitiateRefusal.TheVariants.{NotAToken, Refused}
use Rattle.gss_initiator.proofs.reply.failed.Goals as goal

pub returns-in-Some : goal.returns-in-Some
returns-in-Some c =
    let message = c.args.message.now in
    let is = rw c.in-Some.is at c.in_ok-read.ensures in
    found (IsErrorCode message) (sole_error_code message) (done (Err NotAToken)) (λ code. done (Err (Refused code))) (Err (Refused c.in-Some.code)) c.in-Some.code is (inr refl)

pub returns-in-None : goal.returns-in-None
returns-in-None c =
    let message = c.args.message.now in
    let none = rw c.in-None.is at c.in_ok-read.ensures in
    not_found (IsErrorCode message) (sole_error_code message) (done (Err NotAToken)) (λ code. done (Err (Refused code))) (Err NotAToken) none (inr refl)
