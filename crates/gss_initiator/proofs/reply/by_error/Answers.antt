use Rattle.std.proofs.Common.{Err, inr, refl}
use Rattle.decision_tables.specs.Tables.{done}
use Rattle.gss_initiator.proofs.Outcomes.{found, not_found}
use Rattle.gss_initiator.specs.Replies.{IsTokenOf, by_error, error_front, failed, sole_error}
use Rattle.gss_initiator.specs.declared.refusal.InitiateRefusal.TheVariants.{NotAToken}
use Rattle.gss_initiator.proofs.reply.by_error.Goals as goal

pub returns-in-Some : goal.returns-in-Some
unfolding by_error
returns-in-Some c =
    let token = c.args.token.now in
    found (IsTokenOf error_front token) (sole_error token) (done (Err NotAToken)) failed c.failed.result c.in-Some.message.now c.in-Some.ensures c.failed.ensures

pub returns-in-None : goal.returns-in-None
unfolding by_error
returns-in-None c =
    let token = c.args.token.now in
    not_found (IsTokenOf error_front token) (sole_error token) (done (Err NotAToken)) failed (Err NotAToken) c.in-None.ensures (inr refl)
