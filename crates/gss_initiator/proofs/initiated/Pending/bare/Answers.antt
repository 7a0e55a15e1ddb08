use Rattle.std.proofs.Common.{Ok, ap, inr}
use Rattle.decision_tables.specs.Tables.{done}
use Rattle.gss_initiator.proofs.Outcomes.{then_err, then_ok}
use Rattle.gss_initiator.specs.Replies.{ended}
use Rattle.gss_initiator.specs.Taking.{unasked}
use Rattle.gss_initiator.proofs.initiated.Pending.bare.Goals as goal

pub returns-in-Ok : goal.returns-in-Ok
returns-in-Ok c =
    then_ok (ended c.args.self.now c.args.token.now) (λ context. done (Ok (unasked context))) (Ok c.unasked.result) c.in-Ok.context c.in-Ok.ensures (inr (ap Ok c.unasked.ensures))

pub returns-in-Err : goal.returns-in-Err
returns-in-Err c =
    then_err (ended c.args.self.now c.args.token.now) (λ context. done (Ok (unasked context))) c.in-Err.refusal c.in-Err.ensures
