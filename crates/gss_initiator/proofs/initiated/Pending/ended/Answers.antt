use Rattle.std.proofs.Common.{inr}
use Rattle.decision_tables.specs.Tables.{done}
use Rattle.gss_initiator.proofs.Outcomes.{then_err, then_ok}
use Rattle.gss_initiator.specs.Contexts.{context_by}
use Rattle.gss_initiator.specs.Replies.{answered}
use Rattle.gss_initiator.proofs.initiated.Pending.ended.Goals as goal

pub returns-in-Ok : goal.returns-in-Ok
returns-in-Ok c =
    then_ok (answered c.args.self.now.asked c.args.token.now) (λ part. done (context_by c.args.self.now part)) c.context_by-context.result c.in-Ok.part c.in-Ok.ensures (inr c.context_by-context.ensures)

pub returns-in-Err : goal.returns-in-Err
returns-in-Err c =
    then_err (answered c.args.self.now.asked c.args.token.now) (λ part. done (context_by c.args.self.now part)) c.in-Err.refusal c.in-Err.ensures
