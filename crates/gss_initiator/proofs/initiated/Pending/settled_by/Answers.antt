use Rattle.std.proofs.Common.{Ok, inr, refl}
use Rattle.decision_tables.specs.Tables.{Table, done}
use Rattle.std.proofs.Common.{Result}
use Rattle.gss_contexts.specs.Contexts.{ContextRecord}
use Rattle.gss_initiator.proofs.Outcomes.{then_err, then_ok}
use Rattle.gss_initiator.specs.Responses.{settled}
use Rattle.gss_initiator.specs.declared.heard.Heard.{Heard}
use Rattle.gss_initiator.specs.declared.refusal.InitiateRefusal.{InitiateRefusal}
use Rattle.gss_initiator.specs.declared.response.Answer.{Answer}
use Rattle.gss_initiator.proofs.initiated.Pending.settled_by.Goals as goal

-- what the answer says with the context
abbrev heard_with : Answer → ContextRecord → Table (Result Heard InitiateRefusal)
heard_with answer context = done (Ok (record { context = context; is_due = answer.is_due; mic = answer.mic }))

pub returns-in-Ok : goal.returns-in-Ok
returns-in-Ok c =
    let answer = c.args.answer in
    then_ok (settled c.args.self.now answer.token) (heard_with answer) (Ok (record { context = c.in-Ok.context; is_due = answer.is_due; mic = answer.mic })) c.in-Ok.context c.in-Ok.ensures (inr refl)

pub returns-in-Err : goal.returns-in-Err
returns-in-Err c =
    let answer = c.args.answer in
    then_err (settled c.args.self.now answer.token) (heard_with answer) c.in-Err.refusal c.in-Err.ensures
