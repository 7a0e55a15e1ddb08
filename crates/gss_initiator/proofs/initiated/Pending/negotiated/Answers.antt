use Rattle.gss_initiator.proofs.Outcomes.{then_err, then_ok}
use Rattle.gss_initiator.specs.Responses.{responded, settled_by}
use Rattle.gss_initiator.proofs.initiated.Pending.negotiated.Goals as goal

pub returns-in-Ok : goal.returns-in-Ok
returns-in-Ok c = then_ok (responded c.args.token.now) (settled_by c.args.self.now) c.settled_by.result c.in-Ok.answer c.in-Ok.ensures c.settled_by.ensures

pub returns-in-Err : goal.returns-in-Err
returns-in-Err c = then_err (responded c.args.token.now) (settled_by c.args.self.now) c.in-Err.refusal c.in-Err.ensures
