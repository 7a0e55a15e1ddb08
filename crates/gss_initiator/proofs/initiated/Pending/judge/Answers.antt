use Rattle.std.proofs.Common.{inl, inr, refl}
use Rattle.gss_initiator.proofs.Outcomes.{given, why}
use Rattle.gss_initiator.specs.Taking.{heard}
use Rattle.gss_initiator.proofs.initiated.Pending.judge.Goals as goal

pub returns-in-Ok : goal.returns-in-Ok
returns-in-Ok c = inl (c.in-Ok.heard, given (heard c.args.self.now c.args.token.now) c.in-Ok.heard c.in-Ok.ensures, c.conclude.ensures)

pub returns-in-Err : goal.returns-in-Err
returns-in-Err c = inr (c.in-Err.refusal, refl, why (heard c.args.self.now c.args.token.now) c.in-Err.refusal c.in-Err.ensures)
