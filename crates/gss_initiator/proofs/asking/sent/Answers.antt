use Rattle.std.proofs.Common.{refl}
use Rattle.gss_initiator.proofs.Progressed.{sent_err, sent_ok}
use Rattle.gss_initiator.proofs.asking.sent.Goals as goal

pub returns-in-Ok : goal.returns-in-Ok
returns-in-Ok c = (refl, sent_ok _ c.in-Ok.progress c.in-Ok.ensures)

pub returns-in-Err : goal.returns-in-Err
returns-in-Err c = sent_err _ c.in-Err.refusal c.in-Err.ensures
