use Rattle.std.proofs.Common.{Ok, Err, refl}
use Rattle.gss_acceptor.proofs.acceptor.Acceptor.admit.Goals as goal

pub returns-in-Ok : goal.returns-in-Ok
returns-in-Ok g c = (Ok c.in-Ok.established, c.in-Ok.ensures, c.answered.ensures)

pub returns-in-Err : goal.returns-in-Err
returns-in-Err g c = (Err c.in-Err.refusal, c.in-Err.ensures, refl)
