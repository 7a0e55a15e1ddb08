use Rattle.std.proofs.Common.{refl, sym, inl, inr}
use Rattle.gss_acceptor.proofs.acceptor.take_mic.Goals as goal

pub returns-in-Ok : goal.returns-in-Ok
returns-in-Ok c =
    let verified = rw c.as_bytes.ensures at c.verify-accepted.ensures in
    inl (c.in-Ok.mic, sym c.in-Ok.ensures, verified)

pub returns-in-Err : goal.returns-in-Err
returns-in-Err c = inr (c.in-Err.refusal, sym c.in-Err.ensures, refl)
