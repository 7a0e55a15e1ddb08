use Rattle.std.proofs.Common.{inl, inr, refl}
use Rattle.gss_initiator.proofs.take.verified.Goals as goal

pub returns-in-Ok : goal.returns-in-Ok
returns-in-Ok c = inl (c.verify_mic.new.self, c.in-Ok.ensures.taken, refl)

pub returns-in-Err : goal.returns-in-Err
returns-in-Err c = inr (c.in-Err.cause, c.in-Err.ensures.refused.1, refl)
