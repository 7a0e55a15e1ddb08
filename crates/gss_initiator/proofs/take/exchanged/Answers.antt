use Rattle.std.proofs.Common.{inl, inr, refl}
use Rattle.gss_initiator.proofs.take.exchanged.Goals as goal

pub returns-in-Ok : goal.returns-in-Ok
returns-in-Ok c = inl (c.mic_for_mic.new.context, c.in-Ok.own.items, c.in-Ok.ensures.made, c.completed.ensures)

pub returns-in-Err : goal.returns-in-Err
returns-in-Err c = inr (c.in-Err.cause, c.in-Err.ensures.refused, refl)
