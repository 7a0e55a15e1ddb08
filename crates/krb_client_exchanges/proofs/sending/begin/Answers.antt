use Rattle.std.proofs.Common.{[], ◌∷◌, Ok, Err, refl}
use Rattle.krb_client_exchanges.specs.Events.{Began}
use Rattle.krb_client_exchanges.proofs.sending.begin.Goals as goal

pub returns-in-Ok-clause-course : goal.returns-in-Ok-clause-course
returns-in-Ok-clause-course g c = record { events = Began (Ok c.in-Ok.occasion) ∷ []; grew = c.in-Ok.ensures.events; goes = (Ok c.in-Ok.occasion, refl, refl) }

pub returns-in-Err-clause-course : goal.returns-in-Err-clause-course
returns-in-Err-clause-course g c = record { events = Began (Err c.in-Err.fault) ∷ []; grew = c.in-Err.ensures.events; goes = (Err c.in-Err.fault, refl, refl) }
