use Rattle.krb_frames.proofs.Fronts.{IsBroken-from_Consumes}
use Rattle.krb_frames.proofs.frame.fill.Goals as goal

pub returns-in-Err-clause-front : goal.returns-in-Err-clause-front
returns-in-Err-clause-front g c = λ stream known.
    let read = c.in-Err.ensures.front in
    IsBroken-from_Consumes stream c.read_full.new.buffer _ _ read.0 known read.1
