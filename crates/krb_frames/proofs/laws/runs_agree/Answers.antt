use Rattle.krb_frames.proofs.WholeOutput.{fronts}
use Rattle.krb_frames.proofs.laws.runs_agree.Goals as goal

pub returns : goal.returns
returns g c = λ responder start s t done more run other.
    fronts (g.A.Responder.replies responder) (g.met.A.SoleResponder.one_reply responder) (g.A.Responder.may_want_memory responder) done more start s t run other
