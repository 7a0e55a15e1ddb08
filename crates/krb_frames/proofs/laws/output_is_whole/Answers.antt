use Rattle.krb_frames.proofs.WholeOutput.{served, front-all, same-all, front-longer}
use Rattle.krb_frames.proofs.laws.output_is_whole.Goals as goal

pub returns-clause-front : goal.returns-clause-front
returns-clause-front g c = λ responder start s t all part whole other final w o.
    let r = g.A.Responder.replies responder in
    let one = g.met.A.SoleResponder.one_reply responder in
    let wants = g.A.Responder.may_want_memory responder in
    front-all r one wants start s t all part whole other final (served r one wants start s all whole w) (served r one wants start t part other o)

pub returns-clause-same : goal.returns-clause-same
returns-clause-same g c = λ responder start s t all other a b a_final b_final w o.
    let r = g.A.Responder.replies responder in
    let one = g.met.A.SoleResponder.one_reply responder in
    let wants = g.A.Responder.may_want_memory responder in
    same-all r one wants start s t all other a b a_final (served r one wants start s all a w) (served r one wants start t other b o) b_final

pub returns-clause-longer : goal.returns-clause-longer
returns-clause-longer g c = λ responder start s t written result more o run short.
    let r = g.A.Responder.replies responder in
    let one = g.met.A.SoleResponder.one_reply responder in
    let wants = g.A.Responder.may_want_memory responder in
    front-longer r one wants start s t written result more (served r one wants start s written result o) run short
