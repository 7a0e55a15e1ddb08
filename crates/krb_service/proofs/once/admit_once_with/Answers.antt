use Rattle.krb_service.proofs.once.admit_once_with.Goals as goal

pub returns-in-Err-clause-once : goal.returns-in-Err-clause-once
returns-in-Err-clause-once c = λ admitted w. rw c.from.ensures (c.in-Err.ensures.once admitted w)

pub returns-in-Ok-clause-once : goal.returns-in-Ok-clause-once
returns-in-Ok-clause-once c = λ admitted w. rw c.admission_of.ensures (c.in-Ok.ensures.once admitted w)
