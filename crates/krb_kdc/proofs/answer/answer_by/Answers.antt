use Rattle.krb_kdc.specs.Calls.{call_with}
use Rattle.krb_kdc.specs.Failing.{FailsFor}
use Rattle.krb_kdc.specs.Sources.{AsksByCertificate}
use Rattle.krb_kdc.proofs.Answered.{always}
use Rattle.krb_kdc.proofs.Refused.{of_look_ups}
use Rattle.krb_kdc.proofs.answer.answer_by.Goals as goal

pub returns-clause-answer : goal.returns-clause-answer
returns-clause-answer g c = λ all known.
    always _ _ (call_with c.args.call.now all) c.args.message.now c.answer_observed.result
    (c.answer_observed.ensures.answer all known)

pub returns-clause-refusal : goal.returns-clause-refusal
returns-clause-refusal g c =
    of_look_ups (FailsFor (g.L.Lookup.holds c.args.lookup.now) (g.L.Lookup.may_fail c.args.lookup.now) c.args.call.now.realm.now c.args.message.now) (AsksByCertificate c.args.message.now)
    c.args.message.now c.answer_observed.result c.answer_observed.ensures.refusal
