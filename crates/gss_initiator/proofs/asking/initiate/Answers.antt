use Rattle.std.proofs.Common.{◌≡◌, None, sym, ◌∙◌}
use Rattle.gss_initiator.specs.Initiating.{refusal_of}
use Rattle.gss_initiator.proofs.Progressed.{sent_so}
use Rattle.gss_initiator.proofs.asking.initiate.Goals as goal

pub returns-in-Ok-clause-made : goal.returns-in-Ok-clause-made
returns-in-Ok-clause-made c =
    let none : refusal_of c.args.credential.now.suite c.args.initial.flags ≡ None = rw c.suite.ensures at (sym c.refusal_of.ensures ∙ c.in_default.is) in
    sent_so c.args.client.now c.args.credential.now c.args.initial c.args.form c.args.moment c.args.words.now c.in-Ok.token.items c.sent.result none c.in-Ok.ensures c.sent.ensures
