use Rattle.std.proofs.lemmas.Result.{IfErr-weaker, IfOk-weaker}
use Rattle.gss_contexts.specs.Contexts.{peer_of}
use Rattle.gss_contexts.proofs.Opened.{carried_is, carried_only, carried_refused}
use Rattle.gss_contexts.proofs.sender.Sender.open.Goals as goal

pub returns-clause-read : goal.returns-clause-read
returns-clause-read c =
    IfOk-weaker c.read.result _ _ (λ m. carried_is (peer_of c.args.self.now) c.args.protection c.args.token.now c.in_ok-text.text.items c.deref.result.now
    c.u16_be.result c.deref.ensures.value c.u16_be.ensures.read c.in_ok-text.ensures m.items) c.read.ensures.read

pub returns-clause-only : goal.returns-clause-only
returns-clause-only c =
    IfOk-weaker c.read.result _ _ (λ m. carried_only (peer_of c.args.self.now) c.args.protection c.args.token.now c.in_ok-text.text.items c.deref.result.now
    c.u16_be.result c.deref.ensures.value c.u16_be.ensures.read c.in_ok-text.ensures m.items) c.read.ensures.only

pub returns-clause-refused : goal.returns-clause-refused
returns-clause-refused c =
    IfErr-weaker c.read.result _ _ (carried_refused (peer_of c.args.self.now) c.args.protection c.args.token.now c.in_ok-text.text.items c.deref.result.now
    c.u16_be.result c.deref.ensures.value c.u16_be.ensures.read c.in_ok-text.ensures) c.read.ensures.refused
