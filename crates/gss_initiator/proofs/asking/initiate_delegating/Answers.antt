use Rattle.std.proofs.Common.{◌≡◌, None, sym, subst, ◌∙◌}
use Rattle.gss_acceptor.specs.declared.checksum.InitialChecksum.{InitialChecksum}
use Rattle.gss_initiator.specs.Initiating.{DelegatesFirst, IsSent, delegation_refusal, pending_of, progress_of}
use Rattle.gss_initiator.proofs.Progressed.{delegated_so, undelegating}
use Rattle.gss_initiator.proofs.asking.initiate_delegating.Goals as goal

pub returns-in-Ok-clause-made : goal.returns-in-Ok-clause-made
returns-in-Ok-clause-made c =
    let none : delegation_refusal c.args.credential.now.suite c.args.initial.flags c.args.forwarded.now ≡ None = rw c.suite.ensures at (sym c.delegation_refusal.ensures ∙ c.in_default.is) in
    let sends = subst (λ (own : InitialChecksum). DelegatesFirst c.args.client.now c.args.credential.now c.args.forwarded.now own c.args.form c.args.moment c.args.words.now c.in-Ok.token.items) c.delegating-own.ensures c.in-Ok.ensures in
    let stands = subst (λ (own : InitialChecksum). IsSent c.in-Ok.token.items (progress_of (pending_of c.args.credential.now own.flags c.args.form c.args.moment c.args.words.now)) c.sent.result) c.delegating-own.ensures c.sent.ensures in
    delegated_so c.args.client.now c.args.credential.now c.args.forwarded.now c.args.initial c.args.form c.args.moment c.args.words.now c.in-Ok.token.items c.sent.result none sends stands

pub returns-in-Err-clause-made : goal.returns-in-Err-clause-made
returns-in-Err-clause-made c =
    undelegating c.args.client.now c.args.credential.now c.args.forwarded.now c.args.initial c.args.form c.args.moment c.args.words.now c.in-Err.refusal c.in-Err.ensures
