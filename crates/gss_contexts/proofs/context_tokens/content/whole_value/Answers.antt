use Rattle.std.proofs.Common.{sym, subst}
use Rattle.gss_contexts.specs.ContextTokenRefusals.{IsUnread}
use Rattle.gss_contexts.proofs.Unread.{unread-whole}
use Rattle.gss_contexts.proofs.context_tokens.content.whole_value.Goals as goal

pub returns-in-Err : goal.returns-in-Err
returns-in-Err g c =
    let t = g.T.FromDer in
    subst (IsUnread (λ v. t.reads v c.args.bytes.now)) (sym c.token_fault.ensures) (unread-whole t.seen t.reads c.args.bytes.now c.in-Err.fault c.in-Err.ensures.value)
