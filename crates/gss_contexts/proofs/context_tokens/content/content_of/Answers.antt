use Rattle.std.proofs.Common.{◌≡◌, List, ℕ, inr, sym, subst}
use Rattle.gss_contexts.specs.ContextTokens.{BeginsToken}
use Rattle.gss_contexts.specs.ContextTokenRefusals.{IsUnread}
use Rattle.gss_contexts.proofs.ContextTokenLaws.{no-token, other-tag}
use Rattle.gss_contexts.proofs.Unread.{unread-of}
use Rattle.gss_contexts.proofs.context_tokens.content.content_of.Goals as goal

pub returns-in-Err : goal.returns-in-Err
returns-in-Err c =
    subst (IsUnread (λ (content : List ℕ). BeginsToken content c.args.bytes.now)) (sym c.token_fault.ensures)
    (unread-of (λ (content : List ℕ). BeginsToken content c.args.bytes.now) c.in-Err.fault (inr (no-token c.args.bytes.now c.in-Err.ensures.0)))

pub returns-then-from-ne-INITIAL_TOKEN : goal.returns-then-from-ne-INITIAL_TOKEN
returns-then-from-ne-INITIAL_TOKEN c =
    let same : c.from.result ≡ c.in-Ok.split.0.first = cc (c.from.ensures, c.tag.ensures) in
    other-tag c.args.bytes.now c.in-Ok.split.0.first c.from.result c.in-Ok.split.0.content c.in-Ok.split.1.now c.in-Ok.ensures.split.1 same c.if-from-ne-INITIAL_TOKEN.true
