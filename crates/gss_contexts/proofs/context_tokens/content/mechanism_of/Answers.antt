use Rattle.std.proofs.Common.{◌∙◌}
use Rattle.asn1_codec.proofs.Chain.{at-exit}
use Rattle.gss_contexts.proofs.Unread.{unread-as}
use Rattle.gss_contexts.proofs.ContextTokenLaws.{contents-one}
use Rattle.gss_contexts.proofs.context_tokens.content.mechanism_of.Goals as goal

pub returns-in_err-content : goal.returns-in_err-content
returns-in_err-content c =
    at-exit _ _ _ _ c.from_residual.ensures.1
    (unread-as _ _ c.in_err-content.field-0.0 c.in_err-content.ensures (λ m (inner, (content, begins, leads)). (content, begins)))

pub returns-in_err-mechanism : goal.returns-in_err-mechanism
returns-in_err-mechanism c =
    at-exit _ _ _ _ c.from_residual-in_err-mechanism.ensures.1
    (unread-as _ _ c.in_err-mechanism.field-0.0 c.in_err-mechanism.ensures (λ m (inner, (other, also, (front, read, is))).
    (m, (front, inner, read, contents-one c.in_ok-content.content.now other c.args.bytes.now c.in_ok-content.ensures also ∙ is))))

pub returns : goal.returns
returns c = (c.in_ok-content.content.now, c.in_ok-content.ensures, c.in_ok-mechanism.ensures)
