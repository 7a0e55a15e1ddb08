use Rattle.asn1_codec.proofs.Chain.{at-exit}
use Rattle.gss_contexts.proofs.Unread.{unwritten-memory}
use Rattle.gss_contexts.proofs.context_tokens.krb_message.KrbMessage.content.Goals as goal

pub returns-in_err-content : goal.returns-in_err-content
returns-in_err-content g c = at-exit _ _ _ _ c.from_residual.ensures.1 (unwritten-memory _ _ c.in_err-content.ensures)
