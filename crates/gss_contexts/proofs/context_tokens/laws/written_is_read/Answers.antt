use Rattle.gss_contexts.proofs.ContextTokensWritten.{message-written, message-only, proxy_message-written}
use Rattle.gss_contexts.proofs.context_tokens.laws.written_is_read.Goals as goal

pub returns-clause-message : goal.returns-clause-message
returns-clause-message g c = message-written g.T.Serialize.tree

pub returns-clause-only : goal.returns-clause-only
returns-clause-only g c = message-only g.T.Serialize.tree

pub returns-clause-proxied : goal.returns-clause-proxied
returns-clause-proxied g c = proxy_message-written g.T.Serialize.tree
