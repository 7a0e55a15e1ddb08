use Rattle.gss_contexts.proofs.MessageLaws.{message-one}
use Rattle.gss_contexts.proofs.context_tokens.laws.one_krb_message.Goals as goal

pub returns : goal.returns
returns g c = message-one g.T.FromDer.seen g.T.FromDer.reads g.T.FromDer.one_value
