use Rattle.gss_contexts.specs.contracts.context_tokens.iakerb_header.IAKerbHeaderFromDer.TheImpl as header_reading
use Rattle.gss_contexts.proofs.MessageLaws.{proxy_message-one}
use Rattle.gss_contexts.proofs.context_tokens.laws.one_proxy_message.Goals as goal

pub returns : goal.returns
returns g c = proxy_message-one g.T.FromDer.seen g.T.FromDer.reads g.T.FromDer.one_value header_reading.ghosts.one_value
