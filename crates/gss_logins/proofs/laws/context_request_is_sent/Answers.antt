use Rattle.gss_logins.proofs.Sent.{context_sent}
use Rattle.gss_logins.proofs.laws.context_request_is_sent.Goals as goal

pub returns : goal.returns
returns c = context_sent
