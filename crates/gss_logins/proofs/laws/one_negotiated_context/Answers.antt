use Rattle.gss_logins.proofs.Negotiated.{one_negotiated_context}
use Rattle.gss_logins.proofs.laws.one_negotiated_context.Goals as goal

pub returns : goal.returns
returns c = one_negotiated_context
