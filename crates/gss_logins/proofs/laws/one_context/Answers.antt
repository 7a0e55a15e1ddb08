use Rattle.gss_logins.proofs.OneContext.{one_context}
use Rattle.gss_logins.proofs.laws.one_context.Goals as goal

pub returns : goal.returns
returns c = one_context
