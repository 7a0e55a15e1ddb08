use Rattle.krb_logins.proofs.RenewedTickets.{renewed}
use Rattle.krb_logins.proofs.laws.renewed_as_seen.Goals as goal

pub returns : goal.returns
returns c = λ client realm exchange granting credential holds renews renewal next. renewed client realm exchange granting holds credential renews renewal next
