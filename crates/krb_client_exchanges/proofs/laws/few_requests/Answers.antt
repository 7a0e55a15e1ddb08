use Rattle.krb_client_exchanges.proofs.Counts.{of_keytab, of_means, of_password, of_renewal, of_ticket}
use Rattle.krb_client_exchanges.proofs.laws.few_requests.Goals as goal

pub returns-clause-password : goal.returns-clause-password
returns-clause-password g c = of_password

pub returns-clause-keytab : goal.returns-clause-keytab
returns-clause-keytab g c = of_keytab

pub returns-clause-means : goal.returns-clause-means
returns-clause-means g c = λ client suites. of_means client suites (g.M.Means.means c.args.means.now)

pub returns-clause-ticket : goal.returns-clause-ticket
returns-clause-ticket g c = of_ticket

pub returns-clause-renewal : goal.returns-clause-renewal
returns-clause-renewal g c = of_renewal
