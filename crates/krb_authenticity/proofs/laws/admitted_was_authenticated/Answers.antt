use Rattle.krb_authenticity.proofs.Whole.{authentic, authentic_by, authentic_by_keytab, authentic_with}
use Rattle.krb_authenticity.proofs.laws.admitted_was_authenticated.Goals as goal

pub returns-clause-by_entry : goal.returns-clause-by_entry
returns-clause-by_entry g c = authentic_by (g.P.Pkinit.rows c.args.pkinit.now)

pub returns-clause-with_fields : goal.returns-clause-with_fields
returns-clause-with_fields g c = authentic_with (g.P.Pkinit.rows c.args.pkinit.now)

pub returns-clause-with_time_alone : goal.returns-clause-with_time_alone
returns-clause-with_time_alone g c = authentic (g.P.Pkinit.rows c.args.pkinit.now)

pub returns-clause-by_keytab : goal.returns-clause-by_keytab
returns-clause-by_keytab g c = authentic_by_keytab (g.P.Pkinit.rows c.args.pkinit.now)
