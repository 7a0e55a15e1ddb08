use Rattle.krb_kdc_exchanges.proofs.Involved.{of_involved_alone}
use Rattle.krb_kdc_exchanges.proofs.laws.of_involved_alone.Goals as goal

pub returns : goal.returns
returns g c = of_involved_alone (g.P.Pkinit.rows c.args.pkinit.now)
