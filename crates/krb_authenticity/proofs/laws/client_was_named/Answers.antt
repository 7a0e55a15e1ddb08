use Rattle.krb_authenticity.proofs.Named.{client_named}
use Rattle.krb_authenticity.proofs.laws.client_was_named.Goals as goal

pub returns : goal.returns
returns g c = client_named (g.P.Pkinit.rows c.args.pkinit.now)
