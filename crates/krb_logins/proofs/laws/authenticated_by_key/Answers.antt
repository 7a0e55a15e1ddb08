use Rattle.krb_logins.proofs.ByPassword.{authenticated_by_key}
use Rattle.krb_logins.proofs.laws.authenticated_by_key.Goals as goal

pub returns : goal.returns
returns g c = λ client key realm account login body suite shared near.
    authenticated_by_key client key realm (g.P.Pkinit.rows c.args.pkinit.now) account login body suite shared near
