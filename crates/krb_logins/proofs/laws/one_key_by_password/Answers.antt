use Rattle.krb_client.specs.EncryptedTimestamps.{by_key}
use Rattle.krb_logins.proofs.ByPassword.{met_by_password}
use Rattle.krb_logins.proofs.EndsWithOneKey.{ends_with_one_key}
use Rattle.krb_logins.proofs.laws.one_key_by_password.Goals as goal

pub returns : goal.returns
returns g c = λ client key realm service before login result after parties enough granting keyed unlimited honest run.
    let rows = g.P.Pkinit.rows c.args.pkinit.now in
    ends_with_one_key client (by_key client.suite key) realm rows service before login
    (met_by_password client key realm rows service before login parties enough granting keyed unlimited honest) result after run
