use Rattle.krb_logins.specs.Input.{login_of}
use Rattle.krb_realm.specs.Clients.{means_of}
use Rattle.krb_realm.specs.HeldClients.{client_by}
use Rattle.krb_realm.specs.Clients.{means_by}
use Rattle.krb_realm.specs.Logins.{realm_record, realm_rows}
use Rattle.krb_logins.specs.ApExchanges.{remembered}
use Rattle.krb_realm.proofs.ClientMeans.{same_means}
use Rattle.krb_realm.proofs.LoginMeans.{run_as}
use Rattle.krb_realm.proofs.login.login_by_certificate.Goals as goal

pub returns-clause-run : goal.returns-clause-run
returns-clause-run g c = λ admitted window.
    run_as (realm_record c.args.realm.now) (realm_rows c.args.realm.now (g.R.KeyFunctions.functions c.args.realm_keys.now)) c.args.service.now (remembered c.args.service.now admitted) (login_of c.args.input.now) c.login.result
    c.asking.result.now c.args.client.now.client c.asking.ensures
    (means_by (client_by c.means-means.result.held.now) (g.C.KeyFunctions.functions c.means-means.result.keys.now)) (means_of c.args.client.now (g.C.KeyFunctions.functions c.args.client_keys.now))
    (same_means g.C.KeyFunctions.functions c.means-means.ensures.by c.means-means.ensures.keys)
    c.login.new.service.seen (c.login.ensures.run admitted window)

pub returns-clause-honest : goal.returns-clause-honest
returns-clause-honest g c = λ certificate anchor admitted by window honest.
    let run = returns-clause-run g c admitted window in
    c.certified_ends_with_one_key.ensures certificate anchor (remembered c.args.service.now admitted) c.login.result run.0 by honest run.1
