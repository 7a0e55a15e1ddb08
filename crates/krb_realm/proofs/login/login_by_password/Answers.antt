use Rattle.x509_keys.specs.KeyFunctions.{no_functions}
use Rattle.krb_logins.specs.Input.{login_of}
use Rattle.krb_realm.specs.Clients.{means_by, means_of}
use Rattle.krb_realm.specs.HeldClients.{client_by}
use Rattle.krb_realm.specs.Logins.{realm_record, realm_rows}
use Rattle.krb_logins.specs.ApExchanges.{remembered}
use Rattle.krb_realm.proofs.ClientMeans.{same_means}
use Rattle.krb_realm.proofs.LoginMeans.{run_as}
use Rattle.krb_realm.proofs.login.login_by_password.Goals as goal

pub returns-clause-run : goal.returns-clause-run
returns-clause-run c = λ admitted window.
    run_as (realm_record c.args.realm.now) (realm_rows c.args.realm.now no_functions) c.args.service.now (remembered c.args.service.now admitted) (login_of c.args.input.now) c.login.result
    c.asking.result.now c.args.client.now.client c.asking.ensures
    (means_by (client_by c.means-means.result.held.now) no_functions) (means_of c.args.client.now no_functions)
    (same_means (λ keys. no_functions) c.means-means.ensures.by c.means-means.ensures.keys)
    c.login.new.service.seen (c.login.ensures.run admitted window)

pub returns-clause-honest : goal.returns-clause-honest
returns-clause-honest c = λ key admitted by window honest.
    let run = returns-clause-run c admitted window in
    c.keyed_ends_with_one_key.ensures key (remembered c.args.service.now admitted) c.login.result run.0 by honest run.1
