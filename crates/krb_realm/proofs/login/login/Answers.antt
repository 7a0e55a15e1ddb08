use Rattle.std.proofs.Common.{refl}
use Rattle.krb_logins.specs.Input.{login_of}
use Rattle.krb_realm.specs.Logins.{realm_record, realm_rows}
use Rattle.krb_logins.specs.ApExchanges.{remembered}
use Rattle.krb_realm.proofs.LoginEnds.{by_credential, no_credential}
use Rattle.krb_logins.proofs.StepEnds.{exit_of}
use Rattle.krb_realm.proofs.login.login.Goals as goal

pub returns-in_err-credential-clause-run : goal.returns-in_err-credential-clause-run
returns-in_err-credential-clause-run g c = λ admitted window.
    no_credential c.args.client.now (g.M.Means.means c.args.means.now) (realm_record c.args.realm.now) (realm_rows c.args.realm.now (g.R.KeyFunctions.functions c.args.keys.now)) c.args.service.now (login_of c.args.input.now) (remembered c.args.service.now admitted) c.args.service.now.seen c.from_residual.result
    c.in_err-credential.field-0.0 c.in_err-credential.ensures
    (exit_of c.from_residual.result c.in_err-credential.field-0.0 c.from_residual.ensures.1) window refl

pub returns-clause-run : goal.returns-clause-run
returns-clause-run g c = λ admitted window.
    by_credential c.args.client.now (g.M.Means.means c.args.means.now) (realm_record c.args.realm.now) (realm_rows c.args.realm.now (g.R.KeyFunctions.functions c.args.keys.now)) c.args.service.now (login_of c.args.input.now) (remembered c.args.service.now admitted) c.ap_exchange.new.service.seen c.ap_exchange.result
    c.in_ok-credential.credential c.in_ok-credential.ensures (c.ap_exchange.ensures.run admitted window)
