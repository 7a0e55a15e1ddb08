use Rattle.krb_logins.specs.Input.{login_of}
use Rattle.krb_realm.specs.Logins.{realm_record, realm_rows}
use Rattle.krb_realm.proofs.Exchanges.{exchanged, not_exchanged}
use Rattle.krb_logins.proofs.StepEnds.{exit_of}
use Rattle.krb_realm.proofs.login.exchange.Goals as goal

pub returns-in_err-granting : goal.returns-in_err-granting
returns-in_err-granting g c =
    not_exchanged c.args.client.now (g.M.Means.means c.args.means.now) (realm_record c.args.realm.now) (realm_rows c.args.realm.now (g.R.KeyFunctions.functions c.args.keys.now)) (login_of c.args.input.now) c.from_residual.result c.in_err-granting.field-0.0 c.in_err-granting.ensures
    (exit_of c.from_residual.result c.in_err-granting.field-0.0 c.from_residual.ensures.1)

pub returns : goal.returns
returns g c =
    exchanged c.args.client.now (g.M.Means.means c.args.means.now) (realm_record c.args.realm.now) (realm_rows c.args.realm.now (g.R.KeyFunctions.functions c.args.keys.now)) (login_of c.args.input.now) c.tgs_exchange.result c.in_ok-granting.granting c.in_ok-granting.ensures c.tgs_exchange.ensures
