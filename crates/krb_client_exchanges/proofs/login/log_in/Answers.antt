use Rattle.std.proofs.Common.{List, ℕ, ap}
use Rattle.krb_client_exchanges.specs.Logins.{after_first}
use Rattle.krb_client_exchanges.specs.SharedKeys.{keyed_by}
use Rattle.krb_client_exchanges.proofs.Running.{runs-exit, runs-with}
use Rattle.krb_client_exchanges.proofs.login.log_in.Goals as goal

pub returns-in_err-asked : goal.returns-in_err-asked
returns-in_err-asked g c = runs-exit (after_first c.args.suites.now (keyed_by c.args.client.now c.args.secret)) c.from_residual.result c.from_residual.ensures.1 c.in_err-asked.ensures

pub returns : goal.returns
returns g c =
    runs-with (after_first c.args.suites.now (keyed_by c.args.client.now c.args.secret)) (ap (λ (octets : List ℕ). (c.in_ok-asked.asked, octets)) c.deref.ensures.value)
    c.in_ok-asked.ensures c.after_first.ensures
