use Rattle.std.proofs.Common.{List, Ok, Err}
use Rattle.decision_tables.specs.Tables.{done}
use Rattle.krb_crypto.specs.declared.suite.CipherSuite.{CipherSuite}
use Rattle.krb_client_exchanges.specs.Logins.{login_by_shared_key}
use Rattle.krb_client_exchanges.specs.SharedKeys.{keyed_by_keytab, keytab_suites, some_suites}
use Rattle.krb_client_exchanges.proofs.Running.{runs-exit, runs-judged, runs-with}
use Rattle.krb_client_exchanges.proofs.login.log_in_by_keytab.Goals as goal

pub returns-in_err-suites : goal.returns-in_err-suites
returns-in_err-suites g c =
    runs-exit (λ (suites : List CipherSuite). login_by_shared_key {F = g.row.K-Fault.Denot} c.args.client.now suites (keyed_by_keytab c.args.client.now c.args.keytab.now)) c.from_residual.result c.from_residual.ensures.1
    (runs-judged (λ refusal. refusal) (done (some_suites (keytab_suites c.args.client.now c.args.wanted c.args.keytab.now))) _ (Err c.in_err-suites.field-0.0) c.in_err-suites.ensures)

pub returns : goal.returns
returns g c =
    runs-with (λ (suites : List CipherSuite). login_by_shared_key {F = g.row.K-Fault.Denot} c.args.client.now suites (keyed_by_keytab c.args.client.now c.args.keytab.now)) c.deref.ensures.value
    (runs-judged (λ refusal. refusal) (done (some_suites (keytab_suites c.args.client.now c.args.wanted c.args.keytab.now))) _ (Ok c.in_ok-suites.suites.items) c.in_ok-suites.ensures)
    c.log_in.ensures
