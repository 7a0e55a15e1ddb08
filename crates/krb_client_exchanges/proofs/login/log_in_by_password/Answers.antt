use Rattle.std.proofs.Common.{List, subst}
use Rattle.krb_crypto.specs.declared.suite.CipherSuite.{CipherSuite}
use Rattle.krb_client_exchanges.specs.Courses.{Runs}
use Rattle.krb_client_exchanges.specs.Logins.{login_by_shared_key}
use Rattle.krb_client_exchanges.specs.SharedKeys.{keyed_by_password}
use Rattle.krb_client_exchanges.proofs.login.log_in_by_password.Goals as goal

pub returns : goal.returns
returns g c =
    subst (λ (suites : List CipherSuite). Runs (g.K.Kdc.events c.args.kdc.now) (g.K.Kdc.events c.log_in.new.kdc)
    (login_by_shared_key c.args.client.now suites (keyed_by_password c.args.client.now c.args.wanted c.args.password.now)) c.log_in.result)
    c.suites.ensures c.log_in.ensures
