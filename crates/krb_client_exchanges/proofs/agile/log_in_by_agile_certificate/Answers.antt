use Rattle.std.proofs.Common.{List, subst}
use Rattle.krb_crypto.specs.declared.suite.CipherSuite.{CipherSuite}
use Rattle.pkinit_clients.specs.AgileMeans.{by_agile_certificate}
use Rattle.krb_client_exchanges.specs.Courses.{Runs}
use Rattle.krb_client_exchanges.specs.Logins.{login_by_kept_means}
use Rattle.krb_client_exchanges.proofs.agile.log_in_by_agile_certificate.Goals as goal

pub returns : goal.returns
returns g c =
    subst (λ (suites : List CipherSuite). Runs (g.K.Kdc.events c.args.kdc.now) (g.K.Kdc.events c.log_in_agile.new.kdc)
    (login_by_kept_means c.args.client.now suites (by_agile_certificate c.args.own.now.certificate.now c.args.own.now.anchor.now (g.Y.KeyFunctions.functions c.args.own.now.keys.now))) c.log_in_agile.result)
    c.suites.ensures c.log_in_agile.ensures
