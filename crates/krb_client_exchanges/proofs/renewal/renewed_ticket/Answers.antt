use Rattle.std.proofs.Common.{List, subst}
use Rattle.krb_crypto.specs.declared.suite.CipherSuite.{CipherSuite}
use Rattle.krb_client_exchanges.specs.Courses.{Runs}
use Rattle.krb_client_exchanges.specs.Logins.{renewed_ticket}
use Rattle.krb_client_exchanges.proofs.renewal.renewed_ticket.Goals as goal

pub returns : goal.returns
returns g c =
    subst (λ (suites : List CipherSuite). Runs (g.K.Kdc.events c.args.kdc.now) (g.K.Kdc.events c.renewed_of.new.kdc) (renewed_ticket c.args.client.now suites c.args.credential.now) c.renewed_of.result)
    c.suites.ensures c.renewed_of.ensures
