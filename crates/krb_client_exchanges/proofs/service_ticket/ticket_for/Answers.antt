use Rattle.std.proofs.Common.{List, subst}
use Rattle.krb_realm_accounts.specs.Names.{parts}
use Rattle.krb_crypto.specs.declared.suite.CipherSuite.{CipherSuite}
use Rattle.krb_client_exchanges.specs.Courses.{Runs}
use Rattle.krb_client_exchanges.specs.Logins.{ticket_for}
use Rattle.krb_client_exchanges.proofs.service_ticket.ticket_for.Goals as goal

pub returns : goal.returns
returns g c =
    subst (λ (suites : List CipherSuite). Runs (g.K.Kdc.events c.args.kdc.now) (g.K.Kdc.events c.ticket_of.new.kdc) (ticket_for c.args.client.now suites c.args.credential.now (parts c.args.service.now)) c.ticket_of.result)
    c.suites.ensures c.ticket_of.ensures
