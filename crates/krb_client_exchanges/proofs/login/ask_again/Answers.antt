use Rattle.std.proofs.Common.{[], ◌∷◌, subst}
use Rattle.krb_crypto.specs.declared.suite.CipherSuite.{CipherSuite}
use Rattle.krb_client_exchanges.specs.Courses.{Runs}
use Rattle.krb_client_exchanges.specs.Logins.{means_of}
use Rattle.krb_client_exchanges.specs.RequestKinds.{as_request_by, exchange}
use Rattle.krb_client_exchanges.specs.Taking.{octets_last}
use Rattle.krb_client_exchanges.proofs.login.ask_again.Goals as goal

pub returns : goal.returns
returns g c =
    subst (λ (suite : CipherSuite). Runs (g.K.Kdc.events c.args.kdc.now) (g.K.Kdc.events c.ask_by_means.new.kdc) (exchange (as_request_by c.args.own.now (suite ∷ []) (means_of c.args.means.now))) (octets_last c.ask_by_means.result))
    c.suite.ensures c.ask_by_means.ensures
