use Rattle.krb_client_exchanges.specs.HintedClients.{client_by_hint}
use Rattle.krb_client_exchanges.proofs.Told.{keyed}
use Rattle.krb_client_exchanges.proofs.secret.keyed_by_password.Goals as goal

pub returns : goal.returns
returns g c =
    rw c.judged_made.ensures
    (keyed _ c.args.hint.now.suite c.hinted_client.result (client_by_hint c.args.wanted c.args.client.now.realm c.args.client.now.components c.args.password.now c.args.hint.now) c.hinted_client.ensures)
