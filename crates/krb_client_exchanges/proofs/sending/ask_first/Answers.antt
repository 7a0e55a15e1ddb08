use Rattle.krb_client_exchanges.specs.RequestKinds.{first_as_request}
use Rattle.krb_client_exchanges.specs.Taking.{octets_first}
use Rattle.krb_client_exchanges.proofs.Exchanging.{exchanged, no_occasion}
use Rattle.krb_client_exchanges.proofs.sending.ask_first.Goals as goal

pub returns : goal.returns
returns g c =
    exchanged (first_as_request c.args.client.now c.args.suites.now) c.in_ok-occasion.occasion (octets_first c.first_at.result)
    c.in_ok-occasion.ensures.course c.first_at.ensures c.send.ensures

pub returns-in_err-occasion : goal.returns-in_err-occasion
returns-in_err-occasion g c = no_occasion (first_as_request c.args.client.now c.args.suites.now) c.from_residual.result c.from_residual.ensures.1 c.in_err-occasion.ensures.course
