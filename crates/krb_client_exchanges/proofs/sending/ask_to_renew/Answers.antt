use Rattle.krb_client_exchanges.specs.RequestKinds.{renewal_request_by}
use Rattle.krb_client_exchanges.specs.Taking.{octets_first}
use Rattle.krb_client_exchanges.proofs.Exchanging.{exchanged, no_occasion}
use Rattle.krb_client_exchanges.proofs.sending.ask_to_renew.Goals as goal

pub returns : goal.returns
returns g c =
    exchanged (renewal_request_by c.args.client.now c.args.suites.now c.args.credential.now) c.in_ok-occasion.occasion (octets_first c.renewal_at.result)
    c.in_ok-occasion.ensures.course c.renewal_at.ensures c.send.ensures

pub returns-in_err-occasion : goal.returns-in_err-occasion
returns-in_err-occasion g c = no_occasion (renewal_request_by c.args.client.now c.args.suites.now c.args.credential.now) c.from_residual.result c.from_residual.ensures.1 c.in_err-occasion.ensures.course
