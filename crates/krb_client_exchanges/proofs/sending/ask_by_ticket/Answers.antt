use Rattle.krb_realm_accounts.specs.Names.{parts}
use Rattle.krb_client_exchanges.specs.RequestKinds.{tgs_request_by}
use Rattle.krb_client_exchanges.specs.Taking.{octets_first}
use Rattle.krb_client_exchanges.proofs.Exchanging.{exchanged, no_occasion}
use Rattle.krb_client_exchanges.proofs.sending.ask_by_ticket.Goals as goal

pub returns : goal.returns
returns g c =
    exchanged (tgs_request_by c.args.client.now c.args.suites.now c.args.credential.now (parts c.args.service.now)) c.in_ok-occasion.occasion (octets_first c.by_ticket_at.result)
    c.in_ok-occasion.ensures.course c.by_ticket_at.ensures c.send.ensures

pub returns-in_err-occasion : goal.returns-in_err-occasion
returns-in_err-occasion g c = no_occasion (tgs_request_by c.args.client.now c.args.suites.now c.args.credential.now (parts c.args.service.now)) c.from_residual.result c.from_residual.ensures.1 c.in_err-occasion.ensures.course
