use Rattle.krb_client_exchanges.specs.RequestKinds.{as_request_by}
use Rattle.krb_client_exchanges.specs.Taking.{octets_first}
use Rattle.krb_client_exchanges.proofs.Exchanging.{exchanged_kept, no_kept_occasion}
use Rattle.krb_client_exchanges.proofs.sending.ask_kept.Goals as goal

pub returns : goal.returns
returns g c =
    exchanged_kept (as_request_by c.args.client.now c.args.suites.now (g.M.Means.means c.args.means.now)) c.in_ok-occasion.occasion (octets_first c.by_means_at.result)
    c.in_ok-occasion.ensures.course c.by_means_at.ensures c.send_kept.ensures

pub returns-in_err-occasion : goal.returns-in_err-occasion
returns-in_err-occasion g c = no_kept_occasion (as_request_by c.args.client.now c.args.suites.now (g.M.Means.means c.args.means.now)) c.from_residual.result c.from_residual.ensures.1 c.in_err-occasion.ensures.course
