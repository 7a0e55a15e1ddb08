use Rattle.krb_kdc_exchanges.specs.AsTable.{as_table}
use Rattle.krb_kdc_exchanges.specs.Call.{call_of}
use Rattle.krb_kdc_exchanges.specs.Requests.{account_of, client_of, service_of}
use Rattle.krb_kdc_exchanges.specs.Replies.{e_data_of}
use Rattle.krb_kdc_exchanges.proofs.Answered.{answers_with, outcomes_with}
use Rattle.krb_kdc_exchanges.proofs.answer.as_reply.Goals as goal

pub returns-clause-reply : goal.returns-clause-reply
returns-clause-reply g c =
    let call = call_of c.args.call.now in
    let rows = g.P.Pkinit.rows c.args.pkinit.now in
    let request = c.args.request.now in
    let client = account_of call.look (client_of request.req_body.0) in
    let service = account_of call.look (service_of request.req_body.0) in
    answers_with call (e_data_of rows.offered client) request (as_table call rows client service request) c.judged_reply.result c.in_ok-judged.judged c.in_ok-judged.ensures c.judged_reply.ensures.reply

pub returns-clause-outcome : goal.returns-clause-outcome
returns-clause-outcome g c =
    let call = call_of c.args.call.now in
    let rows = g.P.Pkinit.rows c.args.pkinit.now in
    let request = c.args.request.now in
    let client = account_of call.look (client_of request.req_body.0) in
    let service = account_of call.look (service_of request.req_body.0) in
    outcomes_with call (e_data_of rows.offered client) request (as_table call rows client service request) c.judged_reply.result c.in_ok-judged.judged c.in_ok-judged.ensures c.judged_reply.ensures.reply
    c.judged_reply.ensures.outcome
