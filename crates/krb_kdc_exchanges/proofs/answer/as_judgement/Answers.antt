use Rattle.std.proofs.Common.{◌≡◌, Ok, Err, ap, subst, ◌∙◌}
use Rattle.std.specs.Option.{option_copied, option_map}
use Rattle.krb_messages.specs.declared.refusal.Refusal.TheVariants.{Krb}
use Rattle.krb_kdc_exchanges.specs.AsTable.{as_table}
use Rattle.krb_kdc_exchanges.specs.Call.{call_of}
use Rattle.krb_kdc_exchanges.specs.Granting.{IsGranted}
use Rattle.krb_kdc_exchanges.specs.Requests.{account_of, client_of, service_of}
use Rattle.krb_kdc_exchanges.specs.Replies.{e_data_of}
use Rattle.krb_kdc_exchanges.proofs.answer.as_judgement.Goals as goal

pub returns-in-Ok : goal.returns-in-Ok
returns-in-Ok g c =
    let call = call_of c.args.call.now in
    let rows = g.P.Pkinit.rows c.args.pkinit.now in
    let request = c.args.request.now in
    let body = request.req_body.0 in
    let client : option_copied c.account_of-client.result ≡ account_of call.look (client_of body) =
    c.account_of-client.ensures ∙ ap (λ n. account_of call.look n) c.client_of.ensures in
    let service : option_copied c.account_of-service.result ≡ account_of call.look (service_of body) =
    c.account_of-service.ensures ∙ ap (λ n. account_of call.look n) c.service_of.ensures in
    subst (λ a. IsGranted (as_table call rows a (account_of call.look (service_of body)) request).gives (Ok c.in-Ok.made)) client
    (subst (λ a. IsGranted (as_table call rows (option_copied c.account_of-client.result) a request).gives (Ok c.in-Ok.made)) service c.in-Ok.ensures)

pub returns-in_ok-e_data-in-Err-Krb : goal.returns-in_ok-e_data-in-Err-Krb
returns-in_ok-e_data-in-Err-Krb g c =
    let call = call_of c.args.call.now in
    let rows = g.P.Pkinit.rows c.args.pkinit.now in
    let request = c.args.request.now in
    let body = request.req_body.0 in
    let code = c.in-Err-Krb.code in
    let client : option_copied c.account_of-client.result ≡ account_of call.look (client_of body) =
    c.account_of-client.ensures ∙ ap (λ n. account_of call.look n) c.client_of.ensures in
    let service : option_copied c.account_of-service.result ≡ account_of call.look (service_of body) =
    c.account_of-service.ensures ∙ ap (λ n. account_of call.look n) c.service_of.ensures in
    let judged =
    subst (λ a. IsGranted (as_table call rows a (account_of call.look (service_of body)) request).gives (Err (Krb code))) client
    (subst (λ a. IsGranted (as_table call rows (option_copied c.account_of-client.result) a request).gives (Err (Krb code))) service (rw c.in-Err-Krb.field-0-is at c.in-Err-Krb.ensures)) in
    let e_data : option_map (λ h. h.items) c.in_ok-e_data-in-Err-Krb.e_data ≡ e_data_of rows.offered (account_of call.look (client_of body)) code =
    c.in_ok-e_data-in-Err-Krb.ensures ∙ ap (λ o. e_data_of o (option_copied c.account_of-client.result) code) c.is_offered.ensures ∙ ap (λ a. e_data_of rows.offered a code) client in
    (judged, e_data)
