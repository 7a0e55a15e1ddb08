use Rattle.std.proofs.Common.{Ok, Err, ap, sym, subst}
use Rattle.std.specs.Option.{option_copied}
use Rattle.std.proofs.lemmas.Result.{err_from_is_err_and}
use Rattle.krb_messages.specs.Refusals.{IsJudged}
use Rattle.krb_kdc_exchanges.specs.Preauthentication.{reply_key_by}
use Rattle.krb_kdc_exchanges.specs.Call.{call_of}
use Rattle.krb_kdc_exchanges.specs.Allowed.{lifetime_of}
use Rattle.krb_kdc_exchanges.specs.AsTable.{authenticated, possible}
use Rattle.krb_kdc_exchanges.proofs.AsJudged.{given_ticket, refused_accounts, refused_client, refused_ticket}
use Rattle.krb_kdc_exchanges.proofs.as_exchange.whole.judge_as.Goals as goal

pub returns-in_err-check_first_allowed : goal.returns-in_err-check_first_allowed
returns-in_err-check_first_allowed g c =
    let refusal = c.in_err-check_first_allowed.field-0.0 in
    let exit = err_from_is_err_and c.from_residual-in_err-check_first_allowed.result c.from_residual-in_err-check_first_allowed.ensures.1 in
    rw (exit.1, exit.2)
    (refused_accounts (call_of c.args.call.now) (g.P.Pkinit.rows c.args.pkinit.now) (option_copied c.args.client) (option_copied c.args.service) c.args.request.now
    (record { client_name = c.in-Some.client_name.now; client = c.in-Some-client.client.now; service_name = c.in-Some-service_of.service_name.now; service = c.in-Some-service.service.now })
    refusal
    (record {
      header = c.in_ok-check_request.ensures;
      client_name = sym c.in-Some.ensures;
      client = ap (λ o. option_copied o) c.in-Some-client.is;
      service_name = sym c.in-Some-service_of.ensures;
      service = ap (λ o. option_copied o) c.in-Some-service.is;
    })
    c.in_err-check_first_allowed.ensures)

pub returns-in_err-span : goal.returns-in_err-span
returns-in_err-span g c =
    let refusal = c.in_err-span.field-0.0 in
    let body = c.args.request.now.req_body.0 in
    let exit = err_from_is_err_and c.from_residual-in_err-span.result c.from_residual-in_err-span.ensures.1 in
    rw (exit.1, exit.2)
    (refused_ticket (call_of c.args.call.now) (g.P.Pkinit.rows c.args.pkinit.now) (option_copied c.args.client) (option_copied c.args.service) c.args.request.now
    (record { client_name = c.in-Some.client_name.now; client = c.in-Some-client.client.now; service_name = c.in-Some-service_of.service_name.now; service = c.in-Some-service.service.now })
    refusal
    (record {
      header = c.in_ok-check_request.ensures;
      client_name = sym c.in-Some.ensures;
      client = ap (λ o. option_copied o) c.in-Some-client.is;
      service_name = sym c.in-Some-service_of.ensures;
      service = ap (λ o. option_copied o) c.in-Some-service.is;
    })
    c.in_ok-check_first_allowed.ensures
    (subst (λ s. IsJudged (possible (call_of c.args.call.now) (lifetime_of c.args.call.now.settings.lifetime c.in-Some-client.client.now c.in-Some-service.service.now) s body).gives (Err refusal)) c.suite.ensures
    (subst (λ n. IsJudged (possible (call_of c.args.call.now) n c.suite.result body).gives (Err refusal)) c.lifetime_of-lifetime.ensures.value c.in_err-span.ensures)))

pub returns-in_err-authenticated : goal.returns-in_err-authenticated
returns-in_err-authenticated g c =
    let refusal = c.in_err-authenticated.field-0.0 in
    let body = c.args.request.now.req_body.0 in
    let exit = err_from_is_err_and c.from_residual-in_err-authenticated.result c.from_residual-in_err-authenticated.ensures.1 in
    rw (exit.1, exit.2)
    (refused_client (call_of c.args.call.now) (g.P.Pkinit.rows c.args.pkinit.now) (option_copied c.args.client) (option_copied c.args.service) c.args.request.now
    (record { client_name = c.in-Some.client_name.now; client = c.in-Some-client.client.now; service_name = c.in-Some-service_of.service_name.now; service = c.in-Some-service.service.now })
    c.in_ok-span.span refusal
    (record {
      header = c.in_ok-check_request.ensures;
      client_name = sym c.in-Some.ensures;
      client = ap (λ o. option_copied o) c.in-Some-client.is;
      service_name = sym c.in-Some-service_of.ensures;
      service = ap (λ o. option_copied o) c.in-Some-service.is;
    })
    c.in_ok-check_first_allowed.ensures
    (subst (λ s. IsJudged (possible (call_of c.args.call.now) (lifetime_of c.args.call.now.settings.lifetime c.in-Some-client.client.now c.in-Some-service.service.now) s body).gives (Ok c.in_ok-span.span)) c.suite.ensures
    (subst (λ n. IsJudged (possible (call_of c.args.call.now) n c.suite.result body).gives (Ok c.in_ok-span.span)) c.lifetime_of-lifetime.ensures.value c.in_ok-span.ensures))
    (subst (λ n. IsJudged (authenticated (call_of c.args.call.now) (g.P.Pkinit.rows c.args.pkinit.now) c.in-Some-client.client.now n c.args.request.now).gives (Err refusal)) c.as_slice-name.ensures c.in_err-authenticated.ensures))

pub returns : goal.returns
returns g c =
    let body = c.args.request.now.req_body.0 in
    given_ticket (call_of c.args.call.now) (g.P.Pkinit.rows c.args.pkinit.now) (option_copied c.args.client) (option_copied c.args.service) c.args.request.now
    (record { client_name = c.in-Some.client_name.now; client = c.in-Some-client.client.now; service_name = c.in-Some-service_of.service_name.now; service = c.in-Some-service.service.now })
    c.in_ok-span.span (reply_key_by c.in-Some-client.client.now c.in_ok-authenticated.authenticated) c.in_ok-made.made
    (record {
      header = c.in_ok-check_request.ensures;
      client_name = sym c.in-Some.ensures;
      client = ap (λ o. option_copied o) c.in-Some-client.is;
      service_name = sym c.in-Some-service_of.ensures;
      service = ap (λ o. option_copied o) c.in-Some-service.is;
    })
    c.in_ok-check_first_allowed.ensures
    (subst (λ s. IsJudged (possible (call_of c.args.call.now) (lifetime_of c.args.call.now.settings.lifetime c.in-Some-client.client.now c.in-Some-service.service.now) s body).gives (Ok c.in_ok-span.span)) c.suite.ensures
    (subst (λ n. IsJudged (possible (call_of c.args.call.now) n c.suite.result body).gives (Ok c.in_ok-span.span)) c.lifetime_of-lifetime.ensures.value c.in_ok-span.ensures))
    (subst (λ n. IsJudged (authenticated (call_of c.args.call.now) (g.P.Pkinit.rows c.args.pkinit.now) c.in-Some-client.client.now n c.args.request.now).gives (Ok (reply_key_by c.in-Some-client.client.now c.in_ok-authenticated.authenticated))) c.as_slice-name.ensures c.in_ok-authenticated.ensures)
    c.in_ok-made.ensures.reply c.in_ok-made.ensures.ticket
