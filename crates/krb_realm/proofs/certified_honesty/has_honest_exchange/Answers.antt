use Rattle.std.proofs.Common.{ap, ◌∙◌}
use Rattle.std.specs.Prelude.{◌≢◌}
use Rattle.krb_messages.specs.TicketGranting.{krbtgt_of}
use Rattle.krb_realm_accounts.specs.Names.{parts}
use Rattle.krb_client.specs.declared.refusal.AskRefusal.TheVariants.{Memory}
use Rattle.krb_logins.specs.Input.{login_of, realm_of}
use Rattle.pkinit_validation.specs.Trust.{trust_of}
use Rattle.krb_realm.specs.Exchange.{IsExchangeMet, IsHonestExchange}
use Rattle.krb_realm.specs.HonestByCertificate.{pkinit_asked_of_login, pkinit_call_of_login}
use Rattle.krb_realm.proofs.ExchangeAsked.{asked_honest, never_true, only_memory, only_refused}
use Rattle.krb_realm.proofs.certified_honesty.has_honest_exchange.Goals as goal

pub returns-in-Ok-clause-honest : goal.returns-in-Ok-clause-honest
returns-in-Ok-clause-honest g c = λ answer.
    let named = ap parts c.deref.ensures.value ∙ c.in_ok-granting.ensures ∙ ap krbtgt_of c.realm.ensures in
    asked_honest c.args.client.now c.args.own.now.certificate.now c.args.own.now.anchor.now (g.C.KeyFunctions.functions c.args.own.now.keys.now) (realm_of c.args.realm.now)
    (trust_of c.args.pkinit.now.anchor c.args.pkinit.now.certificate) (g.R.KeyFunctions.functions c.args.pkinit.now.keys.now) (login_of c.args.input.now)
    (parts c.deref.result.now) c.nonce_of.result named c.nonce_of.ensures c.in-Ok.ensures.asks.padata c.in-Ok.ensures.asks.shown

pub returns-clause-honest : goal.returns-clause-honest
returns-clause-honest g c =
    let client_keys = g.C.KeyFunctions.functions c.args.own.now.keys.now in
    let realm_keys = g.R.KeyFunctions.functions c.args.pkinit.now.keys.now in
    let login = login_of c.args.input.now in
    never_true c.false_unless_memory.result (c.in-Err.refusal ≢ Memory)
    (IsHonestExchange client_keys c.args.own.now.certificate.now (trust_of c.args.pkinit.now.anchor c.args.pkinit.now.certificate) realm_keys
    (pkinit_call_of_login c.args.client.now (realm_of c.args.realm.now) login) (pkinit_asked_of_login c.args.own.now.anchor.now c.args.client.now login))
    c.false_unless_memory.ensures

pub returns-clause-met : goal.returns-clause-met
returns-clause-met g c =
    let client_keys = g.C.KeyFunctions.functions c.args.own.now.keys.now in
    let realm_keys = g.R.KeyFunctions.functions c.args.pkinit.now.keys.now in
    let login = login_of c.args.input.now in
    let trust = trust_of c.args.pkinit.now.anchor c.args.pkinit.now.certificate in
    let named = ap parts c.deref.ensures.value ∙ c.in_ok-granting.ensures ∙ ap krbtgt_of c.realm.ensures in
    only_refused c.false_unless_memory.result c.in-Err.refusal
    (IsExchangeMet client_keys c.args.own.now.certificate.now trust realm_keys
    (pkinit_call_of_login c.args.client.now (realm_of c.args.realm.now) login) (pkinit_asked_of_login c.args.own.now.anchor.now c.args.client.now login))
    c.false_unless_memory.ensures
    (only_memory c.args.client.now c.args.own.now.certificate.now c.args.own.now.anchor.now client_keys (realm_of c.args.realm.now) trust realm_keys login
    (parts c.deref.result.now) c.nonce_of.result named c.nonce_of.ensures c.is_well_formed.ensures.realm c.in-Err.refusal c.in-Err.ensures.refusal)
