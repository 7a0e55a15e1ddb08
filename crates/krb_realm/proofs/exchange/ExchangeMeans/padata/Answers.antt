use Rattle.krb_kdc_exchanges.specs.Call.{call_of, pkinit_call}
use Rattle.pkinit_validation.specs.Trust.{trust_of}
use Rattle.pkinit_clients.specs.Means.{IsPkinitPadata}
use Rattle.krb_realm.specs.Exchange.{IsExchangeMet}
use Rattle.krb_realm.specs.ExchangeMeans.{asked_at}
use Rattle.krb_realm.proofs.ExchangeAsked.{unmade_as, unshown_as}
use Rattle.krb_realm.proofs.exchange.ExchangeMeans.padata.Goals as goal

pub returns-in-Ok-clause-refusal : goal.returns-in-Ok-clause-refusal
returns-in-Ok-clause-refusal g c =
    let exchange = c.args.self.now in
    let client_keys = g.C.KeyFunctions.functions exchange.own.now.keys.now in
    let certificate = exchange.own.now.certificate.now in
    unshown_as c.padata_if_honest.result (IsPkinitPadata client_keys certificate c.args.body.now c.args.moment c.args.words.now c.in-Ok.padata)
    (IsExchangeMet client_keys certificate (trust_of exchange.pkinit.now.anchor exchange.pkinit.now.certificate) (g.R.KeyFunctions.functions exchange.pkinit.now.keys.now)
    (pkinit_call (call_of exchange.realm.now) exchange.client.now.components c.args.body.now)
    (asked_at exchange.client.now exchange.own.now.anchor.now exchange.nonce c.args.moment c.args.words.now))
    c.in-Ok.ensures.shown c.padata_if_honest.ensures.refusal

pub returns-in-Err-clause-refusal : goal.returns-in-Err-clause-refusal
returns-in-Err-clause-refusal g c =
    let exchange = c.args.self.now in
    unmade_as (g.C.KeyFunctions.functions exchange.own.now.keys.now) (g.R.KeyFunctions.functions exchange.pkinit.now.keys.now) exchange.own.now.certificate.now
    (trust_of exchange.pkinit.now.anchor exchange.pkinit.now.certificate) (pkinit_call (call_of exchange.realm.now) exchange.client.now.components c.args.body.now)
    (asked_at exchange.client.now exchange.own.now.anchor.now exchange.nonce c.args.moment c.args.words.now) c.in-Err.refusal c.in-Err.ensures.refusal
