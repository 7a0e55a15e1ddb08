use Rattle.std.proofs.Common.{◌≡◌}
use Rattle.krb_kdc_exchanges.specs.Call.{call_of, pkinit_call}
use Rattle.krb_kdc_exchanges.specs.PkinitCalls.{PkinitCallRecord}
use Rattle.pkinit_clients.specs.Asked.{PkinitAskedRecord}
use Rattle.pkinit_validation.specs.Trust.{trust_of}
use Rattle.krb_realm.specs.ExchangeMeans.{asked_at}
use Rattle.krb_realm.proofs.Honesty.{judged_honest, judged_met}
use Rattle.krb_realm.proofs.exchange.is_honest_by.Goals as goal

pub returns : goal.returns
returns g c =
    let exchange = c.args.exchange.now in
    let client_keys = g.C.KeyFunctions.functions exchange.own.now.keys.now in
    let realm_keys = g.R.KeyFunctions.functions exchange.pkinit.now.keys.now in
    let certificate = exchange.own.now.certificate.now in
    let trust = trust_of exchange.pkinit.now.anchor exchange.pkinit.now.certificate in
    let call = pkinit_call (call_of exchange.realm.now) exchange.client.now.components c.args.body.now in
    let asked = asked_at exchange.client.now exchange.own.now.anchor.now exchange.nonce c.args.moment c.args.words.now in
    let own_call : PkinitCallRecord = record {
      realm = exchange.realm.now.realm.now;
      skew = c.skew.result;
      client = c.components.result.now;
      body = c.args.body.now;
      moment = exchange.realm.now.moment;
      words = exchange.realm.now.words.now;
    } in
    let own_asked : PkinitAskedRecord = record {
      realm = c.realm.result.now;
      anchor = exchange.own.now.anchor.now;
      moment = c.args.moment;
      nonce = exchange.nonce;
      words = c.agreement_part-agreement.result.now;
    } in
    let same : own_call ≡ call = λ i. record {
      realm = exchange.realm.now.realm.now;
      skew = c.skew.ensures.value i;
      client = c.components.ensures i;
      body = c.args.body.now;
      moment = exchange.realm.now.moment;
      words = exchange.realm.now.words.now;
    } in
    let also : own_asked ≡ asked = λ i. record {
      realm = c.realm.ensures i;
      anchor = exchange.own.now.anchor.now;
      moment = c.args.moment;
      nonce = exchange.nonce;
      words = c.agreement_part-agreement.ensures.part i;
    } in
    record {
      honest = judged_honest client_keys realm_keys certificate trust own_call call own_asked asked c.args.padata.now same also c.is_agreed_by.result c.is_agreed_by.ensures;
      met = judged_met client_keys realm_keys certificate trust own_call call own_asked asked c.args.padata.now same also c.is_agreed_by.result c.is_agreed_by.ensures;
    }
