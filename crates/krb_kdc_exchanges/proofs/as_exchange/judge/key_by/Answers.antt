use Rattle.std.proofs.Common.{◌≡◌, Option, sym, subst, ◌∙◌}
use Rattle.std.specs.Prelude.{IfOk}
use Rattle.pkinit_messages.specs.declared.agility.kdf.Kdf.{Kdf}
use Rattle.krb_kdc_exchanges.specs.AgreedKeys.{kdf_context, key_by}
use Rattle.krb_kdc_exchanges.specs.Call.{call_of}
use Rattle.krb_kdc_exchanges.proofs.AgreedKeyMade.{derived_is}
use Rattle.krb_kdc_exchanges.proofs.as_exchange.judge.key_by.Goals as goal

pub returns-in_default : goal.returns-in_default
returns-in_default c =
    subst (λ (kdf : Option Kdf). IfOk c.agreed_key.result (λ key. key ≡ record {
      suite = c.args.suite;
      bytes = key_by c.args.suite kdf c.args.secret.items (kdf_context (call_of c.args.call.now) c.args.request.now c.args.reply.now);
    })) (sym c.in_default.is) c.agreed_key.ensures

pub returns : goal.returns
returns c =
    derived_is (call_of c.args.call.now) c.args.request.now _ _ c.deref.result.now c.args.reply.now c.derived_key.result c.args.suite c.in-Some.kdf c.args.secret.items
    c.client_of.ensures c.service_of.ensures (c.deref.ensures.value ∙ c.in_ok-as_req.ensures) c.derived_key.ensures c.args.kdf c.in-Some.is
