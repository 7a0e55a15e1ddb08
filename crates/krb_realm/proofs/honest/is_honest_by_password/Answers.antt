use Rattle.std.proofs.Common.{◌≡◌, ap, sym, ◌∙◌}
use Rattle.krb_kdc_exchanges.specs.Call.{CallRecord}
use Rattle.krb_realm_accounts.specs.Accounts.{look_in}
use Rattle.krb_logins.specs.Input.{held_by, login_of}
use Rattle.krb_realm.specs.HeldClients.{client_by}
use Rattle.krb_realm.specs.Logins.{realm_record}
use Rattle.krb_realm.proofs.HonestParties.{KeyedRecord, keyed_as}
use Rattle.krb_realm.proofs.honest.is_honest_by_password.Goals as goal

pub returns-in-Key : goal.returns-in-Key
returns-in-Key c =
    let by = sym c.means.ensures.by ∙ ap client_by c.in-Key.is in
    let realm = ap (λ (call : CallRecord). record { name = call.realm; settings = call.settings; look = call.look }) c.call-call.ensures.call in
    let own : KeyedRecord = record {
      client = c.asking-asking.result.now;
      key = c.in-Key.own.key;
      realm = record { name = c.call-call.result.realm.now; settings = c.call-call.result.settings; look = look_in c.call-call.result.accounts.now };
    } in
    let parties : KeyedRecord = record { client = c.args.client.now.client; key = c.in-Key.own.key; realm = realm_record c.args.realm.now } in
    let same : own ≡ parties = λ i. record { client = c.asking-asking.ensures i; key = c.in-Key.own.key; realm = realm i } in
    keyed_as c.args.service.now (held_by c.args.service.now) (login_of c.args.input.now) c.args.client.now.by own parties same by
    c.is_honest_by_key.result c.is_honest_by_key.ensures

pub returns-in-Certificate : goal.returns-in-Certificate
returns-in-Certificate c =
    let by = sym c.means.ensures.by ∙ ap client_by c.in-Certificate.is in
    ((λ never. absurd (cc (never))), λ found. let both = sym by ∙ found.1 in absurd (cc (both)))
