use Rattle.std.proofs.Common.{◌≡◌, ap, sym, ◌∙◌}
use Rattle.krb_kdc_exchanges.specs.Call.{CallRecord}
use Rattle.krb_realm_accounts.specs.Accounts.{look_in}
use Rattle.krb_logins.specs.Input.{held_by, login_of}
use Rattle.pkinit_validation.specs.Trust.{trust_of}
use Rattle.krb_realm.specs.HeldClients.{client_by}
use Rattle.krb_realm.specs.Logins.{realm_record}
use Rattle.krb_realm.proofs.HonestParties.{PartiesRecord, certified_as}
use Rattle.krb_realm.proofs.honest_by_certificate.is_honest_by_certificate.Goals as goal

pub returns-in-Key : goal.returns-in-Key
returns-in-Key g c =
    let by = sym c.means.ensures.by ∙ ap client_by c.in-Key.is in
    ((λ never. absurd (cc (never))), λ found. let both = sym by ∙ found.2 in absurd (cc (both)))

pub returns-in-Certificate : goal.returns-in-Certificate
returns-in-Certificate g c =
    let by = sym c.means.ensures.by ∙ ap client_by c.in-Certificate.is in
    let realm = ap (λ (call : CallRecord). record { name = call.realm; settings = call.settings; look = call.look }) c.call-call.ensures.call in
    let own : PartiesRecord = record {
      client = c.asking-asking.result.now;
      certificate = c.by_certificate-means.result.certificate.now;
      anchor = c.by_certificate-means.result.anchor.now;
      client_keys = g.C.KeyFunctions.functions c.by_certificate-means.result.keys.now;
      realm = record { name = c.call-call.result.realm.now; settings = c.call-call.result.settings; look = look_in c.call-call.result.accounts.now };
      trust = trust_of c.pkinit-own.result.anchor c.pkinit-own.result.certificate;
      realm_keys = g.R.KeyFunctions.functions c.pkinit-own.result.keys.now;
    } in
    let parties : PartiesRecord = record {
      client = c.args.client.now.client;
      certificate = c.in-Certificate.certificate.items;
      anchor = c.in-Certificate.anchor;
      client_keys = g.C.KeyFunctions.functions c.args.client_keys.now;
      realm = realm_record c.args.realm.now;
      trust = c.args.realm.now.trust;
      realm_keys = g.R.KeyFunctions.functions c.args.realm_keys.now;
    } in
    let same : own ≡ parties = λ i. record {
      client = c.asking-asking.ensures i;
      certificate = c.by_certificate-means.ensures.certificate i;
      anchor = c.by_certificate-means.ensures.anchor i;
      client_keys = g.C.KeyFunctions.functions (c.by_certificate-means.ensures.keys i);
      realm = realm i;
      trust = c.pkinit-own.ensures.trust i;
      realm_keys = g.R.KeyFunctions.functions (c.pkinit-own.ensures.keys i);
    } in
    certified_as c.args.service.now (held_by c.args.service.now) (login_of c.args.input.now) c.args.client.now.by own parties same by
    c.is_certified_login_honest.result c.is_certified_login_honest.ensures
