-- A call to a realm: what it judges a request by.
use Rattle.std.specs.Prelude.{◌*◌, List}
use Rattle.krb_messages.specs.RandomBytes.{Random}
use Rattle.krb_time.specs.Units.{Micros}
use Rattle.picky_asn1.specs.Bytes.{Bytes}
use Rattle.krb_realm_accounts.specs.Accounts.{Look, look_in}
use Rattle.krb_realm_accounts.specs.Settings.{SettingsRecord}
use Rattle.krb_messages.specs.declared.messages.kdc_req_body.KdcReqBody.{KdcReqBody}
use Rattle.krb_kdc_exchanges.specs.PkinitCalls.{PkinitCallRecord}
use Rattle.krb_kdc_exchanges.specs.declared.call.Call as held

-- the realm's name, its settings and its accounts as they are looked up, the moment, and random bytes
pub record CallRecord : Type 0 where
  pub realm : Bytes
  pub settings : SettingsRecord
  pub look : Look
  pub moment : Micros
  pub words : Random

-- the call of the code, as definitions see it
abbrev pub call_of : held.Call → CallRecord
call_of call = record {
  realm = call.realm.now;
  settings = call.settings;
  look = look_in call.accounts.now;
  moment = call.moment;
  words = call.words.now;
}

-- the clock skew of the realm's settings, in microseconds
abbrev pub skew_of : CallRecord → Micros
skew_of call = call.settings.skew * 1000000

-- the call by which a request by certificate is judged, with the client's name as the request has it, and the request's body
abbrev pub pkinit_call : CallRecord → List Bytes → KdcReqBody → PkinitCallRecord
pkinit_call call name body = record {
  realm = call.realm;
  skew = skew_of call;
  client = name;
  body = body;
  moment = call.moment;
  words = call.words;
}
