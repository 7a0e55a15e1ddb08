-- Who takes part in a login, and what it is done with.
use Rattle.std.specs.Prelude.{List}
use Rattle.asn1_leaves.specs.declared.date.GeneralizedTime.{GeneralizedTime}
use Rattle.picky_asn1.specs.Bytes.{Bytes}
use Rattle.krb_time.specs.Units.{Micros}
use Rattle.krb_messages.specs.RandomBytes.{Random}
use Rattle.krb_realm_accounts.specs.Accounts.{Look}
use Rattle.krb_realm_accounts.specs.Settings.{SettingsRecord}
use Rattle.krb_service.specs.Pair.{PairRecord}
use Rattle.krb_kdc_exchanges.specs.Call.{CallRecord}
use Rattle.krb_client.specs.Options.{plain_options}
use Rattle.krb_client.specs.declared.options.TicketOptions.{TicketOptions}

-- a realm: its name, its settings, and its accounts as they are looked up
pub record RealmRecord : Type 0 where
  pub name : Bytes
  pub settings : SettingsRecord
  pub look : Look

-- a call to the realm at a moment, with random bytes
abbrev pub call_at : RealmRecord → Micros → Random → CallRecord
call_at realm moment words = record {
  realm = realm.name;
  settings = realm.settings;
  look = realm.look;
  moment = moment;
  words = words;
}

-- what a service goes by: all pairs of client and time that it ever admitted, and the greatest moment that it was handed
pub record RememberedRecord : Type 0 where
  pub admitted : List PairRecord
  pub greatest : Micros

-- what a login is for, and what it is done with: the moments are those of client and realm in the AS exchange, of both in the
-- TGS exchange, and of client and service in the AP exchange, each by the clock of who acts
pub record LoginRecord : Type 0 where
  pub service : List Bytes
  pub till : GeneralizedTime
  pub client_as : Micros
  pub realm_as : Micros
  pub client_tgs : Micros
  pub realm_tgs : Micros
  pub client_ap : Micros
  pub service_ap : Micros
  pub words_as : Random
  pub words_tgs : Random
  pub words_ap : Random
  pub realm_words_as : Random
  pub realm_words_tgs : Random
  pub service_words : Random

-- a TGS exchange: what the client asks for and with which options, the moments of client and realm, and the random bytes of both. Each
-- moment is by the clock of who acts
pub record TgsRecord : Type 0 where
  pub options : TicketOptions
  pub service : List Bytes
  pub till : GeneralizedTime
  pub client_at : Micros
  pub realm_at : Micros
  pub words : Random
  pub realm_words : Random

-- that of a login, which asks for a plain ticket
abbrev pub tgs_of : LoginRecord → TgsRecord
tgs_of login = record {
  options = plain_options;
  service = login.service;
  till = login.till;
  client_at = login.client_tgs;
  realm_at = login.realm_tgs;
  words = login.words_tgs;
  realm_words = login.realm_words_tgs;
}
