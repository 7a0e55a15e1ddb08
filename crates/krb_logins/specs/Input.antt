-- The input and the parties of a login as definitions see them.
use Rattle.krb_realm_accounts.specs.Accounts.{look_in}
use Rattle.krb_realm_accounts.specs.Names.{parts}
use Rattle.krb_service.specs.Service.{ServiceRecord}
use Rattle.krb_kdc_exchanges.specs.declared.call.Call as called
use Rattle.krb_logins.specs.Parties.{LoginRecord, RealmRecord, RememberedRecord}
use Rattle.krb_logins.specs.declared.input.LoginInput as held

-- The login of an input: the service, `till`, the moments in microseconds and the random bytes of each step.
abbrev pub login_of : held.LoginInput → LoginRecord
login_of input = record {
  service = parts input.service.now;
  till = input.till;
  client_as = input.moments.client_as;
  realm_as = input.moments.realm_as;
  client_tgs = input.moments.client_tgs;
  realm_tgs = input.moments.realm_tgs;
  client_ap = input.moments.client_ap;
  service_ap = input.moments.service_ap;
  words_as = input.words_as.now;
  words_tgs = input.words_tgs.now;
  words_ap = input.words_ap.now;
  realm_words_as = input.realm_words_as.now;
  realm_words_tgs = input.realm_words_tgs.now;
  service_words = input.service_words.now;
}

-- the realm that is called so
abbrev pub realm_of : called.Call → RealmRecord
realm_of call = record { name = call.realm.now; settings = call.settings; look = look_in call.accounts.now }

-- a service that admitted the pairs that it holds, and no other
abbrev pub held_by : ServiceRecord → RememberedRecord
held_by service = record { admitted = service.seen.held; greatest = service.seen.greatest }
