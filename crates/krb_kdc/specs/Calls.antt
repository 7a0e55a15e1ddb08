-- A call to a realm whose accounts are looked up.
use Rattle.krb_realm_accounts.specs.Accounts.{Look}
use Rattle.krb_kdc_exchanges.specs.Call.{CallRecord}
use Rattle.krb_kdc.specs.declared.call.LookupCall as held

-- The call to the realm with these accounts.
abbrev pub call_with : held.LookupCall → Look → CallRecord
call_with call all = record {
  realm = call.realm.now;
  settings = call.settings;
  look = all;
  moment = call.moment;
  words = call.words.now;
}
