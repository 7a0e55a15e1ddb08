-- Logins at once: all their steps lie within one clock skew. Each is timely (law `near_is_timely`).
use Rattle.std.specs.Prelude.{◌≤◌, ◌<◌, ◌+◌, ◌*◌, min}
use Rattle.asn1_leaves.specs.GeneralizedTime.{seconds_of}
use Rattle.krb_time.specs.Units.{Micros}
use Rattle.krb_kdc_exchanges.specs.Times.{asked_end}
use Rattle.krb_service.specs.Service.{ServiceRecord}
use Rattle.krb_logins.specs.Honest.{clock_of, realm_skew}
use Rattle.krb_logins.specs.Parties.{LoginRecord, RealmRecord, RememberedRecord}

-- the moment lies in the span that begins there
pub record IsWithin (start span moment : Micros) : Type 0 where
  pub begun : start ≤ moment
  pub lasts : moment ≤ start + span

-- the lesser of the realm's skew and the service's
abbrev pub common_skew : RealmRecord → ServiceRecord → Micros
common_skew realm service = min (realm_skew realm) service.seen.skew

-- any two clocks, and any two moments of a login, differ by the skew at most: all lie in one span of it
pub record AreNear (skew : Micros) (before : RememberedRecord) (login : LoginRecord) : Type 0 where
  pub start : Micros
  pub client_as : IsWithin start skew login.client_as
  pub realm_as : IsWithin start skew login.realm_as
  pub client_tgs : IsWithin start skew login.client_tgs
  pub realm_tgs : IsWithin start skew login.realm_tgs
  pub client_ap : IsWithin start skew login.client_ap
  pub clock : IsWithin start skew (clock_of before login)

-- the end that is asked for lies behind the moments at which the realm grants; a ticket may last longer than the skew
pub record IsLasting (realm : RealmRecord) (service : ServiceRecord) (login : LoginRecord) : Type 0 where
  pub first : login.realm_as < asked_end (seconds_of login.till) * 1000000
  pub further : login.realm_tgs < asked_end (seconds_of login.till) * 1000000
  pub lifetime : common_skew realm service < realm.settings.lifetime * 1000000
