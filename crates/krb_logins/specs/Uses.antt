-- Tickets that a client uses more than once (RFC 4120, sections 3.2, 3.3): one ticket-granting ticket for several services, and one service
-- ticket several times.
use Rattle.std.specs.Prelude.{◌≡◌, ◌≤◌, ◌⊎◌, List, [], ◌∷◌, Result, Ok, Err}
use Rattle.krb_time.specs.Units.{Micros}
use Rattle.krb_messages.specs.RandomBytes.{Random}
use Rattle.krb_kdc_exchanges.specs.Rows.{PkinitRows}
use Rattle.krb_client.specs.Client.{ClientRecord, CredentialRecord}
use Rattle.krb_client.specs.Means.{MeansRecord}
use Rattle.krb_service.specs.Service.{ServiceRecord}
use Rattle.krb_logins.specs.Honest.{clock_of, login_pair}
use Rattle.krb_logins.specs.Laws.{IsMet}
use Rattle.krb_logins.specs.LoginRun.{ApExchange, Login, TgsExchange}
use Rattle.krb_logins.specs.Parties.{LoginRecord, RealmRecord, RememberedRecord}
use Rattle.krb_logins.specs.declared.refusal.LoginRefusal.{LoginRefusal}

-- one use of a service ticket: the moments and the random bytes of its AP exchange, how it ends, and what the service then remembers
pub record UseRecord : Type 0 where
  pub client_ap : Micros
  pub service_ap : Micros
  pub words_ap : Random
  pub service_words : Random
  pub result : Result Login LoginRefusal
  pub after : RememberedRecord

-- the login that this use makes of the exchanges with the realm
abbrev pub used_at : LoginRecord → UseRecord → LoginRecord
used_at login used = record login {
  client_ap = used.client_ap;
  service_ap = used.service_ap;
  words_ap = used.words_ap;
  service_words = used.service_words;
}

-- what a service remembers that admitted the client in this login
abbrev pub admitted_in : ClientRecord → RememberedRecord → LoginRecord → RememberedRecord
admitted_in client before login = record { admitted = login_pair client login ∷ before.admitted; greatest = clock_of before login }

-- the AP exchanges by one service ticket, one after another
abbrev pub AreUses : ClientRecord → ServiceRecord → LoginRecord → CredentialRecord → RememberedRecord → List UseRecord → Type 0
AreUses client service login credential before [] = Unit {0}
AreUses client service login credential before (used ∷ uses) =
    ApExchange client service (used_at login used) credential before used.result used.after × AreUses client service login credential used.after uses

-- each use is honest at a service that admitted the uses before it, and whose clock doesn't go back
abbrev pub AreUsesMet : ClientRecord → MeansRecord → RealmRecord → PkinitRows → ServiceRecord → LoginRecord → RememberedRecord → List UseRecord → Type 0
AreUsesMet client means realm rows service login before [] = Unit {0}
AreUsesMet client means realm rows service login before (used ∷ uses) =
    (before.greatest ≤ used.service_ap)
    × IsMet client means realm rows service before (used_at login used)
    × AreUsesMet client means realm rows service login (admitted_in client before (used_at login used)) uses

-- a visit to one more service by a ticket-granting ticket: the service and what it remembers, the moments and the random bytes of the TGS
-- exchange, and the use of the service ticket
pub record VisitRecord : Type 0 where
  pub service : ServiceRecord
  pub before : RememberedRecord
  pub client_tgs : Micros
  pub realm_tgs : Micros
  pub words_tgs : Random
  pub realm_words_tgs : Random
  pub used : UseRecord

-- the login that this visit makes of the AS exchange
abbrev pub visited_at : LoginRecord → VisitRecord → LoginRecord
visited_at login visit = used_at (record login {
  service = visit.service.entry.components;
  client_tgs = visit.client_tgs;
  realm_tgs = visit.realm_tgs;
  words_tgs = visit.words_tgs;
  realm_words_tgs = visit.realm_words_tgs;
}) visit.used

-- by the ticket-granting ticket the client asks for a ticket for the service, and is admitted by that one; or the TGS exchange ends the visit
abbrev pub IsVisit : ClientRecord → RealmRecord → PkinitRows → LoginRecord → CredentialRecord → VisitRecord → Type 0
IsVisit client realm rows login granting visit =
    ((credential : CredentialRecord) × TgsExchange client realm rows (visited_at login visit) granting (Ok credential)
    × ApExchange client visit.service (visited_at login visit) credential visit.before visit.used.result visit.used.after)
    ⊎ ((refusal : LoginRefusal) × TgsExchange client realm rows (visited_at login visit) granting (Err refusal) × (visit.used.result ≡ Err refusal) × (visit.used.after ≡ visit.before))

-- it is honest, as a login of its own
abbrev pub IsVisitMet : ClientRecord → MeansRecord → RealmRecord → PkinitRows → LoginRecord → VisitRecord → Type 0
IsVisitMet client means realm rows login visit = IsMet client means realm rows visit.service visit.before (visited_at login visit)
