-- Which logins are honest, and what they end with.
use Rattle.std.specs.Prelude.{◌≡◌, ◌<◌, ◌*◌, ℕ, false, max, None, Some, Result, Ok, Err}
use Rattle.krb_messages.specs.RandomBytes.{AreEnoughForApReply, AreEnoughForReply, AreEnoughForRequest}
use Rattle.picky_asn1.specs.Bytes.{Bytes}
use Rattle.asn1_leaves.specs.GeneralizedTime.{seconds_of}
use Rattle.krb_time.specs.Skew.{is_before, is_far}
use Rattle.krb_time.specs.Units.{Micros, Seconds}
use Rattle.krb_messages.specs.Names.{components}
use Rattle.krb_realm_accounts.specs.Account.{AccountRecord}
use Rattle.krb_realm_accounts.specs.Names.{AreComponents, IsRealmName}
use Rattle.krb_service.specs.Pair.{PairRecord, is_among}
use Rattle.krb_kdc_exchanges.specs.Before.{IsFree}
use Rattle.krb_kdc_exchanges.specs.Times.{end_of, start_of}
use Rattle.krb_messages.specs.TicketGranting.{krbtgt_of}
use Rattle.krb_client.specs.Client.{ClientRecord}
use Rattle.krb_service.specs.Service.{IsService, ServiceRecord}
use Rattle.krb_logins.specs.LoginRun.{Login}
use Rattle.krb_logins.specs.Parties.{LoginRecord, RealmRecord, RememberedRecord}
use Rattle.krb_logins.specs.declared.refusal.LoginRefusal.{LoginRefusal}
use Rattle.krb_logins.specs.declared.refusal.LoginRefusal.TheVariants.{Admitted, Answered, Asked, Taken}
use Rattle.krb_ap_requests.specs.declared.refusal.AdmitRefusal.TheVariants as admit_refusal
use Rattle.krb_client.specs.declared.refusal.AskRefusal.TheVariants as ask_refusal
use Rattle.krb_client.specs.declared.refusal.TakeRefusal.TheVariants as take_refusal
use Rattle.krb_frames.specs.declared.fault.AnswerRefusal.TheVariants as answer_refusal

-- what holds of every client and of every service: names are names, the service's key has its suite's length, and its skew is whole
-- seconds
pub record AreParties (client : ClientRecord) (service : ServiceRecord) : Type 0 where
  pub realm : IsRealmName client.realm
  pub name : AreComponents client.components
  pub entry : IsService service

-- the random bytes that the calls of a login ask for
pub record AreEnough (login : LoginRecord) : Type 0 where
  pub client_as : AreEnoughForRequest login.words_as
  pub client_tgs : AreEnoughForRequest login.words_tgs
  pub client_ap : AreEnoughForRequest login.words_ap
  pub realm_as : AreEnoughForReply login.realm_words_as
  pub realm_tgs : AreEnoughForReply login.realm_words_tgs
  pub service : AreEnoughForApReply login.service_words

-- client, realm and service are of one realm, and the service is the one that is asked for
pub record AreNamed (asking : ClientRecord) (realm : RealmRecord) (asked_for : ServiceRecord) (login : LoginRecord) : Type 0 where
  pub client : asking.realm ≡ realm.name
  pub service : asked_for.entry.realm ≡ realm.name
  pub asked : login.service ≡ asked_for.entry.components

-- nobody sets an attribute for the accounts that a login involves
pub record AreUnlimited (client : ClientRecord) (service : ServiceRecord) (realm : RealmRecord) : Type 0 where
  pub client_free : (account : AccountRecord) → realm.look client.components ≡ Some account → IsFree account
  pub service_free : (account : AccountRecord) → realm.look service.entry.components ≡ Some account → IsFree account
  pub granting_free : (account : AccountRecord) → realm.look (krbtgt_of realm.name) ≡ Some account → IsFree account

-- the realm knows the client by its suite
pub record IsClientKnown (client : ClientRecord) (realm : RealmRecord) : Type 0 where
  pub account : AccountRecord
  pub found : realm.look client.components ≡ Some account
  pub suite : account.suite ≡ client.suite

-- the realm knows the service by its suite, its key and its kvno
pub record IsServiceKnown (service : ServiceRecord) (realm : RealmRecord) : Type 0 where
  pub account : AccountRecord
  pub found : realm.look service.entry.components ≡ Some account
  pub suite : account.suite ≡ service.entry.suite
  pub key : account.key ≡ service.entry.key
  pub kvno : account.kvno ≡ service.entry.kvno

-- the realm has the account of its ticket-granting service, as every realm has
pub record IsGranting (realm : RealmRecord) : Type 0 where
  pub account : AccountRecord
  pub found : realm.look (krbtgt_of realm.name) ≡ Some account

-- the realm's clock skew in microseconds
abbrev pub realm_skew : RealmRecord → Micros
realm_skew realm = realm.settings.skew * 1000000

-- the clock that a service judges by: the greatest moment that it was handed
abbrev pub clock_of : RememberedRecord → LoginRecord → Micros
clock_of before login = max before.greatest login.service_ap

-- the endtime of the ticket-granting ticket (RFC 4120, section 3.1.3)
abbrev pub first_end : RealmRecord → LoginRecord → Seconds
first_end realm login = end_of realm.settings.lifetime (start_of login.realm_as) None (seconds_of login.till)

-- the endtime of the service ticket, which is no later (RFC 4120, section 3.3.3)
abbrev pub further_end : RealmRecord → LoginRecord → Seconds
further_end realm login = end_of realm.settings.lifetime (start_of login.realm_tgs) (Some (first_end realm login)) (seconds_of login.till)

-- a ticket of these times is granted, and is valid later: it ends after its start, and by a clock of this skew it has begun at this
-- moment, and has not ended (RFC 4120, section 3.2.3)
pub record IsTicketInTime (start end : Seconds) (skew moment : Micros) : Type 0 where
  pub lasts : start < end
  pub begun : is_before skew moment (start * 1000000) ≡ false
  pub not_ended : is_before skew (end * 1000000) moment ≡ false

-- In each exchange the client's time is within the skew of the clock that judges it: the realm's skew in the AS and the TGS exchange,
-- the service's in the AP exchange. The ticket-granting ticket is valid in the TGS exchange, and the service ticket in the AP exchange.
pub record IsTimely (realm : RealmRecord) (service : ServiceRecord) (before : RememberedRecord) (login : LoginRecord) : Type 0 where
  pub as_near : is_far (realm_skew realm) login.realm_as login.client_as ≡ false
  pub tgs_near : is_far (realm_skew realm) login.realm_tgs login.client_tgs ≡ false
  pub ap_near : is_far service.seen.skew (clock_of before login) login.client_ap ≡ false
  pub first : IsTicketInTime (start_of login.realm_as) (first_end realm login) (realm_skew realm) login.realm_tgs
  pub further : IsTicketInTime (start_of login.realm_tgs) (further_end realm login) service.seen.skew (clock_of before login)

-- the client and the time of its authenticator
abbrev pub login_pair : ClientRecord → LoginRecord → PairRecord
login_pair client login = record { realm = client.realm; components = client.components; time = login.client_ap }

-- an honest login, by whatever means: the parties know one another, each exchange is timely, and the service admitted no authenticator
-- of this client and time before
pub record IsHonestLogin (asking : ClientRecord) (realm : RealmRecord) (asked_for : ServiceRecord) (before : RememberedRecord) (login : LoginRecord) : Type 0 where
  pub named : AreNamed asking realm asked_for login
  pub client : IsClientKnown asking realm
  pub service : IsServiceKnown asked_for realm
  pub timely : IsTimely realm asked_for before login
  pub fresh : is_among (login_pair asking login) before.admitted ≡ false

-- an honest login by password: the realm knows the client by the key of its password too
pub record IsHonestByPassword (asking : ClientRecord) (key : Bytes) (realm : RealmRecord) (asked_for : ServiceRecord) (before : RememberedRecord) (login : LoginRecord) : Type 0 where
  pub honest : IsHonestLogin asking realm asked_for before login
  pub shared : honest.client.account.key ≡ key

-- The number of the step at which a login was refused: 1 to ask, 2 to reply, 3 to take the reply, 4 to admit.
abbrev pub login_number : LoginRefusal → ℕ
login_number (Asked refusal) = 1
login_number (Answered refusal) = 2
login_number (Taken refusal) = 3
login_number (Admitted refusal) = 4

-- the refusal says that memory ran out
abbrev pub IsWantOfMemory : LoginRefusal → Type 0
IsWantOfMemory (Asked refusal) = refusal ≡ ask_refusal.Memory
IsWantOfMemory (Answered refusal) = refusal ≡ answer_refusal.Memory
IsWantOfMemory (Taken refusal) = refusal ≡ take_refusal.Memory
IsWantOfMemory (Admitted refusal) = refusal ≡ admit_refusal.Memory

-- the result says that memory ran out
abbrev pub WantsMemory : {A : Type 0} → Result A LoginRefusal → Type 0
WantsMemory (Ok made) = ⊥
WantsMemory (Err refusal) = IsWantOfMemory refusal

-- the result is something of which this holds, or says that memory ran out
abbrev pub Ends : {T : Type 0} → (T → Type 0) → Result T LoginRefusal → Type 0
Ends P (Ok made) = P made
Ends P (Err refusal) = IsWantOfMemory refusal

-- client and service hold one session key, and the service has the client's name; or memory ran out
abbrev pub IsOneKey : ClientRecord → Result Login LoginRefusal → Type 0
IsOneKey client (Ok login) =
    (login.0 ≡ login.1.session) × (login.1.realm ≡ client.realm) × (components login.1.client ≡ client.components)
IsOneKey client (Err refusal) = IsWantOfMemory refusal
