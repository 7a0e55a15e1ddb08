-- Tickets of a realm that a client holds, and TGS exchanges by a ticket-granting ticket among them, however the client came by it: a first
-- ticket, a renewed one, or one that was forwarded (RFC 4120, sections 2.3, 2.6, 3.3).
use Rattle.std.specs.Prelude.{◌≡◌, ◌<◌, ◌-◌, Bool, true, false, List, [], ◌∷◌, Option, None, Some, pos}
use Rattle.std.specs.Option.{option_map}
use Rattle.asn1_leaves.specs.GeneralizedTime.{seconds_of}
use Rattle.asn1_leaves.specs.declared.date.GeneralizedTime.{GeneralizedTime}
use Rattle.picky_asn1.specs.BitString.{bit_of}
use Rattle.picky_asn1.specs.Bytes.{Bytes}
use Rattle.krb_time.specs.Skew.{is_far}
use Rattle.krb_time.specs.Units.{Seconds}
use Rattle.krb_constants.specs.declared.types.TheConstants.{NT_PRINCIPAL, NT_SRV_INST}
use Rattle.krb_messages.specs.RandomBytes.{AreEnoughForReply, Random}
use Rattle.krb_messages.specs.TicketGranting.{krbtgt_of}
use Rattle.krb_messages.specs.declared.messages.kdc_req_body.KdcReqBody.{KdcReqBody}
use Rattle.krb_realm_accounts.specs.Account.{AccountRecord}
use Rattle.krb_realm_accounts.specs.Names.{AreComponents, IsRealmName}
use Rattle.krb_tickets.specs.Grant.{GrantRecord}
use Rattle.krb_tickets.specs.Parts.{flags_of, session_key_of, ticket_part}
use Rattle.krb_tickets.specs.declared.flag_bits.TheConstants.{FORWARDABLE, RENEWABLE}
use Rattle.krb_tickets.specs.declared.grant.TicketFlags.{TicketFlags}
use Rattle.krb_kdc_exchanges.specs.Before.{IsFree}
use Rattle.krb_kdc_exchanges.specs.Calls.{AreKeyed}
use Rattle.krb_kdc_exchanges.specs.Grants.{initial_flags}
use Rattle.krb_kdc_exchanges.specs.Options.{asked_options, grants_renewable}
use Rattle.krb_kdc_exchanges.specs.Renewals.{IsTill, asked_till, granted_till}
use Rattle.krb_kdc_exchanges.specs.Requests.{IsSpan}
use Rattle.krb_kdc_exchanges.specs.Rows.{PkinitRows}
use Rattle.krb_kdc_exchanges.specs.TgsTable.{further_flags, further_till}
use Rattle.krb_kdc_exchanges.specs.Times.{end_of, no_end, start_of}
use Rattle.krb_kdc_exchanges.specs.declared.span.Span.{Span}
use Rattle.krb_client.specs.AsRequest.{as_body_with}
use Rattle.krb_client.specs.Client.{ClientRecord, CredentialRecord}
use Rattle.krb_client.specs.Held.{principal_name}
use Rattle.krb_client.specs.Means.{MeansRecord}
use Rattle.krb_client.specs.Options.{options_of}
use Rattle.krb_client.specs.Requests.{nonce_of}
use Rattle.krb_client.specs.TgsRequest.{further_body_with}
use Rattle.krb_client.specs.declared.options.TicketOptions.{TicketOptions}
use Rattle.krb_service.specs.Pair.{is_among}
use Rattle.krb_service.specs.Service.{ServiceRecord}
use Rattle.krb_logins.specs.Authenticated.{IsAuthenticatedFor}
use Rattle.krb_logins.specs.Held.{IsFirstSpan, IsHeld, first_grant}
use Rattle.krb_logins.specs.Honest.{AreNamed, IsClientKnown, IsGranting, IsServiceKnown, IsTicketInTime, clock_of, first_end, login_pair, realm_skew}
use Rattle.krb_logins.specs.Parties.{LoginRecord, RealmRecord, RememberedRecord, TgsRecord}

-- a ticket for the client and the service, with a session key of the client's suite from the realm's random bytes. Its flags, times,
-- addresses and nonce are those of the other grant
abbrev pub ticket_for : ClientRecord → RealmRecord → List Bytes → Random → GrantRecord → GrantRecord
ticket_for client realm service words other = record other {
  suite = client.suite;
  session = session_key_of client.suite words;
  realm = realm.name;
  client = principal_name NT_PRINCIPAL client.components;
  service = principal_name NT_SRV_INST service;
}

-- The client holds a ticket of the realm for the service. Its part is encrypted under the key of the service's account, and has the
-- client's name and the session key that the client holds.
pub record Holds (client : ClientRecord) (realm : RealmRecord) (service : List Bytes) (credential : CredentialRecord) : Type 0 where
  pub account : AccountRecord
  pub found : realm.look service ≡ Some account
  pub words : Random
  pub enough : AreEnoughForReply words
  pub grant : GrantRecord
  pub held : IsHeld account words (ticket_for client realm service words grant) credential

-- the client holds a ticket-granting ticket of its realm
abbrev pub HoldsGranting : ClientRecord → RealmRecord → CredentialRecord → Type 0
HoldsGranting client realm = Holds client realm (krbtgt_of client.realm)

-- Client and realm are of one name, and the realm knows the client by its suite. Nobody sets an attribute for the client's account. The
-- realm's accounts have keys.
pub record AreOfOneRealm (client : ClientRecord) (realm : RealmRecord) : Type 0 where
  pub realm_name : IsRealmName client.realm
  pub name : AreComponents client.components
  pub same : client.realm ≡ realm.name
  pub known : IsClientKnown client realm
  pub free : IsFree known.account
  pub keyed : AreKeyed realm.look

-- the end of a further ticket, which isn't renewed: no later than that of the presented one (RFC 4120, section 3.3.3)
abbrev pub end_by : RealmRecord → TgsRecord → CredentialRecord → Seconds
end_by realm exchange granting =
    end_of realm.settings.lifetime (start_of exchange.realm_at) (Some (seconds_of granting.endtime)) (seconds_of exchange.till)

-- the presented ticket can be renewed: the policy allows it, the ticket is renewable, its renew-till is after now, and the client asks for
-- the ticket-granting service (RFC 4120, section 3.3.3)
pub record IsRenewable (client : ClientRecord) (realm : RealmRecord) (exchange : TgsRecord) (granting : CredentialRecord) : Type 0 where
  pub allowed : grants_renewable realm.settings.policy ≡ true
  pub service : exchange.service ≡ krbtgt_of client.realm
  pub flag : bit_of granting.flags RENEWABLE ≡ true
  pub till : GeneralizedTime
  pub renew_till : granting.renew_till ≡ Some till
  pub later : start_of exchange.realm_at < seconds_of till

-- it can be forwarded: the policy allows it, the ticket is forwardable, and the client asks for the ticket-granting service (RFC 4120,
-- sections 2.6 and 3.3.3)
pub record IsForwardable (client : ClientRecord) (realm : RealmRecord) (exchange : TgsRecord) (granting : CredentialRecord) : Type 0 where
  pub allowed : realm.settings.policy.forwardable ≡ true
  pub service : exchange.service ≡ krbtgt_of client.realm
  pub flag : bit_of granting.flags FORWARDABLE ≡ true

-- An honest TGS exchange: the realm has an account of the service, for which nobody sets an attribute. The client's time is near the realm's.
-- The presented ticket is valid now, and allows what is asked for. The next ticket ends after its start; of a renewed one this follows.
pub record IsTgsHonest (client : ClientRecord) (realm : RealmRecord) (exchange : TgsRecord) (granting : CredentialRecord) : Type 0 where
  pub enough : AreEnoughForReply exchange.realm_words
  pub named : AreComponents exchange.service
  pub account : AccountRecord
  pub found : realm.look exchange.service ≡ Some account
  pub free : IsFree account
  pub near : is_far (realm_skew realm) exchange.realm_at exchange.client_at ≡ false
  pub valid : IsTicketInTime (seconds_of granting.starttime) (seconds_of granting.endtime) (realm_skew realm) exchange.realm_at
  pub lasts : exchange.options.renews ≡ false → start_of exchange.realm_at < end_by realm exchange granting
  pub renews : exchange.options.renews ≡ true → IsRenewable client realm exchange granting
  pub forwards : exchange.options.forwards ≡ true → IsForwardable client realm exchange granting

-- An honest AP exchange: client, realm and service are of one realm, which knows the service. The client's time is near the service's. The
-- service admitted no authenticator of this client and time before.
pub record IsApHonest (asking : ClientRecord) (realm : RealmRecord) (asked_for : ServiceRecord) (before : RememberedRecord) (login : LoginRecord) : Type 0 where
  pub named : AreNamed asking realm asked_for login
  pub service : IsServiceKnown asked_for realm
  pub near : is_far asked_for.seen.skew (clock_of before login) login.client_ap ≡ false
  pub fresh : is_among (login_pair asking login) before.admitted ≡ false

-- ---- the first ticket

-- the body of the request for it
abbrev pub as_body_asked : ClientRecord → TicketOptions → LoginRecord → KdcReqBody
as_body_asked client options login = as_body_with client (client.suite ∷ []) options (krbtgt_of client.realm) login.till login.words_as

-- An honest AS exchange: the realm has its ticket-granting service, and authenticates the client. Nobody sets an attribute for that
-- service's account. The first ticket ends after its start, and is asked for as no renewed or forwarded one.
pub record IsAsHonest (client : ClientRecord) (options : TicketOptions) (means : MeansRecord) (realm : RealmRecord) (rows : PkinitRows) (account : AccountRecord) (login : LoginRecord) : Type 0 where
  pub enough : AreEnoughForReply login.realm_words_as
  pub granting : IsGranting realm
  pub granting_free : IsFree granting.account
  pub not_renewed : options.renews ≡ false
  pub not_forwarded : options.forwards ≡ false
  pub lasts : start_of login.realm_as < first_end realm login
  pub authenticated : IsAuthenticatedFor client means realm rows account login (as_body_asked client options login)

-- its renew-till, if it has one, as the policy grants it by the options
abbrev pub IsFirstTill : ClientRecord → TicketOptions → RealmRecord → LoginRecord → Span → Option GeneralizedTime → Type 0
IsFirstTill client options realm login span =
    IsTill (granted_till realm.settings.policy.renewable_life span None (asked_till (as_body_asked client options login)))

-- what the realm grants, with flags as its policy grants them by the options
abbrev pub first_grant_with : ClientRecord → TicketOptions → RealmRecord → LoginRecord → Span → Option GeneralizedTime → GrantRecord
first_grant_with client options realm login span till =
    record (first_grant client realm login span) { flags = initial_flags realm.settings.policy (options_of options) till; renew_till = till }

-- the client holds the first ticket that it asked for with options
pub record HoldsFirst (client : ClientRecord) (options : TicketOptions) (realm : RealmRecord) (login : LoginRecord) (credential : CredentialRecord) : Type 0 where
  pub holds : HoldsGranting client realm credential
  pub span : Span
  pub lasts : IsFirstSpan realm login span
  pub till : Option GeneralizedTime
  pub renews : IsFirstTill client options realm login span till
  pub grants : holds.grant ≡ first_grant_with client options realm login span till

-- ---- the next ticket

-- the body of the request for it
abbrev pub tgs_body : ClientRecord → TgsRecord → KdcReqBody
tgs_body client exchange = further_body_with client (client.suite ∷ []) exchange.options exchange.service exchange.till (nonce_of exchange.words)

-- Its times. A renewed ticket lasts as long as the presented one, and ends no later than its renew-till.
abbrev pub IsNextSpan : Bool → RealmRecord → TgsRecord → GrantRecord → Span → Type 0
IsNextSpan false realm exchange old span =
    IsSpan realm.settings.lifetime exchange.realm_at (Some (seconds_of old.endtime)) (seconds_of exchange.till) span
IsNextSpan true realm exchange old span =
    IsSpan (seconds_of old.endtime - seconds_of old.starttime) exchange.realm_at (option_map seconds_of old.renew_till) no_end span

-- its flags, as the policy grants them by the options and by the flags of the presented one
abbrev pub next_flags : RealmRecord → TgsRecord → GrantRecord → Option GeneralizedTime → TicketFlags
next_flags realm exchange old till =
    further_flags realm.settings.policy (asked_options realm.settings.policy (options_of exchange.options)) (options_of exchange.options) (flags_of old.flags) till

-- what the realm grants by an older ticket: client and authtime are those of that one
abbrev pub next_grant : ClientRecord → RealmRecord → TgsRecord → GrantRecord → Span → Option GeneralizedTime → GrantRecord
next_grant client realm exchange old span till = record {
  suite = client.suite;
  session = session_key_of client.suite exchange.realm_words;
  realm = realm.name;
  client = principal_name NT_PRINCIPAL client.components;
  service = principal_name NT_SRV_INST exchange.service;
  flags = next_flags realm exchange old till;
  auth_time = old.auth_time;
  starttime = span.starttime;
  endtime = span.endtime;
  renew_till = till;
  addresses = None;
  nonce = pos (nonce_of exchange.words);
}

-- times and renew-till of the next ticket are by the rows of the KDC's table (`further_lasting`, `further_till` of krb_kdc_exchanges)
pub record IsNext (client : ClientRecord) (realm : RealmRecord) (exchange : TgsRecord) (old next : GrantRecord) : Type 0 where
  pub span : Span
  pub lasts : IsNextSpan exchange.options.renews realm exchange old span
  pub till : Option GeneralizedTime
  pub renews : IsTill (further_till exchange.options.renews realm.settings.policy.renewable_life (ticket_part old) span (tgs_body client exchange)) till
  pub grants : next ≡ next_grant client realm exchange old span till

-- the client holds the next ticket: the one that the realm's table grants by the presented one
pub record HoldsNext (client : ClientRecord) (realm : RealmRecord) (exchange : TgsRecord) (granting : CredentialRecord) (holds : HoldsGranting client realm granting) (credential : CredentialRecord) : Type 0 where
  pub holds_it : Holds client realm exchange.service credential
  pub next : IsNext client realm exchange (ticket_for client realm (krbtgt_of client.realm) holds.words holds.grant) holds_it.grant

-- What the client sees of a renewed ticket: authtime and renew-till are those of the presented one. It starts now, lasts as long as that
-- one, but no longer than to its renew-till, and can be renewed again.
pub record IsRenewed (exchange : TgsRecord) (granting credential : CredentialRecord) : Type 0 where
  pub authtime : credential.authtime ≡ granting.authtime
  pub starts : seconds_of credential.starttime ≡ start_of exchange.realm_at
  pub ends : seconds_of credential.endtime
      ≡ end_of (seconds_of granting.endtime - seconds_of granting.starttime) (start_of exchange.realm_at) (option_map seconds_of granting.renew_till) no_end
  pub renew_till : credential.renew_till ≡ granting.renew_till
  pub renewable : bit_of credential.flags RENEWABLE ≡ true
