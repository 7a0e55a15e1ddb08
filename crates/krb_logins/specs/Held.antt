-- What the realm grants in a login, and what the client then holds (RFC 4120, sections 3.1.3, 3.1.5, 3.3.3, 3.3.4).
use Rattle.std.specs.Prelude.{◌≡◌, true, false, None, Some, pos}
use Rattle.std.specs.Int.{cast_unsigned, w32}
use Rattle.asn1_leaves.specs.GeneralizedTime.{seconds_of}
use Rattle.krb_constants.specs.declared.key_usages.TheConstants.{TICKET_REP}
use Rattle.krb_constants.specs.declared.types.TheConstants.{NT_PRINCIPAL, NT_SRV_INST}
use Rattle.krb_crypto.specs.Suites.{cipher_confounder_size}
use Rattle.krb_messages.specs.RandomBytes.{Random, ticket_confounder}
use Rattle.krb_messages.specs.declared.data_types.encrypted_data.EncryptedData.{EncryptedData}
use Rattle.krb_realm_accounts.specs.Account.{AccountRecord}
use Rattle.krb_tickets.specs.Grant.{GrantRecord}
use Rattle.krb_tickets.specs.Parts.{flags_of, plain_flags, session_key_of, ticket_of, ticket_part}
use Rattle.krb_tickets.specs.Sealed.{IsSealedData, ticket_part_bytes}
use Rattle.krb_kdc_exchanges.specs.Requests.{IsSpan}
use Rattle.krb_messages.specs.TicketGranting.{krbtgt_of}
use Rattle.krb_kdc_exchanges.specs.declared.span.Span.{Span}
use Rattle.krb_client.specs.Client.{ClientRecord, CredentialRecord}
use Rattle.krb_client.specs.Held.{principal_name}
use Rattle.krb_client.specs.Requests.{nonce_of}
use Rattle.krb_logins.specs.Parties.{LoginRecord, RealmRecord}

-- the first ticket, for the realm's ticket-granting service: a session key of the client's suite from the realm's random bytes. The login
-- asks for no other flag and no renew-till, and so it is granted none, whatever the policy.
abbrev pub first_grant : ClientRecord → RealmRecord → LoginRecord → Span → GrantRecord
first_grant client realm login span = record {
  suite = client.suite;
  session = session_key_of client.suite login.realm_words_as;
  realm = realm.name;
  client = principal_name NT_PRINCIPAL client.components;
  service = principal_name NT_SRV_INST (krbtgt_of client.realm);
  flags = plain_flags true true;
  auth_time = span.starttime;
  starttime = span.starttime;
  endtime = span.endtime;
  renew_till = None;
  addresses = None;
  nonce = pos (nonce_of login.words_as);
}

-- it lasts from the second of the realm's moment on
abbrev pub IsFirstSpan : RealmRecord → LoginRecord → Span → Type 0
IsFirstSpan realm login span = IsSpan realm.settings.lifetime login.realm_as None (seconds_of login.till) span

-- the service ticket, for the service: of the first one the client, the time of the authentication, and that it was by
-- preauthentication
abbrev pub further_grant : ClientRecord → RealmRecord → LoginRecord → Span → Span → GrantRecord
further_grant client realm login first span = record {
  suite = client.suite;
  session = session_key_of client.suite login.realm_words_tgs;
  realm = realm.name;
  client = principal_name NT_PRINCIPAL client.components;
  service = principal_name NT_SRV_INST login.service;
  flags = plain_flags false true;
  auth_time = first.starttime;
  starttime = span.starttime;
  endtime = span.endtime;
  renew_till = None;
  addresses = None;
  nonce = pos (nonce_of login.words_tgs);
}

-- it doesn't last longer than the first one
abbrev pub IsFurtherSpan : RealmRecord → LoginRecord → Span → Span → Type 0
IsFurtherSpan realm login first span =
    IsSpan realm.settings.lifetime login.realm_tgs (Some (seconds_of first.endtime)) (seconds_of login.till) span

-- the client holds what was granted: the ticket, whose part is encrypted under the service's key (RFC 4120, section
-- 7.5.1), its session key, the service that it is for, and its times and flags
pub record IsHeld (account : AccountRecord) (words : Random) (grant : GrantRecord) (credential : CredentialRecord) : Type 0 where
  pub part : EncryptedData
  pub sealed : IsSealedData account (cast_unsigned w32 TICKET_REP) (ticket_confounder (cipher_confounder_size account.suite) words) (ticket_part_bytes (ticket_part grant)) part
  pub ticket : credential.ticket ≡ ticket_of grant part
  pub suite : credential.suite ≡ grant.suite
  pub key : credential.key ≡ grant.session
  pub realm : credential.realm ≡ grant.realm
  pub service : credential.service ≡ grant.service
  pub authtime : credential.authtime ≡ grant.auth_time
  pub starttime : credential.starttime ≡ grant.starttime
  pub endtime : credential.endtime ≡ grant.endtime
  pub renew_till : credential.renew_till ≡ grant.renew_till
  pub flags : credential.flags ≡ flags_of grant.flags
