-- Where no two accounts share a key, a ticket under a service's key is for that service, and a timestamp under a client's key is its own.
use Rattle.std.proofs.Common.{◌≡◌, List, Option, None, Some, sym, ap, ◌∙◌, inl, inr}
use Rattle.asn1_leaves.specs.declared.date.GeneralizedTime.{GeneralizedTime}
use Rattle.picky_asn1.specs.Bytes.{Bytes}
use Rattle.krb_constants.specs.declared.padata_types.TheConstants.{PA_PK_AS_REQ}
use Rattle.krb_messages.specs.Padata.{first_of, padata_in}
use Rattle.krb_messages.specs.declared.data_types.principal_name.PrincipalName.{PrincipalName}
use Rattle.krb_messages.specs.Names.{components}
use Rattle.krb_realm_accounts.specs.Account.{AccountRecord}
use Rattle.krb_kdc_exchanges.specs.Rows.{PkinitRows}
use Rattle.krb_tickets.specs.Grant.{GrantRecord}
use Rattle.krb_ap_requests.specs.Entry.{EntryRecord}
use Rattle.krb_service.specs.Admission.{AdmissionRecord}
use Rattle.krb_authenticity.specs.Among.{IsAmong}
use Rattle.krb_authenticity.specs.Authentic.{IsTicketGranted, IsTimedBy, WasAuthenticated}
use Rattle.krb_authenticity.specs.Named.{AreByOwnKeys, AreKeysApart, IsAskedByName, IsByOwnKey}
use Rattle.krb_authenticity.specs.Grants.{IsGranted}
use Rattle.krb_authenticity.specs.Parties.{ExchangeRecord, SentRecord}

-- the service of a grant has the account under whose key the ticket is
named_account : (rows : PkinitRows) (exchange : ExchangeRecord) (grant : GrantRecord) (service : AccountRecord) → IsGranted rows exchange grant service
    → exchange.call.look (components grant.service) ≡ Some service
named_account rows exchange grant service is = elim is.by [
  | inl first ↦
      ap (λ (g : GrantRecord). exchange.call.look (components g.service)) first.grants ∙ first.service_found ∙ ap (λ (a : AccountRecord). Some a) (sym first.sealed_for)
  | inr further ↦ ap (λ (g : GrantRecord). exchange.call.look (components g.service)) further.grants ∙ further.service_found
]

pub service_named : (rows : PkinitRows) (exchanges : List ExchangeRecord) (entry : EntryRecord) (admission : AdmissionRecord) (x : IsTicketGranted rows exchanges entry admission)
    → AreKeysApart x.exchange.call.look → (account : AccountRecord) → x.exchange.call.look entry.components ≡ Some account → account.key ≡ entry.key → components x.grant.service ≡ entry.components
service_named rows exchanges entry admission x apart account found key =
    apart (components x.grant.service) entry.components x.account account (named_account rows x.exchange x.grant x.account x.granted) found (x.key ∙ sym key)

-- no padata isn't some
absent : (given : Option Bytes) (padata : Bytes) → given ≡ None → given ≡ Some padata → ⊥
absent given padata none some = absurd (cc (none, some))

-- the client whose key opened the timestamp is the one that the request names
pub timed_named : (rows : PkinitRows) (keys : List Bytes) (exchanges : List ExchangeRecord) (sent : SentRecord) (realm : Bytes) (client : PrincipalName) (authtime : GeneralizedTime)
    (was : WasAuthenticated rows keys exchanges sent realm client authtime) → AreKeysApart was.exchange.call.look → AreByOwnKeys was.exchange.call sent
    → IsTimedBy sent was.exchange was.first.principals.client.key → IsAskedByName sent was.exchange realm client
timed_named rows keys exchanges sent realm client authtime was apart own by =
    let holds : IsByOwnKey was.exchange.call by.0 = own by.0 by.1 in
    let name =
    apart by.0.client.components (components was.first.principals.client_name) holds.account was.first.principals.client holds.found was.first.client_found (holds.key ∙ sym by.3) in
    record {
      request = by.0;
      among = by.1;
      is_sent = by.2;
      in_realm = holds.realm ∙ sym was.in_realm;
      named = name ∙ sym (ap components was.named);
      near = by.4;
    }

pub client_named : (rows : PkinitRows) (keys : List Bytes) (exchanges : List ExchangeRecord) (sent : SentRecord) (realm : Bytes) (client : PrincipalName) (authtime : GeneralizedTime)
    (was : WasAuthenticated rows keys exchanges sent realm client authtime) → IsAmong was.first.principals.client.key keys → first_of PA_PK_AS_REQ (padata_in was.first.asked) ≡ None
    → AreKeysApart was.exchange.call.look → AreByOwnKeys was.exchange.call sent → IsAskedByName sent was.exchange realm client
client_named rows keys exchanges sent realm client authtime was kept none apart own = elim was.shown [
  | inl certified ↦ absurd (absent (first_of PA_PK_AS_REQ (padata_in was.first.asked)) certified.0 none certified.2)
  | inr timed ↦ timed_named rows keys exchanges sent realm client authtime was apart own (timed kept)
]
