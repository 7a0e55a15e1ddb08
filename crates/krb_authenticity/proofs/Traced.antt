-- Each ticket goes back to an AS exchange, in which the realm authenticated its client.
use Rattle.std.proofs.Common.{◌≡◌, Bool, true, false, List, [], ◌∷◌, Option, None, Some, if◌then◌else◌, refl, sym, ap, subst, ◌∙◌, inl, inr}
use Rattle.std.specs.List.{find}
use Rattle.asn1_leaves.specs.GeneralizedTime.{seconds_of}
use Rattle.asn1_leaves.specs.declared.date.GeneralizedTime.{GeneralizedTime}
use Rattle.picky_asn1.specs.Bytes.{Bytes}
use Rattle.krb_messages.specs.TicketGranting.{krbtgt_of}
use Rattle.krb_messages.specs.declared.data_types.enc_ticket_part.EncTicketPartInner.{EncTicketPartInner}
use Rattle.krb_messages.specs.declared.data_types.encrypted_data.EncryptedData.{EncryptedData}
use Rattle.krb_messages.specs.declared.data_types.principal_name.PrincipalName.{PrincipalName}
use Rattle.krb_realm_accounts.specs.Account.{AccountKeyRecord, AccountRecord, keys_of}
use Rattle.krb_ap_requests.specs.ApTable.{kvno_fits}
use Rattle.krb_kdc_exchanges.specs.ChosenKeys.{chosen, or_newest}
use Rattle.krb_kdc_exchanges.specs.Rows.{PkinitRows}
use Rattle.krb_tickets.specs.Grant.{GrantRecord}
use Rattle.krb_tickets.specs.Parts.{ticket_part}
use Rattle.krb_tickets.specs.ReplyKeys.{ReplyKeyRecord}
use Rattle.krb_authenticity.specs.Among.{IsAmong}
use Rattle.krb_authenticity.specs.Authentic.{WasAuthenticated}
use Rattle.krb_authenticity.specs.Ciphertexts.{AreUnforged, CiphertextRecord, IsGrantingKept, IsTicketOf, IsUnforged, RealmOpens, ticket_under}
use Rattle.krb_authenticity.specs.Grants.{IsFirst, IsFurther, IsGranted}
use Rattle.krb_authenticity.specs.Parties.{ExchangeRecord, SentRecord}
use Rattle.krb_authenticity.proofs.Authenticated.{was_shown}
use Rattle.krb_authenticity.proofs.Made.{ticket_made}
use Rattle.krb_logins.proofs.Names.{equal_realms}
use Rattle.krb_authenticity.proofs.Tickets.{ticket_of_grant}

-- what holds of a grant holds of equal names and times, and of later runs
pub moved : (rows : PkinitRows) (keys : List Bytes) (exchanges : List ExchangeRecord) (sent : SentRecord) (realm other : Bytes) (client name : PrincipalName) (authtime time : GeneralizedTime)
    → other ≡ realm → name ≡ client → time ≡ authtime → WasAuthenticated rows keys exchanges sent realm client authtime → WasAuthenticated rows keys exchanges sent other name time
moved rows keys exchanges sent realm other client name authtime time p q r x = record {
  exchange = x.exchange;
  among = x.among;
  grant = x.grant;
  under = x.under;
  service = x.service;
  first = x.first;
  in_realm = p ∙ x.in_realm;
  named = q ∙ x.named;
  since = ap seconds_of r ∙ x.since;
  shown = x.shown;
}

later : (rows : PkinitRows) (keys : List Bytes) (newest : ExchangeRecord) (before : List ExchangeRecord) (sent : SentRecord) (realm : Bytes) (client : PrincipalName) (authtime : GeneralizedTime)
    → WasAuthenticated rows keys before sent realm client authtime → WasAuthenticated rows keys (newest ∷ before) sent realm client authtime
later rows keys newest before sent realm client authtime x = record {
  exchange = x.exchange;
  among = inr x.among;
  grant = x.grant;
  under = x.under;
  service = x.service;
  first = x.first;
  in_realm = x.in_realm;
  named = x.named;
  since = x.since;
  shown = x.shown;
}

-- the grants of these exchanges go back so
abbrev pub AreTraced : PkinitRows → List Bytes → SentRecord → List ExchangeRecord → Type 0
AreTraced rows keys sent exchanges = (exchange : ExchangeRecord) → IsAmong exchange exchanges → (grant : GrantRecord) (service : AccountRecord) → IsGranted rows exchange grant service
    → WasAuthenticated rows keys exchanges sent grant.realm grant.client grant.auth_time

-- the chosen key is one of the account's
by_test : (test : AccountKeyRecord → Bool) (first : AccountKeyRecord) (others : List AccountKeyRecord) (found : AccountKeyRecord) (passes : Bool)
    → (if passes then Some first else find test others) ≡ Some found → (find test others ≡ Some found → IsAmong found others) → IsAmong found (first ∷ others)
by_test test first others found true e behind = let same : first ≡ found = cc (e) in inl (sym same)
by_test test first others found false e behind = inr (behind e)

found_among : (test : AccountKeyRecord → Bool) (keys : List AccountKeyRecord) (found : AccountKeyRecord) → find test keys ≡ Some found → IsAmong found keys
found_among test [] found e = absurd (cc (e))
found_among test (first ∷ others) found e = by_test test first others found (test first) e (found_among test others found)

chosen_among : (encrypted : EncryptedData) (account : AccountRecord) → IsAmong (chosen encrypted account) (keys_of account)
chosen_among encrypted account = by (find (λ own. kvno_fits own.kvno encrypted) (keys_of account)) refl
  where
    by : (found : Option AccountKeyRecord) → find (λ own. kvno_fits own.kvno encrypted) (keys_of account) ≡ found → IsAmong (or_newest account found) (keys_of account)
    by None e = inl refl
    by (Some own) e = found_among (λ own. kvno_fits own.kvno encrypted) (keys_of account) own e

module _ (rows : PkinitRows) (keys : List Bytes) (sent : SentRecord) (newest : ExchangeRecord) (before : List ExchangeRecord) (unforged : IsUnforged rows keys before sent (RealmOpens newest)) where
  by_first : (grant : GrantRecord) (under : ReplyKeyRecord) (service : AccountRecord) → IsFirst rows newest grant under service
      → WasAuthenticated rows keys (newest ∷ before) sent grant.realm grant.client grant.auth_time
  by_first grant under service is = record {
    exchange = newest;
    among = inl refl;
    grant = grant;
    under = under;
    service = service;
    first = is;
    in_realm = ap (λ (g : GrantRecord). g.realm) is.grants;
    named = ap (λ (g : GrantRecord). g.client) is.grants;
    since = ap (λ (g : GrantRecord). seconds_of g.auth_time) is.grants ∙ is.lasts.starts;
    shown = was_shown rows keys before sent newest unforged grant under service is;
  }

  module _ (kept : (granting : AccountRecord) → newest.call.look (krbtgt_of newest.call.realm) ≡ Some granting → (own : AccountKeyRecord) → IsAmong own (keys_of granting) → IsAmong own.key keys) (traced : AreTraced rows keys sent before) where
    -- the client of the presented ticket, and its authtime, are those of the grant
    of_ticket : (grant : GrantRecord) (under : ReplyKeyRecord) (service : AccountRecord) (is : IsFurther newest grant under service) (older : ExchangeRecord) → IsAmong older before → (c : CiphertextRecord)
        → (made : IsTicketOf rows older c) → is.part ≡ ticket_part made.grant → WasAuthenticated rows keys before sent grant.realm grant.client grant.auth_time
    unfolding ticket_part
    of_ticket grant under service is older among c made same =
        let of_realm = equal_realms is.part.crealm.0 newest.call.realm is.of_realm in
        moved rows keys before sent made.grant.realm grant.realm made.grant.client grant.client made.grant.auth_time grant.auth_time
        (ap (λ (g : GrantRecord). g.realm) is.grants ∙ sym of_realm ∙ ap (λ (p : EncTicketPartInner). p.crealm.0) same)
        (ap (λ (g : GrantRecord). g.client) is.grants ∙ ap (λ (p : EncTicketPartInner). p.cname.0) same)
        (ap (λ (g : GrantRecord). g.auth_time) is.grants ∙ ap (λ (p : EncTicketPartInner). p.auth_time.0.0) same)
        (traced older among made.grant made.service made.granted)

    by_further : (grant : GrantRecord) (under : ReplyKeyRecord) (service : AccountRecord) → IsFurther newest grant under service → WasAuthenticated rows keys (newest ∷ before) sent grant.realm grant.client grant.auth_time
    by_further grant under service is =
        let granting : AccountRecord = is.ticket.granting in
        let sealed : EncryptedData = is.ap_req.ticket.0.0.enc_part.0 in
        let own : AccountKeyRecord = chosen sealed granting in
        let cipher : Bytes = sealed.cipher.0 in
        let c : CiphertextRecord = ticket_under own.suite own.key cipher in
        let made = ticket_made rows before sent own.suite own.key cipher
        (unforged c (inr (inl (record { asked = is.asked; read = is.read; ap_req = is.ap_req; part = is.part; by = is.ticket; is = refl }))) (kept granting is.ticket.account own (chosen_among sealed granting))) in
        later rows keys newest before sent grant.realm grant.client grant.auth_time
        (of_ticket grant under service is made.0 made.1 c made.2 (ticket_of_grant rows made.0 c is.part is.ticket.opens.opens made.2))

    by_newest : (grant : GrantRecord) (service : AccountRecord) → IsGranted rows newest grant service → WasAuthenticated rows keys (newest ∷ before) sent grant.realm grant.client grant.auth_time
    by_newest grant service is = elim is.by [
      | inl first ↦ by_first grant is.under service first
      | inr further ↦ by_further grant is.under service further
    ]

    -- one more exchange
    one_more : AreTraced rows keys sent (newest ∷ before)
    one_more exchange (inl same) grant service is = by_newest grant service (subst (λ e. IsGranted rows e grant service) same is)
    one_more exchange (inr among) grant service is = later rows keys newest before sent grant.realm grant.client grant.auth_time (traced exchange among grant service is)

pub all_traced : (rows : PkinitRows) (keys : List Bytes) (sent : SentRecord) (exchanges : List ExchangeRecord) → AreUnforged rows keys sent exchanges → IsGrantingKept keys exchanges
    → AreTraced rows keys sent exchanges
all_traced rows keys sent [] unforged kept = λ exchange among grant service is. absurd among
all_traced rows keys sent (newest ∷ before) unforged kept =
    one_more rows keys sent newest before unforged.0 (λ granting found own has. kept newest (inl refl) granting found own has)
    (all_traced rows keys sent before unforged.1 (λ exchange among granting found own has. kept exchange (inr among) granting found own has))
