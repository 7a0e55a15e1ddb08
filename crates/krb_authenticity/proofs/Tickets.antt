-- What opens as a ticket was granted by the realm, with this part.
use Rattle.std.proofs.Common.{◌≡◌, ℕ, true, List, Some, Ok, refl, sym, ap, subst, ◌∙◌, inl, inr}
use Rattle.asn1_leaves.specs.CharSets.{is_general_string}
use Rattle.picky_asn1.specs.Bytes.{Bytes}
use Rattle.krb_crypto.specs.Suites.{cipher_confounder_size}
use Rattle.krb_messages.specs.RandomBytes.{ticket_confounder}
use Rattle.krb_messages.specs.declared.data_types.enc_ticket_part.EncTicketPartInner.{EncTicketPartInner}
use Rattle.krb_messages.specs.declared.data_types.principal_name.PrincipalName.{PrincipalName}
use Rattle.krb_messages.specs.Messages.{enc_ticket_part-injective, enc_ticket_part_tree}
use Rattle.krb_realm_accounts.specs.Account.{AccountRecord}
use Rattle.krb_kdc_exchanges.specs.Rows.{PkinitRows}
use Rattle.krb_tickets.specs.Grant.{GrantRecord}
use Rattle.krb_tickets.specs.Parts.{ticket_part}
use Rattle.krb_tickets.specs.ReplyKeys.{ReplyKeyRecord}
use Rattle.krb_tickets.specs.Sealed.{ticket_part_bytes}
use Rattle.krb_ap_requests.specs.ApTable.{starttime_of}
use Rattle.krb_ap_requests.specs.Entry.{EntryRecord}
use Rattle.krb_ap_requests.specs.Presents.{Choice, Presents}
use Rattle.krb_service.specs.Admission.{AdmissionRecord, TellsOf}
use Rattle.krb_service.specs.Pair.{PairRecord}
use Rattle.krb_service.specs.RememberingService.{remembering_by}
use Rattle.krb_service.specs.declared.reply.ReplyFields.{ReplyFields}
use Rattle.krb_service.specs.Service.{ServiceRecord}
use Rattle.krb_service.proofs.Admitting.{IsAdmittedOf}
use Rattle.krb_authenticity.specs.Authentic.{IsOfGrant, IsPartGranted, IsTicketGranted}
use Rattle.krb_authenticity.specs.Ciphertexts.{CiphertextRecord, IsRequestUnforged, IsTicketOf, ticket_under}
use Rattle.krb_service.proofs.OnceForEver.{service_by}
use Rattle.krb_authenticity.proofs.Admitted.{admitted_by}
use Rattle.krb_authenticity.specs.Grants.{IsFirst, IsFurther, IsGranted}
use Rattle.krb_authenticity.specs.Parties.{ExchangeRecord, SentRecord}
use Rattle.krb_authenticity.proofs.Made.{ticket_made}
use Rattle.krb_authenticity.proofs.Opened.{OpensTo, one_opened, sealed_to}
use Rattle.krb_logins.proofs.Names.{are_texts, equal_realms}
use Rattle.krb_logins.proofs.WholePresented.{whole_part}
use Rattle.krb_logins.proofs.WholeReplies.{AreTexts}
use Rattle.krb_authenticity.proofs.Texts.{body_whole, client_whole, part_name, part_realm, realm_whole, service_whole, whole_name_texts, whole_realm_text}

-- ---- what is granted can be written

first_texts : (rows : PkinitRows) (exchange : ExchangeRecord) (grant : GrantRecord) (under : ReplyKeyRecord) (service : AccountRecord) → IsFirst rows exchange grant under service → AreTexts grant
first_texts rows exchange grant under service is =
    let whole = body_whole is.asked is.read.0.0 in
    let realm = whole_realm_text is.asked.req_body.0.realm.0 (realm_whole is.asked.req_body.0 whole) in
    let client = whole_name_texts is.principals.client_name (client_whole is.asked.req_body.0 is.principals.client_name whole is.client_named) in
    let server = whole_name_texts is.principals.service_name (service_whole is.asked.req_body.0 is.principals.service_name whole is.service_named) in
    record {
      realm = subst (λ r. is_general_string r ≡ true) (is.of_realm ∙ sym (ap (λ (g : GrantRecord). g.realm) is.grants)) realm;
      client = subst (λ (n : PrincipalName). are_texts n.name_string.0 ≡ true) (sym (ap (λ (g : GrantRecord). g.client) is.grants)) client;
      service = subst (λ (n : PrincipalName). are_texts n.name_string.0 ≡ true) (sym (ap (λ (g : GrantRecord). g.service) is.grants)) server;
    }

further_texts : (exchange : ExchangeRecord) (grant : GrantRecord) (under : ReplyKeyRecord) (service : AccountRecord) → IsFurther exchange grant under service → AreTexts grant
further_texts exchange grant under service is =
    let whole = is.ticket.opens.opens.writes.0 in
    let body = body_whole is.asked is.read.0.0 in
    let server = whole_name_texts is.service_name (service_whole is.asked.req_body.0 is.service_name body is.service_named) in
    let of_realm = equal_realms is.part.crealm.0 exchange.call.realm is.of_realm in
    record {
      realm = subst (λ r. is_general_string r ≡ true) (of_realm ∙ sym (ap (λ (g : GrantRecord). g.realm) is.grants)) (part_realm is.part whole);
      client = subst (λ (n : PrincipalName). are_texts n.name_string.0 ≡ true) (sym (ap (λ (g : GrantRecord). g.client) is.grants)) (part_name is.part whole);
      service = subst (λ (n : PrincipalName). are_texts n.name_string.0 ≡ true) (sym (ap (λ (g : GrantRecord). g.service) is.grants)) server;
    }

pub granted_texts : (rows : PkinitRows) (exchange : ExchangeRecord) (grant : GrantRecord) (service : AccountRecord) → IsGranted rows exchange grant service → AreTexts grant
granted_texts rows exchange grant service is = elim is.by [
  | inl first ↦ first_texts rows exchange grant is.under service first
  | inr further ↦ further_texts exchange grant is.under service further
]

-- ---- its ticket opens to its part alone

pub granted_opens : (rows : PkinitRows) (exchange : ExchangeRecord) (grant : GrantRecord) (service : AccountRecord) (is : IsGranted rows exchange grant service)
    → OpensTo {T = EncTicketPartInner} enc_ticket_part_tree (ticket_under service.suite service.key is.replied.ticket_data.cipher.0) (ticket_part grant)
unfolding ticket_part_bytes
granted_opens rows exchange grant service is =
    let texts = granted_texts rows exchange grant service is in
    sealed_to {T = EncTicketPartInner} enc_ticket_part_tree (ticket_part grant) service.suite service.key (Some service.kvno) 2
    (ticket_confounder (cipher_confounder_size service.suite) exchange.call.words) (ticket_part_bytes (ticket_part grant)) is.replied.ticket_data
    (whole_part grant texts.realm texts.client, refl) is.replied.ticket_sealed

pub ticket_of_grant : (rows : PkinitRows) (exchange : ExchangeRecord) (c : CiphertextRecord) (part : EncTicketPartInner) → OpensTo {T = EncTicketPartInner} enc_ticket_part_tree c part
    → (is : IsTicketOf rows exchange c) → part ≡ ticket_part is.grant
ticket_of_grant rows exchange c part opens is =
    one_opened {T = EncTicketPartInner} enc_ticket_part_tree enc_ticket_part-injective c (ticket_under is.service.suite is.service.key is.granted.replied.ticket_data.cipher.0) is.is
    part (ticket_part is.grant) opens (granted_opens rows exchange is.grant is.service is.granted)

-- ---- the ticket of an admission

told_of : (choice : Choice) (admission : AdmissionRecord) (grant : GrantRecord) → TellsOf choice admission → choice.part ≡ ticket_part grant → IsOfGrant grant admission
unfolding ticket_part
told_of choice admission grant tells same = record {
  realm = tells.realm ∙ ap (λ (p : EncTicketPartInner). p.crealm.0) same;
  client = tells.client ∙ ap (λ (p : EncTicketPartInner). p.cname.0) same;
  session = tells.session ∙ ap (λ (p : EncTicketPartInner). p.key.0) same;
  authtime = tells.authtime ∙ ap (λ (p : EncTicketPartInner). p.auth_time.0.0) same;
  starttime = tells.starttime ∙ ap starttime_of same;
  endtime = tells.endtime ∙ ap (λ (p : EncTicketPartInner). p.endtime.0.0) same;
  flags = tells.flags ∙ ap (λ (p : EncTicketPartInner). p.flags.0) same;
}

-- what was presented was opened
pub shown_opens : (key : Bytes) (choice : Choice) (message : Bytes) (by : Presents key choice message)
    → OpensTo {T = EncTicketPartInner} enc_ticket_part_tree (ticket_under by.part.suite key by.part_cipher) choice.part
shown_opens key choice message by = record { conf = choice.part_confounder; plain = by.part.plain; writes = by.part.writes; sealed = (by.part.suite, refl, by.part.sealed) }

-- what is presented was granted
pub part_granted : (rows : PkinitRows) (keys : List Bytes) (exchanges : List ExchangeRecord) (sent : SentRecord) (entry : EntryRecord) (message : Bytes) (choice : Choice)
    → IsRequestUnforged rows keys exchanges sent entry message → Presents entry.key choice message → IsPartGranted rows exchanges entry.key choice.part
part_granted rows keys exchanges sent entry message choice unforged shown =
    let c : CiphertextRecord = ticket_under shown.part.suite entry.key shown.part_cipher in
    let made = ticket_made rows exchanges sent shown.part.suite entry.key shown.part_cipher (unforged.opens c (choice, shown, inl refl) unforged.kept) in
    record {
      exchange = made.0;
      among = made.1;
      grant = made.2.grant;
      account = made.2.service;
      granted = made.2.granted;
      sealed_under = sym (ap (λ (k : CiphertextRecord). k.key) made.2.is);
      is_part = ticket_of_grant rows made.0 c choice.part (shown_opens entry.key choice message shown) made.2;
    }

pub granted_of : (rows : PkinitRows) (keys : List Bytes) (exchanges : List ExchangeRecord) (sent : SentRecord) (service : ServiceRecord) (moment : ℕ) (admitted : List PairRecord) (message : List ℕ)
    (admission : AdmissionRecord) (after : List PairRecord) → IsRequestUnforged rows keys exchanges sent service.entry message
    → IsAdmittedOf service moment admitted message admission after → IsTicketGranted rows exchanges service.entry admission
granted_of rows keys exchanges sent service moment admitted message admission after unforged by =
    let x = part_granted rows keys exchanges sent service.entry message by.0 unforged by.2 in
    record {
      exchange = x.exchange;
      among = x.among;
      grant = x.grant;
      account = x.account;
      granted = x.granted;
      key = x.sealed_under;
      told = told_of by.0 admission x.grant by.3 x.is_part;
    }

pub ticket_was_granted : (rows : PkinitRows) (keys : List Bytes) (exchanges : List ExchangeRecord) (sent : SentRecord) (entry : EntryRecord) (skew : ℕ) (fields : ReplyFields) (moment : ℕ)
    (admitted : List PairRecord) (message words : List ℕ) (admission : AdmissionRecord) (after : List PairRecord) → IsRequestUnforged rows keys exchanges sent entry message
    → (remembering_by entry skew fields moment admitted message words).gives (Ok admission, after) → IsTicketGranted rows exchanges entry admission
ticket_was_granted rows keys exchanges sent entry skew fields moment admitted message words admission after unforged given =
    granted_of rows keys exchanges sent (service_by entry skew) moment admitted message admission after unforged
    (admitted_by entry skew fields moment admitted message words admission after given)
