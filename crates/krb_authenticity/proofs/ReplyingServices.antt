-- The service whose AP-REP a client takes has the key of the account for which the ticket was granted.
use Rattle.std.proofs.Common.{◌≡◌, List, sym, ap, ◌∙◌}
use Rattle.picky_asn1.specs.Bytes.{Bytes}
use Rattle.krb_messages.specs.declared.data_types.enc_ticket_part.EncTicketPartInner.{EncTicketPartInner}
use Rattle.krb_realm_accounts.specs.Account.{AccountRecord}
use Rattle.krb_kdc_exchanges.specs.Rows.{PkinitRows}
use Rattle.krb_tickets.specs.Grant.{GrantRecord}
use Rattle.krb_tickets.specs.Parts.{ticket_part}
use Rattle.krb_client.specs.Asked.{ApAskedRecord}
use Rattle.krb_service.specs.Admission.{AdmissionRecord}
use Rattle.krb_authenticity.specs.Among.{IsAmong}
use Rattle.krb_authenticity.specs.Grants.{IsGranted}
use Rattle.krb_authenticity.specs.Parties.{ExchangeRecord, SentRecord}
use Rattle.krb_authenticity.specs.Taken.{AreAnswersOpened, AreSessionsApart, IsAnsweredUnder, IsServicesReply}
use Rattle.krb_authenticity.proofs.Tickets.{part_granted}

session_granted : (part : EncTicketPartInner) (grant : GrantRecord) → part ≡ ticket_part grant → part.key.0.key_value.0 ≡ grant.session
unfolding ticket_part
session_granted part grant same = ap (λ (p : EncTicketPartInner). p.key.0.key_value.0) same

pub service_asked : (rows : PkinitRows) (keys : List Bytes) (exchanges : List ExchangeRecord) (sent : SentRecord) (asked : ApAskedRecord) → AreAnswersOpened rows keys exchanges sent
    → AreSessionsApart rows exchanges → (it : IsServicesReply sent asked) (exchange : ExchangeRecord) → IsAmong exchange exchanges → (grant : GrantRecord) (account : AccountRecord)
    → IsGranted rows exchange grant account → grant.session ≡ asked.key → IsAnsweredUnder account.key it.answer
service_asked rows keys exchanges sent asked opened apart it exchange among grant account granted own =
    let by = opened it.answer it.among in
    let ticket = part_granted rows keys exchanges sent by.0 by.1 by.2.choice by.3 by.2.presents in
    let session : grant.session ≡ ticket.grant.session =
    own ∙ sym it.session ∙ ap (λ (a : AdmissionRecord). a.session.key_value.0) it.is_sent.admits ∙ ap (λ (p : EncTicketPartInner). p.key.0.key_value.0) by.2.is_part
    ∙ session_granted by.2.choice.part ticket.grant ticket.is_part in
    record {
      entry = by.0;
      message = by.1;
      opened = by.2;
      keyed = apart exchange ticket.exchange among ticket.among grant ticket.grant account ticket.account granted ticket.granted session ∙ ticket.sealed_under;
    }
