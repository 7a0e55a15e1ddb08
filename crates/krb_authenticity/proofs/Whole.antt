-- The whole, of one admission.
use Rattle.std.proofs.Common.{ℕ, List, Ok, ap}
use Rattle.picky_asn1.specs.Bytes.{Bytes}
use Rattle.krb_messages.specs.declared.data_types.enc_ticket_part.EncTicketPartInner.{EncTicketPartInner}
use Rattle.krb_kdc_exchanges.specs.Rows.{PkinitRows}
use Rattle.krb_tickets.specs.Parts.{ticket_part}
use Rattle.krb_messages.specs.Messages.{IsApReq}
use Rattle.krb_messages.specs.declared.messages.ap_req.ApReqInner.{ApReqInner}
use Rattle.krb_ap_requests.specs.ApTable.{enc_part_in}
use Rattle.krb_ap_requests.specs.Entry.{EntryRecord}
use Rattle.krb_ap_requests.specs.Presents.{Choice, Presents}
use Rattle.krb_service.specs.Admission.{AdmissionRecord}
use Rattle.krb_service.specs.ChosenEntry.{chosen}
use Rattle.krb_service.specs.KeytabService.{KeytabServiceRecord, remembering_by_keytab_with}
use Rattle.krb_service.specs.Pair.{PairRecord}
use Rattle.krb_service.specs.RememberingService.{remembering, remembering_by, remembering_with}
use Rattle.krb_service.specs.Service.{ServiceRecord}
use Rattle.krb_service.specs.declared.reply.ReplyFields.{ReplyFields}
use Rattle.krb_service.proofs.Admitting.{IsAdmittedOf, admissible_if_admitted, admissible_with}
use Rattle.krb_authenticity.specs.Authentic.{IsAuthentic, IsPartGranted, WasAuthenticated}
use Rattle.krb_authenticity.specs.Ciphertexts.{IsRealmUnforged, IsRequestUnforged}
use Rattle.krb_authenticity.specs.Parties.{ExchangeRecord, SentRecord}
use Rattle.krb_service.proofs.OnceForEver.{service_by}
use Rattle.krb_authenticity.proofs.Admitted.{admitted_by, by_keytab}
use Rattle.krb_authenticity.proofs.Asked.{asked_of}
use Rattle.krb_authenticity.proofs.Tickets.{granted_of, part_granted}
use Rattle.krb_authenticity.proofs.Traced.{all_traced, moved}

-- of what was presented, whoever judges it
pub presented_authentic : (rows : PkinitRows) (keys : List Bytes) (exchanges : List ExchangeRecord) (sent : SentRecord) (entry : EntryRecord) (message : List ℕ) (choice : Choice)
    → IsRealmUnforged rows keys exchanges sent → IsRequestUnforged rows keys exchanges sent entry message → Presents entry.key choice message
    → IsPartGranted rows exchanges entry.key choice.part × WasAuthenticated rows keys exchanges sent choice.part.crealm.0 choice.part.cname.0 choice.part.auth_time.0.0
unfolding ticket_part
presented_authentic rows keys exchanges sent entry message choice unforged own shown =
    let x = part_granted rows keys exchanges sent entry message choice own shown in
    let traced = all_traced rows keys sent exchanges unforged.opens unforged.granting_kept x.exchange x.among x.grant x.account x.granted in (
      x,
      moved rows keys exchanges sent x.grant.realm choice.part.crealm.0 x.grant.client choice.part.cname.0 x.grant.auth_time choice.part.auth_time.0.0
          (ap (λ (p : EncTicketPartInner). p.crealm.0) x.is_part) (ap (λ (p : EncTicketPartInner). p.cname.0) x.is_part) (ap (λ (p : EncTicketPartInner). p.auth_time.0.0) x.is_part) traced,
    )

authentic_of : (rows : PkinitRows) (keys : List Bytes) (exchanges : List ExchangeRecord) (sent : SentRecord) (service : ServiceRecord) (moment : ℕ) (admitted : List PairRecord) (message : List ℕ)
    (admission : AdmissionRecord) (after : List PairRecord) → IsRealmUnforged rows keys exchanges sent → IsRequestUnforged rows keys exchanges sent service.entry message
    → IsAdmittedOf service moment admitted message admission after → IsAuthentic rows keys exchanges sent service.entry admitted admission after
authentic_of rows keys exchanges sent service moment admitted message admission after unforged own by =
    let ticket = granted_of rows keys exchanges sent service moment admitted message admission after own by in
    let traced = all_traced rows keys sent exchanges unforged.opens unforged.granting_kept ticket.exchange ticket.among ticket.grant ticket.account ticket.granted in
    record {
      ticket = ticket;
      client = moved rows keys exchanges sent ticket.grant.realm admission.realm ticket.grant.client admission.client ticket.grant.auth_time admission.authtime ticket.told.realm ticket.told.client ticket.told.authtime traced;
      asked = λ session_kept. asked_of rows keys exchanges sent service moment admitted message admission after own.opens session_kept by;
    }

module _ (rows : PkinitRows) (keys : List Bytes) (exchanges : List ExchangeRecord) (sent : SentRecord) where
  -- by an entry
  pub authentic_by : (entry : EntryRecord) (skew : ℕ) (fields : ReplyFields) (moment : ℕ) (admitted : List PairRecord) (message words : List ℕ) (admission : AdmissionRecord) (after : List PairRecord)
      → IsRealmUnforged rows keys exchanges sent → IsRequestUnforged rows keys exchanges sent entry message
      → (remembering_by entry skew fields moment admitted message words).gives (Ok admission, after) → IsAuthentic rows keys exchanges sent entry admitted admission after
  authentic_by entry skew fields moment admitted message words admission after unforged own given =
      authentic_of rows keys exchanges sent (service_by entry skew) moment admitted message admission after unforged own
      (admitted_by entry skew fields moment admitted message words admission after given)

  -- where a service of one key replies with these fields
  pub authentic_with : (fields : ReplyFields) (service : ServiceRecord) (moment : ℕ) (admitted : List PairRecord) (message words : List ℕ) (admission : AdmissionRecord) (after : List PairRecord)
      → IsRealmUnforged rows keys exchanges sent → IsRequestUnforged rows keys exchanges sent service.entry message
      → (remembering_with fields service moment admitted message words).gives (Ok admission, after) → IsAuthentic rows keys exchanges sent service.entry admitted admission after
  authentic_with fields service moment admitted message words admission after unforged own given =
      authentic_of rows keys exchanges sent service moment admitted message admission after unforged own (admissible_with fields service moment admitted message words admission after given)

  -- or with the time alone
  pub authentic : (service : ServiceRecord) (moment : ℕ) (admitted : List PairRecord) (message words : List ℕ) (admission : AdmissionRecord) (after : List PairRecord)
      → IsRealmUnforged rows keys exchanges sent → IsRequestUnforged rows keys exchanges sent service.entry message
      → (remembering service moment admitted message words).gives (Ok admission, after) → IsAuthentic rows keys exchanges sent service.entry admitted admission after
  authentic service moment admitted message words admission after unforged own given =
      authentic_of rows keys exchanges sent service moment admitted message admission after unforged own (admissible_if_admitted service moment admitted message words admission after given)

  -- by a service of a keytab
  pub authentic_by_keytab : (fields : ReplyFields) (service : KeytabServiceRecord) (moment : ℕ) (admitted : List PairRecord) (message words : List ℕ) (request : ApReqInner) (admission : AdmissionRecord) (after : List PairRecord)
      → IsRealmUnforged rows keys exchanges sent → IsApReq message request → IsRequestUnforged rows keys exchanges sent (chosen service.entries (enc_part_in request)) message
      → (remembering_by_keytab_with fields service moment admitted message words).gives (Ok admission, after)
      → IsAuthentic rows keys exchanges sent (chosen service.entries (enc_part_in request)) admitted admission after
  authentic_by_keytab fields service moment admitted message words request admission after unforged read own given =
      authentic_by (chosen service.entries (enc_part_in request)) service.seen.skew fields moment admitted message words admission after unforged own
      (by_keytab service fields moment admitted message words request admission after read given)
