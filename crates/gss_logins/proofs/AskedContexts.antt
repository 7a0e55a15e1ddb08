-- An acceptor's context is made of an admission for which the client itself asked.
use Rattle.std.proofs.Common.{ℕ, List, Ok, max, ap, inl, inr}
use Rattle.picky_asn1.specs.Bytes.{Bytes}
use Rattle.krb_messages.specs.Messages.{IsApReq}
use Rattle.krb_messages.specs.declared.messages.ap_req.ApReqInner.{ApReqInner}
use Rattle.krb_kdc_exchanges.specs.Rows.{PkinitRows}
use Rattle.krb_ap_requests.specs.ApTable.{enc_part_in}
use Rattle.krb_ap_requests.specs.Entry.{EntryRecord}
use Rattle.krb_service.specs.Admission.{AdmissionRecord}
use Rattle.krb_service.specs.ChosenEntry.{chosen}
use Rattle.krb_service.specs.KeytabService.{KeytabServiceRecord, remembering_by_keytab_with}
use Rattle.krb_service.specs.Pair.{PairRecord}
use Rattle.krb_service.specs.RememberingService.{IsStep, Outcome}
use Rattle.krb_service.specs.Seen.{IsWindow, SeenRecord}
use Rattle.krb_service.specs.declared.reply.ReplyFields.{ReplyFields}
use Rattle.krb_authenticity.specs.Authentic.{IsAuthentic}
use Rattle.krb_authenticity.specs.Ciphertexts.{IsRealmUnforged}
use Rattle.krb_authenticity.specs.Parties.{ExchangeRecord, SentRecord}
use Rattle.krb_authenticity.specs.Runs.{IsAuthenticAt}
use Rattle.krb_authenticity.proofs.Whole.{authentic_by_keytab}
use Rattle.gss_acceptor.specs.Accepting.{AcceptorRecord, Establishes}
use Rattle.gss_acceptor.specs.Contexts.{fields_of}
use Rattle.gss_acceptor.specs.Established.{EstablishedRecord}
use Rattle.gss_logins.specs.Carried.{IsAskedContext, IsMessageUnforged}

-- what is admitted is one of the answers
step_given : (gives : Outcome → Type 0) (admitted : List PairRecord) (admission : AdmissionRecord) (seen : SeenRecord) → IsStep gives admitted (Ok admission) seen
    → (later : List PairRecord) × gives (Ok admission, later)
unfolding IsStep
step_given gives admitted admission seen (later, given, window) = (later, given)

-- the request of what is admitted
request_of : (fields : ReplyFields) (service : KeytabServiceRecord) (moment : ℕ) (admitted : List PairRecord) (message words : List ℕ) (admission : AdmissionRecord) (later : List PairRecord)
    → (remembering_by_keytab_with fields service moment admitted message words).gives (Ok admission, later) → (request : ApReqInner) × IsApReq message request
unfolding remembering_by_keytab_with
request_of fields service moment admitted message words admission later (inl (request, read, x)) = (request, read)
request_of fields service moment admitted message words admission later (inr (none, e)) = let same = ap (λ (o : Outcome). o.0) e in absurd (cc (same))

at_once : (rows : PkinitRows) (keys : List Bytes) (exchanges : List ExchangeRecord) (sent : SentRecord) (entry : EntryRecord) (admitted : List PairRecord) (admission : AdmissionRecord) (later : List PairRecord)
    → IsAuthentic rows keys exchanges sent entry admitted admission later → IsAuthenticAt rows keys exchanges sent entry admission
at_once rows keys exchanges sent entry admitted admission later x =
    record { ticket = x.ticket; client = x.client; asked = λ kept. let own = x.asked kept in (own.request, own.among, own.of_request) }

pub context_asked : (rows : PkinitRows) (keys : List Bytes) (exchanges : List ExchangeRecord) (sent : SentRecord) (acceptor after : AcceptorRecord) (moment : ℕ) (message random : List ℕ) (admitted : List PairRecord)
    (established : EstablishedRecord) → IsRealmUnforged rows keys exchanges sent → IsMessageUnforged rows keys exchanges sent acceptor message → IsWindow acceptor.service.seen admitted
    → Establishes acceptor moment message random (Ok established) after → IsAskedContext rows keys exchanges sent acceptor message random established
context_asked rows keys exchanges sent acceptor after moment message random admitted established realm own window (same, inl (admission, admits, is_made)) =
    let service : KeytabServiceRecord = acceptor.service in
    let fields : ReplyFields = fields_of acceptor.terms in
    let greatest : ℕ = max service.seen.greatest moment in
    let step = step_given (remembering_by_keytab_with fields service greatest admitted message random).gives admitted admission after.service.seen (admits.remembers admitted window) in
    let read = request_of fields service greatest admitted message random admission step.0 step.1 in
    let entry : EntryRecord = chosen service.entries (enc_part_in read.0) in
    let x = authentic_by_keytab rows keys exchanges sent fields service greatest admitted message random read.0 admission step.0 realm read.1 (own read.0 read.1) step.1 in
    record { request = read.0; read = read.1; admission = admission; is_made = is_made; authentic = at_once rows keys exchanges sent entry admitted admission step.0 x }
context_asked rows keys exchanges sent acceptor after moment message random admitted established realm own window (same, inr (cause, admits, e)) = absurd (cc (e))
