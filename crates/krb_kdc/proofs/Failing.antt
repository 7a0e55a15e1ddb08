-- The faults of the accounts that a request involves.
use Rattle.std.proofs.Common.{◌≡◌, ◌⊎◌, List, Option, Some, Result, Ok, Err, IfErr, refl, sym, subst, inl, inr, ◌∙◌}
use Rattle.std.specs.FinMap.{empty}
use Rattle.picky_asn1.specs.Bytes.{Bytes}
use Rattle.krb_realm_accounts.specs.Accounts.{AccountMap, Look, look_in}
use Rattle.krb_kdc_exchanges.specs.ByTicket.{IsInvolvedFurther}
use Rattle.krb_kdc_exchanges.specs.Involved.{IsNamed}
use Rattle.krb_kdc_exchanges.specs.Requests.{body_of, client_of, service_of}
use Rattle.krb_messages.specs.Messages.{IsAsReq, IsTgsReq}
use Rattle.krb_messages.specs.Names.{components}
use Rattle.krb_messages.specs.Padata.{padata_in}
use Rattle.krb_messages.specs.TicketGranting.{krbtgt_of}
use Rattle.krb_messages.specs.declared.data_types.enc_ticket_part.EncTicketPartInner.{EncTicketPartInner}
use Rattle.krb_messages.specs.declared.data_types.pa_data.PaData.{PaData}
use Rattle.krb_messages.specs.declared.data_types.principal_name.PrincipalName.{PrincipalName}
use Rattle.krb_messages.specs.declared.messages.kdc_req.KdcReq.{KdcReq}
use Rattle.krb_kdc.specs.Calls.{call_with}
use Rattle.krb_kdc.specs.Failing.{FailsAs, FailsClient, FailsFor, FailsNamed, FailsTgs}
use Rattle.krb_kdc.specs.Faults.{MayFail}
use Rattle.krb_kdc.specs.Few.{IsFetched, Knows}
use Rattle.krb_kdc.specs.Sources.{AsksByCertificate, IsByCertificate}
use Rattle.krb_kdc.specs.Tickets.{IsTgsReqTicket}
use Rattle.krb_kdc.specs.declared.call.LookupCall.{LookupCall}
use Rattle.krb_kdc.specs.declared.fault.LookupFault.{LookupFault}
use Rattle.krb_kdc.proofs.Fetched.{none_own}
use Rattle.krb_kdc.proofs.Refused.{widened}

-- the account of a name that is given
pub named_failed : {T : Type 0} (fails : List Bytes → LookupFault → Type 0) (name : PrincipalName) (these : List Bytes) (result : Result T LookupFault) → these ≡ components name
    → IfErr result (MayFail (fails these)) → IfErr result (MayFail (FailsNamed fails (Some name)))
named_failed fails name these (Ok value) is failed = tt
named_failed fails name these (Err fault) is failed = widened (fails these) (FailsNamed fails (Some name)) (λ own x. (these, (name, refl, is), x)) fault failed

-- the account of the client, and of the service, of an AS request
pub client_failed : (fails : List Bytes → LookupFault → Type 0) (request : KdcReq) (name : Option PrincipalName) (fault : LookupFault) → name ≡ client_of (body_of request)
    → MayFail (FailsNamed fails name) fault → MayFail (FailsAs fails request) fault
client_failed fails request name fault is = widened (FailsNamed fails name) (FailsAs fails request) (λ own x. inl (subst (λ n. FailsNamed fails n own) is x)) fault

pub as_service_failed : (fails : List Bytes → LookupFault → Type 0) (request : KdcReq) (name : Option PrincipalName) (fault : LookupFault) → name ≡ service_of (body_of request)
    → MayFail (FailsNamed fails name) fault → MayFail (FailsAs fails request) fault
as_service_failed fails request name fault is = widened (FailsNamed fails name) (FailsAs fails request) (λ own x. inr (subst (λ n. FailsNamed fails n own) is x)) fault

-- the account of the client of a ticket
pub ticket_failed : (fails : List Bytes → LookupFault → Type 0) (few : AccountMap) (granting name : List Bytes) (padata given : List PaData) (part : EncTicketPartInner) (fault : LookupFault)
    → given ≡ padata → name ≡ components part.cname.0 → IsTgsReqTicket few granting given part → MayFail (fails name) fault → MayFail (FailsClient fails few granting padata) fault
ticket_failed fails few granting name padata given part fault same is ticket =
    widened (fails name) (FailsClient fails few granting padata) (λ own x. (part, subst (λ p. IsTgsReqTicket few granting p part) same ticket, subst (λ n. fails n own) is x)) fault

-- of a TGS request: the ticket-granting service, the ticket's client, and the service
module _ (holds : Look → Type 0) (fails : List Bytes → LookupFault → Type 0) (call : LookupCall) (request : KdcReq) where
  pub granting_failed : (name : List Bytes) (fault : LookupFault) → name ≡ krbtgt_of call.realm.now → MayFail (fails name) fault → MayFail (FailsTgs holds fails call request) fault
  granting_failed name fault is = widened (fails name) (FailsTgs holds fails call request) (λ own x. (name, (λ all known. inl is), x)) fault

  by_ticket : (few : AccountMap) (all : Look) (part : EncTicketPartInner) → Knows all few (krbtgt_of call.realm.now)
      → IsTgsReqTicket few (krbtgt_of call.realm.now) (padata_in request) part → IsInvolvedFurther (call_with call all) request (components part.cname.0)
  by_ticket few all part knows ticket =
      inr (inr (
        ticket.ap_req,
        part,
        record {
          value = ticket.value;
          first = ticket.first;
          read = ticket.read;
          granting = ticket.account;
          account = sym knows ∙ ticket.has;
          opens = ticket.opens;
        },
        refl,
      ))

  client_more : (few : AccountMap) (granting : List Bytes) (own : LookupFault) → granting ≡ krbtgt_of call.realm.now → ((all : Look) → holds all → Knows all few (krbtgt_of call.realm.now))
      → FailsClient fails few granting (padata_in request) own → FailsTgs holds fails call request own
  client_more few granting own same knows (part, ticket, x) = (
    components part.cname.0,
    (λ all known. by_ticket few all part (knows all known) (subst (λ n. IsTgsReqTicket few n (padata_in request) part) same ticket)),
    x,
  )

  pub presented_failed : (none few : AccountMap) (a b : List Bytes) (fault : LookupFault) → none ≡ empty → a ≡ krbtgt_of call.realm.now → b ≡ krbtgt_of call.realm.now
      → ((all : Look) → holds all → IsFetched all a none few) → MayFail (FailsClient fails few b (padata_in request)) fault → MayFail (FailsTgs holds fails call request) fault
  presented_failed none few a b fault is same_a same_b fetched =
      widened (FailsClient fails few b (padata_in request)) (FailsTgs holds fails call request)
      (λ own. client_more few b own same_b (λ all known. subst (Knows all few) same_a ((fetched all known).known (none_own all none is)))) fault

  service_more : (name : Option PrincipalName) (own : LookupFault) → name ≡ service_of (body_of request) → FailsNamed fails name own → FailsTgs holds fails call request own
  service_more name own same (these, named, x) = (these, (λ all known. inr (inl (subst (λ n. IsNamed n these) same named))), x)

  pub service_failed : (name : Option PrincipalName) (fault : LookupFault) → name ≡ service_of (body_of request) → MayFail (FailsNamed fails name) fault
      → MayFail (FailsTgs holds fails call request) fault
  service_failed name fault same = widened (FailsNamed fails name) (FailsTgs holds fails call request) (λ own. service_more name own same) fault

-- of a message that is a request
module _ (holds : Look → Type 0) (fails : List Bytes → LookupFault → Type 0) (source : LookupFault → Type 0) (call : LookupCall) (message : Bytes) (request : KdcReq) where
  abbrev whole : LookupFault → Type 0
  whole own = FailsFor holds fails call.realm.now message own ⊎ (AsksByCertificate message × source own)

  as_more : IsAsReq message request → (own : LookupFault) → FailsAs fails request own ⊎ (IsByCertificate request × source own) → whole own
  as_more read own (inl (inl (these, named, x))) = inl (these, (λ all known. (call_with call all, refl, refl, inl (request, read, inl named))), x)
  as_more read own (inl (inr (these, named, x))) = inl (these, (λ all known. (call_with call all, refl, refl, inl (request, read, inr named))), x)
  as_more read own (inr (asks, x)) = inr ((request, read, asks), x)

  pub as_failed : (fault : LookupFault) → IsAsReq message request → MayFail (λ own. FailsAs fails request own ⊎ (IsByCertificate request × source own)) fault → MayFail whole fault
  as_failed fault read = widened (λ own. FailsAs fails request own ⊎ (IsByCertificate request × source own)) whole (as_more read) fault

  tgs_more : IsTgsReq message request → (own : LookupFault) → FailsTgs holds fails call request own → whole own
  tgs_more read own (name, involved, x) = inl (name, (λ all known. (call_with call all, refl, refl, inr (request, read, involved all known))), x)

  pub tgs_failed : (fault : LookupFault) → IsTgsReq message request → MayFail (FailsTgs holds fails call request) fault → MayFail whole fault
  tgs_failed fault read = widened (FailsTgs holds fails call request) whole (tgs_more read) fault
