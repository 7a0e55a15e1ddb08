-- What was seen of a request that was answered.
use Rattle.std.specs.Option.{option_copied}
use Rattle.picky_asn1.specs.Bytes.{Bytes}
use Rattle.picky_asn1_der.specs.Found.{IsFound}
use Rattle.krb_realm_accounts.specs.Accounts.{AccountMap, Look}
use Rattle.krb_kdc_exchanges.specs.Outcomes.{IsOutcome}
use Rattle.krb_kdc_exchanges.specs.Requests.{body_of, client_of}
use Rattle.krb_messages.specs.Padata.{padata_in}
use Rattle.krb_messages.specs.Messages.{IsAsReq, IsTgsReq}
use Rattle.krb_messages.specs.TicketGranting.{krbtgt_of}
use Rattle.krb_kdc.specs.Few.{Knows}
use Rattle.krb_kdc.specs.Involved.{KnowsNamed}
use Rattle.krb_kdc.specs.Tickets.{IsTgsReqTicket}
use Rattle.krb_kdc.specs.declared.seen.Seen.{Seen}
use Rattle.krb_kdc.specs.declared.seen.SeenRequest.{SeenRequest}
use Rattle.krb_kdc.specs.declared.seen.SeenRequest.TheVariants.{As, Tgs}

-- The request is the one whose encoding the message is (RFC 4120, section 5.4.1).
abbrev pub IsRequestOf : Bytes → SeenRequest → Type 0
IsRequestOf message (As request) = IsAsReq message request.now
IsRequestOf message (Tgs request ticket) = IsTgsReq message request.now

-- The accounts have that of an AS request's client, or that of the ticket-granting service, whose key opens the ticket of a TGS request.
abbrev pub HasAccounts : Look → Bytes → AccountMap → SeenRequest → Type 0
HasAccounts all realm few (As request) = KnowsNamed all few (client_of (body_of request.now))
HasAccounts all realm few (Tgs request ticket) =
    Knows all few (krbtgt_of realm) × IsFound (IsTgsReqTicket few (krbtgt_of realm) (padata_in request.now)) (option_copied ticket)

-- What was seen is of this message and of this reply.
pub record IsSeen (message reply : Bytes) (seen : Seen) : Type 0 where
  pub request : IsRequestOf message seen.request
  pub outcome : IsOutcome reply seen.outcome

-- An observer saw this message to the realm of this name, and this reply. What it saw of the accounts is the same as in each look-up that
-- may hold.
abbrev pub IsTold : {O : Type 0} → (O → Seen → O → Type 0) → (Look → Type 0) → Bytes → Bytes → O → O → Bytes → Type 0
IsTold sees holds realm message old new reply =
    (seen : Seen) × IsSeen message reply seen × ((all : Look) → holds all → HasAccounts all realm seen.accounts.now seen.request) × sees old seen new
