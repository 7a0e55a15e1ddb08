-- The presented ticket of a TGS request, and the accounts that the request involves (RFC 4120, sections 3.3.1, 5.4.1).
use Rattle.std.specs.Prelude.{◌≡◌, ◌⊎◌, List, Some}
use Rattle.picky_asn1.specs.Bytes.{Bytes}
use Rattle.krb_realm_accounts.specs.Account.{AccountRecord}
use Rattle.krb_constants.specs.declared.padata_types.TheConstants.{PA_TGS_REQ}
use Rattle.krb_messages.specs.Names.{components}
use Rattle.krb_messages.specs.declared.data_types.enc_ticket_part.EncTicketPartInner.{EncTicketPartInner}
use Rattle.krb_messages.specs.declared.data_types.principal_name.PrincipalName.{PrincipalName}
use Rattle.krb_messages.specs.declared.messages.ap_req.ApReqInner.{ApReqInner}
use Rattle.krb_messages.specs.declared.messages.kdc_req.KdcReq.{KdcReq}
use Rattle.krb_messages.specs.Messages.{IsApReq}
use Rattle.krb_messages.specs.Padata.{first_of}
use Rattle.krb_ap_requests.specs.ApTable.{enc_part_in}
use Rattle.krb_kdc_exchanges.specs.Call.{CallRecord}
use Rattle.krb_kdc_exchanges.specs.ChosenKeys.{OpensTicket}
use Rattle.krb_kdc_exchanges.specs.Requests.{body_of, service_of}
use Rattle.krb_messages.specs.Padata.{padata_in}
use Rattle.krb_messages.specs.TicketGranting.{krbtgt_of}

-- the request presents a ticket with this part, encrypted under a key of the realm's ticket-granting service: the one of its kvno
pub record IsByTicket (call : CallRecord) (request : KdcReq) (ap_req : ApReqInner) (part : EncTicketPartInner) : Type 0 where
  pub value : Bytes
  pub first : first_of PA_TGS_REQ (padata_in request) ≡ Some value
  pub read : IsApReq value ap_req
  pub granting : AccountRecord
  pub account : call.look (krbtgt_of call.realm) ≡ Some granting
  pub opens : OpensTicket granting (enc_part_in ap_req) part

-- these are the components of the ticket-granting service, of the service that the request names, or of the presented ticket's client
abbrev pub IsInvolvedFurther : CallRecord → KdcReq → List Bytes → Type 0
IsInvolvedFurther call request these =
    (these ≡ krbtgt_of call.realm)
    ⊎ ((name : PrincipalName) × (service_of (body_of request) ≡ Some name) × (these ≡ components name))
    ⊎ ((ap_req : ApReqInner) × (part : EncTicketPartInner) × IsByTicket call request ap_req part × (these ≡ components part.cname.0))
