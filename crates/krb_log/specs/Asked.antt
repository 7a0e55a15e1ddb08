-- What a message asks for.
use Rattle.std.specs.Prelude.{◌≡◌, List, ℕ, Option, None, Some, option_map, string_bytes, if◌then◌else◌}
use Rattle.std.specs.Option.{is_some}
use Rattle.picky_asn1.specs.Bytes.{Bytes}
use Rattle.krb_messages.specs.Messages.{IsAsReq, IsTgsReq}
use Rattle.krb_messages.specs.declared.messages.kdc_req.KdcReq.{KdcReq}
use Rattle.krb_messages.specs.declared.data_types.enc_ticket_part.EncTicketPartInner.{EncTicketPartInner}
use Rattle.std.specs.Option.{option_copied}
use Rattle.krb_kdc.specs.declared.seen.SeenRequest.{SeenRequest}
use Rattle.krb_kdc.specs.declared.seen.SeenRequest.TheVariants as seen
use Rattle.krb_messages.specs.Names.{components}
use Rattle.krb_messages.specs.declared.data_types.pa_data.PaData.{PaData}
use Rattle.krb_messages.specs.declared.data_types.principal_name.PrincipalName.{PrincipalName}
use Rattle.krb_constants.specs.declared.padata_types.TheConstants.{PA_ENC_TIMESTAMP, PA_PK_AS_REQ}
use Rattle.krb_messages.specs.Padata.{first_of}
use Rattle.krb_kdc_exchanges.specs.Requests.{body_of, client_of, service_of}
use Rattle.krb_messages.specs.Padata.{padata_in}
use Rattle.krb_log.specs.NameText.{shown_name}
use Rattle.krb_log.specs.declared.asked.Asked.{Asked}
use Rattle.krb_log.specs.declared.asked.Asked.TheVariants.{As, Tgs, Nothing}
use Rattle.krb_log.specs.declared.asked.Names.{Names}
use Rattle.krb_log.specs.declared.asked.Means.{Means}
use Rattle.krb_log.specs.declared.asked.Means.TheVariants as means
use Rattle.krb_log.specs.declared.asked.Means.TheVariants.{Pkinit, Password}

-- a name, as it is shown in this realm
abbrev pub named : Bytes → Option PrincipalName → Option (List ℕ)
named realm None = None
named realm (Some name) = Some (shown_name (components name) realm)

-- the client that a request names, in the realm that its body names
abbrev pub named_client : KdcReq → Option (List ℕ)
named_client request = named (body_of request).realm.0 (client_of (body_of request))

-- In the log the client of a TGS request is that of the ticket that it presents, where the ticket opens under the key of the ticket-granting
-- service. Test: `tgs honest`, `tgs pvno`, `tgs ticket wrong key`, `tgs ticket end edges` of `file_realms.txt`.
abbrev pub ticket_client : KdcReq → Option EncTicketPartInner → Option (List ℕ)
ticket_client request None = named_client request
ticket_client request (Some part) = Some (shown_name (components part.cname.0) part.crealm.0)

-- In the log the client of an AS request authenticates itself by its certificate where there is padata PA-PK-AS-REQ, else by its key where there is
-- PA-ENC-TIMESTAMP (RFC 4120, section 5.2.7.2). Test: `as PA-PK-AS-REQ alone`, `as honest`, `as no padata` of `file_realms.txt`.
abbrev pub means_of : List PaData → Means
means_of padata =
    if is_some (first_of PA_PK_AS_REQ padata) then Pkinit
    else (if is_some (first_of PA_ENC_TIMESTAMP padata) then Password else means.Nothing)

-- The names are this client and the request's service, in the realm that its body names.
pub record IsNamedBy (client : Option (List ℕ)) (request : KdcReq) (names : Names) : Type 0 where
  pub client_is : option_map string_bytes names.client ≡ client
  pub service : option_map string_bytes names.service ≡ named (body_of request).realm.0 (service_of (body_of request))
  pub means : names.means ≡ means_of (padata_in request)

-- The names are those of the request. Both are in the realm that its body names, which is the client's too.
abbrev pub IsNamed : KdcReq → Names → Type 0
IsNamed request names = IsNamedBy (named_client request) request names

-- The names are those of such a request, or there is no such request.
abbrev pub IsFoundIn : (KdcReq → Type 0) → Option Names → Type 0
IsFoundIn Is None = (request : KdcReq) → Is request → ⊥
IsFoundIn Is (Some names) = (request : KdcReq) × Is request × IsNamed request names

-- What the message asks for: the exchange is that of the one request whose encoding it is (RFC 4120, section 5.4.1), and so are the names.
abbrev pub IsAsked : Bytes → Asked → Type 0
IsAsked message (As names) = IsFoundIn (IsAsReq message) (Some names)
IsAsked message (Tgs names) = IsFoundIn (IsTgsReq message) (Some names)
IsAsked message Nothing = IsFoundIn (IsAsReq message) None × IsFoundIn (IsTgsReq message) None

-- What a request asks for that was seen.
abbrev pub IsAskedBy : SeenRequest → Asked → Type 0
IsAskedBy (seen.As request) (As names) = IsNamed request.now names
IsAskedBy (seen.Tgs request ticket) (Tgs names) = IsNamedBy (ticket_client request.now (option_copied ticket)) request.now names
IsAskedBy _ _ = ⊥
