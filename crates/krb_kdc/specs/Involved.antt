-- The accounts that a request involves, among the few.
use Rattle.std.specs.Prelude.{List, Option, None, Some}
use Rattle.picky_asn1.specs.Bytes.{Bytes}
use Rattle.krb_realm_accounts.specs.Accounts.{AccountMap, Look}
use Rattle.krb_kdc_exchanges.specs.Requests.{body_of, service_of}
use Rattle.krb_messages.specs.Padata.{padata_in}
use Rattle.krb_messages.specs.declared.messages.kdc_req.KdcReq.{KdcReq}
use Rattle.krb_messages.specs.Names.{components}
use Rattle.krb_messages.specs.declared.data_types.enc_ticket_part.EncTicketPartInner.{EncTicketPartInner}
use Rattle.krb_messages.specs.declared.data_types.principal_name.PrincipalName.{PrincipalName}
use Rattle.krb_kdc.specs.Few.{AreOf, Knows}
use Rattle.krb_kdc.specs.Tickets.{IsTgsReqTicket}

-- The few have the account of the name that is given, or it has none.
abbrev pub KnowsNamed : Look → AccountMap → Option PrincipalName → Type 0
KnowsNamed all few None = Unit {0}
KnowsNamed all few (Some name) = Knows all few (components name)

-- A name's account was looked up, if the name is given.
pub record IsNamedFetched (all : Look) (name : Option PrincipalName) (old new : AccountMap) : Type 0 where
  pub own : AreOf all old → AreOf all new
  pub known : AreOf all old → KnowsNamed all new name
  pub kept : (other : List Bytes) → Knows all old other → Knows all new other

-- The few have what a TGS request involves: the accounts of the ticket-granting service, of the ticket's client and of the service.
pub record KnowsFurther (all : Look) (few : AccountMap) (tgs : List Bytes) (request : KdcReq) : Type 0 where
  pub granting : Knows all few tgs
  pub client : (part : EncTicketPartInner) → IsTgsReqTicket few tgs (padata_in request) part → Knows all few (components part.cname.0)
  pub service : KnowsNamed all few (service_of (body_of request))
