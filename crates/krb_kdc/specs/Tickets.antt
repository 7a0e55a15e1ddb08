-- The ticket that a TGS request comes with.
use Rattle.std.specs.Prelude.{◌≡◌, List, Some}
use Rattle.picky_asn1.specs.Bytes.{Bytes}
use Rattle.krb_realm_accounts.specs.Account.{AccountRecord}
use Rattle.krb_realm_accounts.specs.Accounts.{AccountMap, Look, look_in}
use Rattle.krb_ap_requests.specs.ApTable.{enc_part_in}
use Rattle.krb_constants.specs.declared.padata_types.TheConstants.{PA_TGS_REQ}
use Rattle.krb_messages.specs.Messages.{IsApReq}
use Rattle.krb_messages.specs.declared.messages.ap_req.ApReqInner.{ApReqInner}
use Rattle.krb_messages.specs.Padata.{first_of}
use Rattle.krb_messages.specs.Names.{components}
use Rattle.krb_messages.specs.declared.data_types.enc_ticket_part.EncTicketPartInner.{EncTicketPartInner}
use Rattle.krb_messages.specs.declared.data_types.pa_data.PaData.{PaData}
use Rattle.krb_kdc_exchanges.specs.ChosenKeys.{OpensTicket}
use Rattle.krb_kdc.specs.Few.{AreOf, Knows}

-- The AP request of the first padata of its type has this ticket's part, sealed under the key of this name's account that has its kvno.
pub record IsTgsReqTicket (few : AccountMap) (granting : List Bytes) (padata : List PaData) (part : EncTicketPartInner) : Type 0 where
  pub value : Bytes
  pub ap_req : ApReqInner
  pub account : AccountRecord
  pub first : first_of PA_TGS_REQ padata ≡ Some value
  pub read : IsApReq value ap_req
  pub has : look_in few granting ≡ Some account
  pub opens : OpensTicket account (enc_part_in ap_req) part

-- The account of the ticket's client was looked up, if there is a ticket, and what was known stays known.
pub record IsClientFetched (all : Look) (granting : List Bytes) (padata : List PaData) (old new : AccountMap) : Type 0 where
  pub own : AreOf all old → AreOf all new
  pub known : AreOf all old → (part : EncTicketPartInner) → IsTgsReqTicket old granting padata part → Knows all new (components part.cname.0)
  pub kept : (other : List Bytes) → Knows all old other → Knows all new other
