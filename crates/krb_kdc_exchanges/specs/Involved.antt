-- A reply depends on the accounts that its request involves alone.
use Rattle.std.specs.Prelude.{◌≡◌, ◌⊎◌, List, Option, Some}
use Rattle.picky_asn1.specs.Bytes.{Bytes}
use Rattle.krb_messages.specs.declared.messages.kdc_req.KdcReq.{KdcReq}
use Rattle.krb_messages.specs.declared.data_types.principal_name.PrincipalName.{PrincipalName}
use Rattle.krb_realm_accounts.specs.Accounts.{Look}
use Rattle.krb_kdc_exchanges.specs.Rows.{PkinitRows}
use Rattle.krb_messages.specs.Names.{components}
use Rattle.krb_messages.specs.Messages.{IsAsReq, IsTgsReq}
use Rattle.krb_kdc_exchanges.specs.Call.{CallRecord}
use Rattle.krb_kdc_exchanges.specs.Requests.{body_of, client_of, service_of}
use Rattle.krb_kdc_exchanges.specs.ByTicket.{IsInvolvedFurther}
use Rattle.krb_kdc_exchanges.specs.Replies.{Replies}

-- the name is given, and has these components
abbrev pub IsNamed : Option PrincipalName → List Bytes → Type 0
IsNamed name these = (given : PrincipalName) × (name ≡ Some given) × (these ≡ components given)

-- the bytes are an AS-REQ of this client, or for this service; or a TGS-REQ, and these are the ticket-granting service, the service,
-- or the presented ticket's client
abbrev pub IsInvolved : CallRecord → Bytes → List Bytes → Type 0
IsInvolved call bytes these =
    ((request : KdcReq) × IsAsReq bytes request
    × (IsNamed (client_of (body_of request)) these ⊎ IsNamed (service_of (body_of request)) these))
    ⊎ ((request : KdcReq) × IsTgsReq bytes request × IsInvolvedFurther call request these)

-- realms of one name, of the same settings and of the same rows for PA-PK-AS-REQ, which agree on the accounts involved, reply
-- equally
abbrev pub IsOfInvolvedAlone : PkinitRows → Type 0
IsOfInvolvedAlone rows = (call : CallRecord) (other : Look) (request : Bytes)
    → ((these : List Bytes) → IsInvolved call request these → call.look these ≡ other these)
    → (reply : Option Bytes) → Replies call rows request reply → Replies (record call { look = other }) rows request reply
