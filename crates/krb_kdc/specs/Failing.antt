-- The faults by which the accounts that a message involves may fail.
use Rattle.std.specs.Prelude.{◌≡◌, ◌⊎◌, List, Option}
use Rattle.picky_asn1.specs.Bytes.{Bytes}
use Rattle.krb_realm_accounts.specs.Accounts.{AccountMap, Look}
use Rattle.krb_kdc_exchanges.specs.ByTicket.{IsInvolvedFurther}
use Rattle.krb_kdc_exchanges.specs.Call.{CallRecord}
use Rattle.krb_kdc_exchanges.specs.Involved.{IsInvolved, IsNamed}
use Rattle.krb_kdc_exchanges.specs.Requests.{body_of, client_of, service_of}
use Rattle.krb_messages.specs.Names.{components}
use Rattle.krb_messages.specs.declared.data_types.enc_ticket_part.EncTicketPartInner.{EncTicketPartInner}
use Rattle.krb_messages.specs.declared.data_types.pa_data.PaData.{PaData}
use Rattle.krb_messages.specs.declared.data_types.principal_name.PrincipalName.{PrincipalName}
use Rattle.krb_messages.specs.declared.messages.kdc_req.KdcReq.{KdcReq}
use Rattle.krb_kdc.specs.Calls.{call_with}
use Rattle.krb_kdc.specs.Tickets.{IsTgsReqTicket}
use Rattle.krb_kdc.specs.declared.call.LookupCall.{LookupCall}
use Rattle.krb_kdc.specs.declared.fault.LookupFault.{LookupFault}

-- A message to the realm of this name, which has these accounts, involves this account. At which moment doesn't matter.
abbrev pub Involves : Bytes → Look → Bytes → List Bytes → Type 0
Involves realm all message name = (call : CallRecord) × (call.realm ≡ realm) × (call.look ≡ all) × IsInvolved call message name

-- By this fault an account may fail that the message involves, whatever accounts may be held.
abbrev pub FailsFor : (Look → Type 0) → (List Bytes → LookupFault → Type 0) → Bytes → Bytes → LookupFault → Type 0
FailsFor holds fails realm message fault = (name : List Bytes) × ((all : Look) → holds all → Involves realm all message name) × fails name fault

-- By this fault the account of the name may fail that is given.
abbrev pub FailsNamed : (List Bytes → LookupFault → Type 0) → Option PrincipalName → LookupFault → Type 0
FailsNamed fails name fault = (these : List Bytes) × IsNamed name these × fails these fault

-- By this fault the account of the client of an AS request may fail, or that of its service.
abbrev pub FailsAs : (List Bytes → LookupFault → Type 0) → KdcReq → LookupFault → Type 0
FailsAs fails request fault = FailsNamed fails (client_of (body_of request)) fault ⊎ FailsNamed fails (service_of (body_of request)) fault

-- By this fault the account of the client may fail whose ticket the padata have.
abbrev pub FailsClient : (List Bytes → LookupFault → Type 0) → AccountMap → List Bytes → List PaData → LookupFault → Type 0
FailsClient fails few granting padata fault = (part : EncTicketPartInner) × IsTgsReqTicket few granting padata part × fails (components part.cname.0) fault

-- By this fault an account may fail that a TGS request involves, whatever accounts may be held.
abbrev pub FailsTgs : (Look → Type 0) → (List Bytes → LookupFault → Type 0) → LookupCall → KdcReq → LookupFault → Type 0
FailsTgs holds fails call request fault =
    (name : List Bytes) × ((all : Look) → holds all → IsInvolvedFurther (call_with call all) request name) × fails name fault
