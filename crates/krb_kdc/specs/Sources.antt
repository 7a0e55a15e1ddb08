-- Replies, where what judges requests by certificate is given for the AS request that was read.
use Rattle.std.specs.Prelude.{◌≡◌, ◌⊎◌, Option, None, IsTrue}
use Rattle.std.specs.Option.{is_some}
use Rattle.picky_asn1.specs.Bytes.{Bytes}
use Rattle.decision_tables.specs.Tables.{Table}
use Rattle.krb_kdc_exchanges.specs.Call.{CallRecord}
use Rattle.krb_kdc_exchanges.specs.Replies.{Replies, as_reply, tgs_reply}
use Rattle.krb_kdc_exchanges.specs.Requests.{account_of, body_of, client_of, service_of}
use Rattle.krb_kdc_exchanges.specs.Rows.{PkinitRows}
use Rattle.krb_constants.specs.declared.padata_types.TheConstants.{PA_PK_AS_REQ}
use Rattle.krb_messages.specs.Messages.{IsAsReq, IsTgsReq}
use Rattle.krb_messages.specs.Padata.{first_of, padata_in}
use Rattle.krb_messages.specs.declared.messages.kdc_req.KdcReq.{KdcReq}

-- The request is by certificate: it has PA-PK-AS-REQ (RFC 4556, section 3.2.1).
abbrev pub IsByCertificate : KdcReq → Type 0
IsByCertificate request = IsTrue (is_some (first_of PA_PK_AS_REQ (padata_in request)))

-- The message is an AS request by certificate.
abbrev pub AsksByCertificate : Bytes → Type 0
AsksByCertificate message = (request : KdcReq) × IsAsReq message request × IsByCertificate request

-- The reply to an AS request, by these rows for PA-PK-AS-REQ and the accounts of its client and its service.
abbrev pub as_reply_by : CallRecord → PkinitRows → KdcReq → Table (Option Bytes)
as_reply_by call rows request =
    as_reply call rows (account_of call.look (client_of (body_of request))) (account_of call.look (service_of (body_of request))) request

-- A reply to bytes that are no AS request. No rows for PA-PK-AS-REQ count.
abbrev pub IsFurtherReply : CallRecord → Bytes → Option Bytes → Type 0
IsFurtherReply call message reply =
    ((request : KdcReq) × IsTgsReq message request × (tgs_reply call request).gives reply)
    ⊎ (((request : KdcReq) → IsTgsReq message request → ⊥) × (reply ≡ None))

-- A reply to an AS request by the rows of something that may be given for this request, or a reply to other bytes.
abbrev pub RepliesBy : {P : Type 0} → (P → PkinitRows) → (KdcReq → P → Type 0) → CallRecord → Bytes → Option Bytes → Type 0
RepliesBy {P} rows gives call message reply =
    ((request : KdcReq) × IsAsReq message request × ((pkinit : P) × gives request pkinit × Replies call (rows pkinit) message reply))
    ⊎ (((request : KdcReq) → IsAsReq message request → ⊥) × IsFurtherReply call message reply)
