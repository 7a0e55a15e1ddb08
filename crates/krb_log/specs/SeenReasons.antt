-- Why a request was refused that was seen, where its error code leaves that open.
use Rattle.std.specs.Prelude.{ℕ, ◌==◌, Bool, true, false, Option, None, Some, Result, Ok, Err}
use Rattle.std.specs.Option.{option_copied}
use Rattle.picky_asn1.specs.Bytes.{Bytes}
use Rattle.decision_tables.specs.Tables.{Table, as_made, ask, done}
use Rattle.krb_realm_accounts.specs.Accounts.{AccountMap, look_in}
use Rattle.krb_constants.specs.declared.error_codes.TheConstants.{KDC_ERR_PREAUTH_FAILED, KRB_AP_ERR_BAD_INTEGRITY}
use Rattle.krb_constants.specs.declared.padata_types.TheConstants.{PA_TGS_REQ}
use Rattle.krb_kdc.specs.declared.seen.SeenRequest.{SeenRequest}
use Rattle.krb_kdc.specs.declared.seen.SeenRequest.TheVariants.{As, Tgs}
use Rattle.krb_kdc_exchanges.specs.Requests.{account_of, body_of, client_of}
use Rattle.krb_messages.specs.Padata.{padata_in}
use Rattle.krb_kdc_exchanges.specs.declared.granted.GrantedTicket.{GrantedTicket}
use Rattle.krb_messages.specs.Messages.{IsApReq, sole_ap_req}
use Rattle.krb_messages.specs.declared.data_types.enc_ticket_part.EncTicketPartInner.{EncTicketPartInner}
use Rattle.krb_messages.specs.declared.messages.kdc_req.KdcReq.{KdcReq}
use Rattle.krb_messages.specs.Padata.{first_of}
use Rattle.krb_log.specs.Reasons.{authenticator_reason, preauthentication_reason}
use Rattle.krb_log.specs.declared.reason.Reason.{Reason}
use Rattle.krb_log.specs.declared.reason.Reason.TheVariants as reason

abbrev pub failed_reason : AccountMap → KdcReq → Bool → Table (Option Reason)
failed_reason accounts request false = done None
failed_reason accounts request true = preauthentication_reason (account_of (look_in accounts) (client_of (body_of request))) request

-- Of an AS request the code KDC_ERR_PREAUTH_FAILED has a reason.
abbrev pub as_reason : AccountMap → KdcReq → ℕ → Table (Option Reason)
as_reason accounts request code = failed_reason accounts request (code == KDC_ERR_PREAUTH_FAILED)

abbrev pub value_reason : EncTicketPartInner → Option Bytes → Table (Option Reason)
value_reason part None = done None
value_reason part (Some value) = ask (IsApReq value) (sole_ap_req value) (done None) (λ ap_req. as_made Some (authenticator_reason part ap_req.authenticator.0))

-- the ticket, where it doesn't open, and else what is sealed under its session key
abbrev pub ticket_reason : KdcReq → Option EncTicketPartInner → Table (Option Reason)
ticket_reason request None = done (Some reason.Ticket)
ticket_reason request (Some part) = value_reason part (first_of PA_TGS_REQ (padata_in request))

abbrev pub integrity_reason : KdcReq → Option EncTicketPartInner → Bool → Table (Option Reason)
integrity_reason request ticket false = done None
integrity_reason request ticket true = ticket_reason request ticket

-- Of a TGS request the code KRB_AP_ERR_BAD_INTEGRITY has a reason. Test: `tgs ticket wrong key`, `tgs no krbtgt` of `file_realms.txt`.
abbrev pub tgs_reason : KdcReq → Option EncTicketPartInner → ℕ → Table (Option Reason)
tgs_reason request ticket code = integrity_reason request ticket (code == KRB_AP_ERR_BAD_INTEGRITY)

-- the reason of an outcome
abbrev pub reason_by : AccountMap → SeenRequest → Result GrantedTicket ℕ → Table (Option Reason)
reason_by accounts request (Ok ticket) = done None
reason_by accounts (As request) (Err code) = as_reason accounts request.now code
reason_by accounts (Tgs request ticket) (Err code) = tgs_reason request.now (option_copied ticket) code
