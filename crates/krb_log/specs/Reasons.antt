-- Why an AS request is refused as KDC_ERR_PREAUTH_FAILED, and a TGS request as KRB_AP_ERR_BAD_INTEGRITY: the rows of their tables that say so,
-- each by its name (RFC 4120, sections 3.1.3 and 3.3.3; RFC 4556, section 3.2.1).
use Rattle.std.specs.Prelude.{is_none, ℕ, ◌==◌, List, codes, not, Option, None, Some, Result, Ok, Err, if◌then◌else◌}
use Rattle.asn1_der.specs.Tree.{Writes}
use Rattle.std.proofs.Common.{sym, ◌∙◌}
use Rattle.picky_asn1.specs.Bytes.{Bytes}
use Rattle.picky_asn1.specs.Numbers.{is_number}
use Rattle.decision_tables.specs.One.{IsSole}
use Rattle.decision_tables.specs.Tables.{Table, as_made, ask, done}
use Rattle.krb_realm_accounts.specs.Account.{AccountRecord}
use Rattle.krb_ap_requests.specs.ApTable.{authenticated}
use Rattle.krb_ap_requests.specs.declared.presented.Authenticated.{Authenticated}
use Rattle.krb_constants.specs.KeyUsages.{key_usage}
use Rattle.krb_constants.specs.declared.error_codes.TheConstants.{KRB_AP_ERR_BAD_INTEGRITY}
use Rattle.krb_constants.specs.declared.key_usages.TheConstants.{TGS_REQ_PA_DATA_AP_REQ_AUTHENTICATOR}
use Rattle.krb_constants.specs.declared.padata_types.TheConstants.{PA_ENC_TIMESTAMP, PA_PK_AS_REQ}
use Rattle.krb_crypto.specs.Suites.{cipher_number}
use Rattle.krb_tickets.specs.Keys.{suite_of}
use Rattle.krb_kdc_exchanges.specs.Requests.{body_of}
use Rattle.krb_messages.specs.Padata.{padata_in}
use Rattle.krb_messages.specs.declared.messages.kdc_req.KdcReq.{KdcReq}
use Rattle.krb_kdc_exchanges.specs.EncryptedTimestamps.{IsEncryptedTimestamp, moment_of, sole_encrypted_timestamp}
use Rattle.krb_messages.specs.Padata.{first_of}
use Rattle.krb_messages.specs.Trees as held
use Rattle.krb_messages.specs.declared.data_types.encrypted_data.EncryptedData.{EncryptedData}
use Rattle.krb_messages.specs.declared.data_types.enc_ticket_part.EncTicketPartInner.{EncTicketPartInner}
use Rattle.krb_messages.specs.declared.data_types.pa_data.PaData.{PaData}
use Rattle.krb_messages.specs.declared.data_types.pa_enc_timestamp.PaEncTsEnc.{PaEncTsEnc}
use Rattle.pkinit_validation.specs.Diagnoses.{fault_text, request_fault}
use Rattle.pkinit_validation.specs.declared.fault.PkAsReqFault.{PkAsReqFault}
use Rattle.krb_log.specs.declared.reason.Reason.{Reason}
use Rattle.krb_log.specs.declared.reason.Reason.TheVariants as reason

-- the part that is wrong, and what is wrong with it
abbrev pub reason_text : Reason → List ℕ
reason_text (reason.PkAsReq fault) = fault_text fault
reason_text reason.Timestamp = codes "PA-ENC-TIMESTAMP: not the one DER encoding of an EncryptedData"
reason_text reason.TimestampEtype = codes "PA-ENC-TIMESTAMP: etype isn't that of the client's key"
reason_text reason.TimestampKey = codes "PA-ENC-TIMESTAMP: doesn't open under the client's key"
reason_text reason.Pausec = codes "PA-ENC-TIMESTAMP: pausec isn't from 0 to 999999"
reason_text reason.Ticket = codes "ticket: doesn't open under the key of krbtgt"
reason_text reason.SessionKey = codes "ticket: session key is of no known encryption type"
reason_text reason.Authenticator = codes "authenticator: doesn't open under the ticket's session key"
reason_text reason.Subkey = codes "authenticator: subkey is of no known encryption type"

-- the bytes are the one DER encoding of this EncryptedData
abbrev pub IsEncryptedData : Bytes → EncryptedData → Type 0
IsEncryptedData bytes sealed = Writes held.encrypted_data_tree sealed bytes

pub sole_encrypted_data : (bytes : Bytes) → IsSole (IsEncryptedData bytes)
sole_encrypted_data bytes v w p q = held.encrypted_data-injective v w p.0 q.0 (sym p.1 ∙ q.1)

-- A PA-ENC-TIMESTAMP that doesn't open is no EncryptedData, or is of another encryption type than the client's key, or else is under another key.
-- Test: `as padata twice, first bad`, `as PA-ENC-TIMESTAMP damaged`, `as PA-ENC-TIMESTAMP bytes damaged` of `file_realms.txt`.
abbrev pub unopened_reason : AccountRecord → Bytes → Table Reason
unopened_reason client value =
    ask (IsEncryptedData value) (sole_encrypted_data value) (done reason.Timestamp) (λ sealed.
    done (if is_number (cipher_number client.suite) sealed.etype.0 then reason.TimestampKey else reason.TimestampEtype))

-- Test: `as microseconds` of `file_realms.txt`.
abbrev pub moment_reason : PaEncTsEnc → Option Reason
moment_reason timestamp = if is_none (moment_of timestamp) then Some reason.Pausec else None

abbrev pub timestamp_reason : AccountRecord → Bytes → Table (Option Reason)
timestamp_reason client value =
    ask (IsEncryptedTimestamp client value) (sole_encrypted_timestamp client value) (as_made Some (unopened_reason client value)) (λ timestamp.
    done (moment_reason timestamp))

abbrev pub reason_by_value : AccountRecord → Option Bytes → Table (Option Reason)
reason_by_value client None = done None
reason_by_value client (Some value) = timestamp_reason client value

-- the reason by the first PA-ENC-TIMESTAMP, where the client has an account
abbrev pub reason_by_timestamp : Option AccountRecord → List PaData → Table (Option Reason)
reason_by_timestamp None padata = done None
reason_by_timestamp (Some client) padata = reason_by_value client (first_of PA_ENC_TIMESTAMP padata)

abbrev pub pk_as_req_reason : Option PkAsReqFault → Option Reason
pk_as_req_reason None = None
pk_as_req_reason (Some fault) = Some (reason.PkAsReq fault)

-- the reason by PA-PK-AS-REQ, where there is this padata, and else by PA-ENC-TIMESTAMP
abbrev pub reason_by : Option AccountRecord → KdcReq → Option Bytes → Table (Option Reason)
reason_by client request (Some value) = as_made pk_as_req_reason (request_fault (body_of request) value)
reason_by client request None = reason_by_timestamp client (padata_in request)

-- Why an AS request of the client with this account is refused as KDC_ERR_PREAUTH_FAILED, if it is.
abbrev pub preauthentication_reason : Option AccountRecord → KdcReq → Table (Option Reason)
preauthentication_reason client request = reason_by client request (first_of PA_PK_AS_REQ (padata_in request))

-- the reason of an authenticator that is refused with this code: the session key is of no suite, or it doesn't open the authenticator
abbrev pub refused_reason : EncTicketPartInner → ℕ → Reason
refused_reason part code =
    if not (code == KRB_AP_ERR_BAD_INTEGRITY) then reason.Subkey
    else (if is_none (suite_of part.key.0) then reason.SessionKey else reason.Authenticator)

abbrev pub reason_of_outcome : EncTicketPartInner → Result Authenticated ℕ → Reason
reason_of_outcome part (Ok authenticated) = reason.Subkey
reason_of_outcome part (Err code) = refused_reason part code

-- Where a ticket opens, its session key is of no suite, or the authenticator doesn't open under it, or else the subkey is of none.
-- Test: `tgs ticket key type`, `tgs authenticator wrong key`, `tgs subkey type` of `file_realms.txt`.
abbrev pub authenticator_reason : EncTicketPartInner → EncryptedData → Table Reason
authenticator_reason part encrypted =
    as_made (reason_of_outcome part) (authenticated (key_usage TGS_REQ_PA_DATA_AP_REQ_AUTHENTICATOR) part encrypted)
