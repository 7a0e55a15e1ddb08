-- The outcome of a request's table with an error's e-data, and the reply that it makes.
use Rattle.std.specs.Prelude.{◌≡◌, ◌%◌, Option, Result, Ok, Err}
use Rattle.std.specs.Option.{option_map}
use Rattle.krb_messages.specs.Refusals.{Code}
use Rattle.picky_asn1.specs.Bytes.{Bytes}
use Rattle.asn1_leaves.specs.declared.date.GeneralizedTime.{GeneralizedTime}
use Rattle.krb_messages.specs.declared.messages.kdc_req.KdcReq.{KdcReq}
use Rattle.krb_kdc_exchanges.specs.Call.{CallRecord}
use Rattle.krb_kdc_exchanges.specs.Requests.{body_of, service_of}
use Rattle.krb_kdc_exchanges.specs.Errors.{error_bytes}
use Rattle.krb_time.specs.SecondOf.{IsSecondOf}
use Rattle.krb_kdc_exchanges.specs.Replies.{named_service}
use Rattle.krb_kdc_exchanges.specs.Granting.{IsGrantedTicket}
use Rattle.krb_kdc_exchanges.specs.declared.granted.Granted.{Granted}
use Rattle.krb_kdc_exchanges.specs.declared.granted.GrantedTicket.{GrantedTicket}
use Rattle.krb_kdc_exchanges.specs.declared.kdc_error.KdcError.{KdcError}

-- the reply's bytes are the outcome of the table, and the ticket is the reply's; or the error code is the outcome, and the e-data belongs
-- to this code
abbrev pub IsJudgement : (Result Bytes Code → Type 0) → (Code → Option Bytes) → Result Granted KdcError → Type 0
IsJudgement gives e_data (Ok made) = gives (Ok made.reply.items) × IsGrantedTicket made.reply.items made.ticket
IsJudgement gives e_data (Err kdc_error) = gives (Err kdc_error.code) × (option_map (λ h. h.items) kdc_error.e_data ≡ e_data kdc_error.code)

-- the bytes are the reply that was granted, or the KRB-ERROR about the request's service, in the second of the moment
abbrev pub IsAnswerWith : CallRecord → KdcReq → Result Granted KdcError → Bytes → Type 0
IsAnswerWith call request (Ok made) bytes = bytes ≡ made.reply.items
IsAnswerWith call request (Err kdc_error) bytes =
    (time : GeneralizedTime) × IsSecondOf call.moment time
    × (bytes ≡ error_bytes call.realm time (call.moment % 1000000) (named_service call.realm (service_of (body_of request))) kdc_error.code (option_map (λ h. h.items) kdc_error.e_data))

-- the outcome is the ticket that was granted, or the error code
abbrev pub outcome_of : Result Granted KdcError → Result GrantedTicket Code
outcome_of (Ok made) = Ok made.ticket
outcome_of (Err kdc_error) = Err kdc_error.code
