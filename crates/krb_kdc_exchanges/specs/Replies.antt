-- The reply of a realm, as one table over whole messages.
use Rattle.std.specs.Prelude.{◌≡◌, ◌%◌, ◌==◌, Bool, Option, None, Some, Result, Ok, Err, if◌then◌else◌}
use Rattle.std.specs.Option.{option_map}
use Rattle.picky_asn1.specs.Bytes.{Bytes}
use Rattle.krb_messages.specs.declared.messages.kdc_req.KdcReq.{KdcReq}
use Rattle.krb_messages.specs.declared.data_types.principal_name.PrincipalName.{PrincipalName}
use Rattle.krb_messages.specs.Refusals.{Code}
use Rattle.krb_constants.specs.declared.error_codes.TheConstants.{KDC_ERR_PREAUTH_REQUIRED}
use Rattle.krb_realm_accounts.specs.Account.{AccountRecord}
use Rattle.krb_kdc_exchanges.specs.Rows.{PkinitRows}
use Rattle.decision_tables.specs.Tables.{Table, done, ask, make}
use Rattle.krb_tickets.specs.MethodData.{method_data_bytes}
use Rattle.krb_messages.specs.Messages.{IsAsReq, IsTgsReq, sole_as_req, sole_tgs_req}
use Rattle.krb_kdc_exchanges.specs.AsTable.{as_table}
use Rattle.krb_kdc_exchanges.specs.Call.{CallRecord}
use Rattle.krb_kdc_exchanges.specs.Requests.{account_of, body_of, client_of, service_of}
use Rattle.krb_kdc_exchanges.specs.TgsTable.{tgs_table}
use Rattle.krb_kdc_exchanges.specs.Errors.{ticket_service, error_bytes}
use Rattle.krb_time.specs.SecondOf.{IsSecondOf, sole_second}

-- the sname of a KRB-ERROR: the request's, and without one the realm's ticket-granting service
abbrev pub named_service : Bytes → Option PrincipalName → PrincipalName
named_service realm None = ticket_service realm
named_service realm (Some name) = name

-- an error's e-data: with KDC_ERR_PREAUTH_REQUIRED the METHOD-DATA by which the client may authenticate, with PA-PK-AS-REQ where
-- PKINIT is offered, and none with another code
abbrev pub e_data_of : Bool → Option AccountRecord → Code → Option Bytes
e_data_of offered of_client code = if code == KDC_ERR_PREAUTH_REQUIRED then option_map (method_data_bytes offered) of_client else None

-- the reply to a request: what is granted, or the KRB-ERROR with its code, in the second of the moment
abbrev pub reply_of : CallRecord → (Code → Option Bytes) → KdcReq → Result Bytes Code → Table (Option Bytes)
reply_of call e_data request (Ok bytes) = done (Some bytes)
reply_of call e_data request (Err code) =
    -- A KRB-ERROR has the code, stime and susec of now, and the realm; it has no ctime, cusec, crealm, cname or e-text (RFC 4120, section
    -- 5.9.1). Test: `tgs pvno`, `as service absent` of `kdc_exchanges.txt`.
    -- The sname of a KRB-ERROR is the request's, else `krbtgt` with the realm, of name type 2 (RFC 4120, sections 5.9.1, 6.2 and 7.3).
    -- Test: `tgs pvno`, `as service absent` of `kdc_exchanges.txt`.
    make (IsSecondOf call.moment) (sole_second call.moment) (λ time.
    done (Some (error_bytes call.realm time (call.moment % 1000000) (named_service call.realm (service_of (body_of request))) code (e_data code))))

-- the reply to a request whose table this is, with the e-data that belongs to the code of an error
abbrev pub answered : CallRecord → (Code → Option Bytes) → KdcReq → Table (Result Bytes Code) → Table (Option Bytes)
answered call e_data request judged =
    -- The outcome of the exchange's table is the reply (RFC 4120, sections 3.1.3 and 3.3.3). Test: `as honest`, `tgs honest` of
    -- `kdc_exchanges.txt`.
    make judged.gives judged.one (reply_of call e_data request)

-- the reply to an AS request, by these rows for PA-PK-AS-REQ, for the accounts of client and service if they have one
abbrev pub as_reply : CallRecord → PkinitRows → Option AccountRecord → Option AccountRecord → KdcReq → Table (Option Bytes)
as_reply call rows of_client of_service request =
    -- A KRB-ERROR that answers an AS-REQ has e-data with error 25 alone (KDC_ERR_PREAUTH_REQUIRED): the METHOD-DATA of the client's account
    -- (RFC 4120, section 5.9.1). Test: `as no padata`, `as service absent` of `kdc_exchanges.txt`.
    answered call (e_data_of rows.offered of_client) request (as_table call rows of_client of_service request)

-- the reply to a TGS request, whose errors have no e-data
abbrev pub tgs_reply : CallRecord → KdcReq → Table (Option Bytes)
tgs_reply call request =
    -- A KRB-ERROR that answers a TGS-REQ has no e-data (RFC 4120, section 5.9.1). Test: `tgs pvno` of `kdc_exchanges.txt`.
    answered call (λ code. None) request (tgs_table call request)

-- the reply to a message, and none to bytes that are the one encoding of no AS-REQ and of no TGS-REQ
abbrev pub replies : CallRecord → PkinitRows → Bytes → Table (Option Bytes)
replies call rows request =
    -- The bytes are the DER encoding of an AS-REQ with nothing after it, else they are judged as a TGS-REQ (RFC 4120, section 5.4.1).
    -- Test: `as damaged bytes!`, `as length on four bytes!`, `as byte behind!`, `tgs honest` of `five_suites.txt`.
    ask (IsAsReq request) (sole_as_req request)
    -- The bytes are the DER encoding of a TGS-REQ with nothing after it, else there is no reply (RFC 4120, section 5.4.1). Test:
    -- `tgs length one more!`, `tgs damaged bytes!`, `tgs byte behind!`, `message a KRB-ERROR!` of `kdc_exchanges.txt`.
    (ask (IsTgsReq request) (sole_tgs_req request) (done None) (tgs_reply call))
    (λ v. as_reply call rows (account_of call.look (client_of (body_of v))) (account_of call.look (service_of (body_of v))) v)

-- the reply that a realm may give to a message
unfoldable pub Replies : CallRecord → PkinitRows → Bytes → Option Bytes → Type 0
Replies call rows request reply = (replies call rows request).gives reply

-- a message has one reply at most
pub one_reply : (call : CallRecord) (rows : PkinitRows) (request : Bytes) (a b : Option Bytes) → Replies call rows request a → Replies call rows request b → a ≡ b
unfolding Replies
one_reply call rows request = (replies call rows request).one
