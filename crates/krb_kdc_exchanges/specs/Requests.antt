-- The fields of a KDC-REQ, and the rows that AS and TGS requests share (RFC 4120, sections 3.1.3, 3.3.3, 5.4.1).
use Rattle.std.specs.Prelude.{◌≡◌, ℕ, nat_le, Bool, not, ◌||◌, List, [], Option, None, Some, Result, Ok}
use Rattle.std.specs.Option.{option_map, option_map_or}
use Rattle.std.proofs.Common.{sym, ◌∙◌}
use Rattle.krb_time.specs.Units.{Micros, Seconds}
use Rattle.picky_asn1.specs.BitString.{Bits, bit_of}
use Rattle.asn1_leaves.specs.GeneralizedTime.{seconds_of}
use Rattle.picky_asn1.specs.Numbers.{is_number}
use Rattle.picky_asn1.specs.Bytes.{Bytes}
use Rattle.asn1_leaves.proofs.TimeLemmas.{seconds_of-injective}
use Rattle.krb_messages.specs.Names.{components, is_same_realm}
use Rattle.krb_messages.specs.declared.data_types.pa_data.PaData.{PaData}
use Rattle.krb_messages.specs.declared.data_types.principal_name.PrincipalName.{PrincipalName}
use Rattle.krb_messages.specs.Refusals.{Code}
use Rattle.krb_constants.specs.declared.error_codes.TheConstants.{KDC_ERR_BAD_PVNO, KDC_ERR_CANNOT_POSTDATE, KDC_ERR_NEVER_VALID, KDC_ERR_BADOPTION, KRB_AP_ERR_MSG_TYPE, KDC_ERR_WRONG_REALM}
use Rattle.krb_constants.specs.declared.kdc_options.TheConstants.{ENC_TKT_IN_SKEY, FORWARDED, POSTDATED, PROXY, RENEW, VALIDATE}
use Rattle.krb_constants.specs.declared.types.TheConstants.{KERBEROS_VERSION}
use Rattle.krb_messages.specs.declared.messages.kdc_req.KdcReq.{KdcReq}
use Rattle.krb_messages.specs.declared.messages.kdc_req_body.KdcReqBody.{KdcReqBody}
use Rattle.decision_tables.specs.One.{IsSole}
use Rattle.decision_tables.specs.Tables.{Table, done, make, refuse}
use Rattle.krb_realm_accounts.specs.Account.{AccountRecord}
use Rattle.krb_realm_accounts.specs.Accounts.{Look}
use Rattle.krb_kdc_exchanges.specs.Times.{end_of, start_of}
use Rattle.krb_kdc_exchanges.specs.declared.span.Span.{Span}

-- one of forwarded, proxy, enc-tkt-in-skey, renew and validate, which an AS request can't have (RFC 4120, section 5.4.1)
abbrev pub has_refused_option : Bits → Bool
has_refused_option options =
    bit_of options FORWARDED || bit_of options PROXY || bit_of options ENC_TKT_IN_SKEY || bit_of options RENEW || bit_of options VALIDATE

-- postdated (RFC 4120, section 5.4.1)
abbrev pub is_postdated : Bits → Bool
is_postdated options = bit_of options POSTDATED

-- the body's `cname`
abbrev pub client_of : KdcReqBody → Option PrincipalName
client_of body = option_map (λ tagged. tagged.0) body.cname.0

-- the body's `sname`
abbrev pub service_of : KdcReqBody → Option PrincipalName
service_of body = option_map (λ tagged. tagged.0) body.sname.0

-- the account of a name, or none where no name is given or the name has no account
abbrev pub account_of : Look → Option PrincipalName → Option AccountRecord
account_of look None = None
account_of look (Some name) = look (components name)

-- the body of a request
abbrev pub body_of : KdcReq → KdcReqBody
body_of request = request.req_body.0

-- the request is of this message type, to this realm, and without an option that is refused in its exchange
-- Ignored: other options (allow-postdate, disable-transited-check, ..) (RFC 4120, section 5.4.1). Test: `as harmless options`,
-- `tgs harmless options`.
abbrev pub header_rows : ℕ → Bytes → Bool → KdcReq → Table (Result (Unit {0}) Code)
header_rows message_type realm is_refused request =
    -- `pvno` is 5 (RFC 4120, section 5.4.1). Test: `as pvno`, `tgs pvno`.
    refuse (not (is_number KERBEROS_VERSION request.pvno.0)) KDC_ERR_BAD_PVNO
    -- `msg-type` is 10 in an AS-REQ, and 12 in a TGS-REQ (RFC 4120, section 5.4.1). Test: `as msg-type`, `tgs msg-type`.
    (refuse (not (is_number message_type request.msg_type.0)) KRB_AP_ERR_MSG_TYPE
    -- `realm` is this realm, character by character (RFC 4120, section 5.4.1). Test: `as realm`, `tgs realm`.
    (refuse (not (is_same_realm (body_of request).realm.0 realm)) KDC_ERR_WRONG_REALM
    -- Of `kdc-options`, renew, validate, forwarded, proxy and enc-tkt-in-skey are refused, but renew, forwarded and proxy in a TGS-REQ where
    -- the policy allows them (RFC 4120, section 5.4.1). Test:
    -- `as option renew`, `as option validate`, `as option forwarded`, `as option proxy`, `as option enc-tkt-in-skey`,
    -- `tgs option renew`, `tgs option validate`, `tgs option forwarded`, `tgs option proxy`, `tgs option enc-tkt-in-skey`.
    (refuse is_refused KDC_ERR_BADOPTION
    -- Of `kdc-options`, postdated is refused (RFC 4120, section 3.1.3). Test: `as option postdated`, `tgs option postdated`.
    (refuse (is_postdated (body_of request).kdc_options.0) KDC_ERR_CANNOT_POSTDATE
    (done (Ok tt))))))

-- a ticket starts in the second of the moment; its endtime is at most the presented ticket's, in a TGS exchange
pub record IsSpan (lifetime : Seconds) (moment : Micros) (old : Option Seconds) (till : Seconds) (span : Span) : Type 0 where
  pub starts : seconds_of span.starttime ≡ start_of moment
  pub ends : seconds_of span.endtime ≡ end_of lifetime (start_of moment) old till

-- a ticket has one starttime and one endtime
pub sole_span : (lifetime : Seconds) (moment : Micros) (old : Option Seconds) (till : Seconds) → IsSole (IsSpan lifetime moment old till)
sole_span lifetime moment old till a b x y = λ i. record {
  starttime = seconds_of-injective a.starttime b.starttime (x.starts ∙ sym y.starts) i;
  endtime = seconds_of-injective a.endtime b.endtime (x.ends ∙ sym y.ends) i;
}

-- the endtime isn't after the starttime
abbrev pub is_ended : Span → Bool
is_ended span = nat_le (seconds_of span.endtime) (seconds_of span.starttime)

-- the seconds in which a ticket starts and ends, which is to end at `till`
abbrev pub lasting_to : Seconds → Micros → Option Seconds → Seconds → Table (Result Span Code)
lasting_to lifetime moment old till =
    -- The endtime is the least of `till`, the starttime plus the lifetime, the presented ticket's endtime and the year 9999; `till`
    -- 19700101000000Z means no end (RFC 4120, sections 3.1.3, 3.3.3 and 5.4.1). Test: `as till edges`, `as padata among others`,
    -- `tgs till edges`, `tgs ticket end edges`.
    make (IsSpan lifetime moment old till) (sole_span lifetime moment old till) (λ span.
    -- The endtime is after the starttime, which is now (RFC 4120, section 3.1.3). Test: `as till edges`, `tgs old end` of
    -- `five_suites.txt`.
    refuse (is_ended span) KDC_ERR_NEVER_VALID
    (done (Ok span)))

-- the seconds in which the ticket that a request asks for starts and ends
abbrev pub lasting : Seconds → Micros → Option Seconds → KdcReqBody → Table (Result Span Code)
lasting lifetime moment old body = lasting_to lifetime moment old (seconds_of body.till.0.0)
