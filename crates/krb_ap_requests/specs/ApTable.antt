-- How an AP request is judged, in parts of one table: the first case that holds counts (RFC 4120, section 3.2.3).
use Rattle.std.specs.Prelude.{ℕ, ◌*◌, Bool, true, not, ◌&&◌, ◌||◌, List, Result, Ok, Err}
use Rattle.std.specs.Int.{cast_unsigned, w32}
use Rattle.std.specs.Option.{option_map_or}
use Rattle.picky_asn1.specs.BitString.{bit_of}
use Rattle.asn1_leaves.specs.GeneralizedTime.{seconds_of}
use Rattle.asn1_leaves.specs.declared.date.GeneralizedTime.{GeneralizedTime}
use Rattle.krb_constants.specs.declared.key_usages.TheConstants.{AP_REQ_AUTHENTICATOR}
use Rattle.krb_crypto.specs.declared.suite.CipherSuite.{CipherSuite}
use Rattle.krb_crypto.specs.Suites.{cipher_number}
use Rattle.krb_messages.specs.declared.data_types.authenticator.AuthenticatorInner.{AuthenticatorInner}
use Rattle.krb_messages.specs.declared.data_types.encrypted_data.EncryptedData.{EncryptedData}
use Rattle.krb_messages.specs.declared.data_types.encryption_key.EncryptionKey.{EncryptionKey}
use Rattle.krb_messages.specs.declared.data_types.enc_ticket_part.EncTicketPartInner.{EncTicketPartInner}
use Rattle.krb_messages.specs.declared.data_types.ticket.TicketInner.{TicketInner}
use Rattle.krb_messages.specs.declared.messages.ap_req.ApReqInner.{ApReqInner}
use Rattle.krb_tickets.specs.Keys.{suite_of}
use Rattle.krb_messages.specs.Names.{components, is_same_name, is_same_realm}
use Rattle.krb_messages.specs.Refusals.{Code}
use Rattle.krb_constants.specs.declared.ap_options.TheConstants.{MUTUAL_REQUIRED, USE_SESSION_KEY}
use Rattle.krb_constants.specs.declared.error_codes.TheConstants.{KRB_AP_ERR_BAD_INTEGRITY, KRB_AP_ERR_TKT_EXPIRED, KRB_AP_ERR_TKT_NYV, KRB_AP_ERR_NOT_US, KRB_AP_ERR_BADMATCH, KRB_AP_ERR_BADVERSION, KRB_AP_ERR_MSG_TYPE, KRB_AP_ERR_MODIFIED, KRB_AP_ERR_BADKEYVER, KRB_AP_ERR_NOKEY, KRB_AP_ERR_METHOD}
use Rattle.krb_constants.specs.declared.ticket_flags.TheConstants.{INVALID}
use Rattle.krb_constants.specs.declared.types.TheConstants.{AP_REQ_MSG_TYPE, KERBEROS_VERSION}
use Rattle.picky_asn1.specs.Numbers.{is_number}
use Rattle.picky_asn1.specs.Bytes.{Bytes}
use Rattle.decision_tables.specs.Tables.{Table, done, ask, and_then, need, refuse}
use Rattle.krb_time.specs.Skew.{is_before}
use Rattle.krb_time.specs.Times.{moment_at}
use Rattle.krb_time.specs.Units.{Micros}
use Rattle.krb_ap_requests.specs.Entry.{EntryRecord}
use Rattle.krb_ap_requests.specs.Messages.{IsAuthenticator, IsTicketPart, sole_authenticator, sole_ticket_part}
use Rattle.krb_ap_requests.specs.declared.presented.Authenticated.{Authenticated}
use Rattle.krb_ap_requests.specs.declared.presented.Presented.{Presented}

-- the ticket of the request
abbrev pub ticket_in : ApReqInner → TicketInner
ticket_in request = request.ticket.0.0

-- its part as ciphertext
abbrev pub enc_part_in : ApReqInner → EncryptedData
enc_part_in request = (ticket_in request).enc_part.0

-- the request and its ticket are of version 5
abbrev pub is_version_5 : ApReqInner → Bool
is_version_5 request = is_number KERBEROS_VERSION request.pvno.0 && is_number KERBEROS_VERSION (ticket_in request).tkt_vno.0

-- the ticket is for the service of this realm and this name
abbrev pub is_for : Bytes → List Bytes → TicketInner → Bool
is_for realm name ticket = is_same_realm ticket.realm.0 realm && is_same_name (components ticket.sname.0) name

-- the data has the kvno, or none
abbrev pub kvno_fits : ℕ → EncryptedData → Bool
kvno_fits kvno encrypted = option_map_or (λ tagged. is_number kvno tagged.0) encrypted.kvno.0 true

-- the request's own fields: version 5, an AP request, for the service of this realm and this name under its key of this
-- kvno
-- Ignored: the name type of the ticket's sname; names are compared by their components (RFC 4120, section 6.2). Test: `name type`.
abbrev pub ap_fields : Bytes → List Bytes → ℕ → ApReqInner → Table (Result (Unit {0}) Code)
ap_fields realm name kvno request =
    -- The request's pvno and the ticket's tkt-vno are 5 (RFC 4120, sections 5.3 and 5.5.1). Test: `tgs AP-REQ pvno`,
    -- `tgs ticket version` of `kdc_exchanges.txt`.
    refuse (not (is_version_5 request)) KRB_AP_ERR_BADVERSION
    -- The msg-type is KRB_AP_REQ (RFC 4120, section 3.2.3). Test: `tgs AP-REQ type` of `kdc_exchanges.txt`.
    (refuse (not (is_number AP_REQ_MSG_TYPE request.msg_type.0)) KRB_AP_ERR_MSG_TYPE
    -- The ticket's realm and sname are those of this service (RFC 4120, section 3.2.3). Test: `tgs ticket realm`, `tgs ticket name` of
    -- `kdc_exchanges.txt`.
    (refuse (not (is_for realm name (ticket_in request))) KRB_AP_ERR_NOT_US
    -- The ticket's kvno is that of the service's key, or is missing (RFC 4120, section 3.2.3). Test: `tgs key number`,
    -- `tgs no key number` of `kdc_exchanges.txt`.
    (refuse (not (kvno_fits kvno (enc_part_in request))) KRB_AP_ERR_BADKEYVER
    (done (Ok tt)))))

-- the request isn't under a session key, it is for this service, and sealed as this service can open it
abbrev pub for_service : Bytes → List Bytes → CipherSuite → ℕ → ApReqInner → Table (Result (Unit {0}) Code)
for_service realm name suite kvno request =
    -- The option use-session-key isn't set: no service of this stack has a session key (RFC 4120, section 5.5.1). Test:
    -- `use session key in two bits`.
    refuse (bit_of request.ap_options.0 USE_SESSION_KEY) KRB_AP_ERR_METHOD
    (and_then (ap_fields realm name kvno request) (λ _.
    -- The etype of the ticket's enc-part is that of the service's key (RFC 4120, section 3.2.3). Test: `etype`.
    refuse (not (is_number (cipher_number suite) (enc_part_in request).etype.0)) KRB_AP_ERR_NOKEY
    (done (Ok tt))))

-- a ticket's start: its starttime, or its authtime where it has no starttime (RFC 4120, section 5.3)
abbrev pub starttime_of : EncTicketPartInner → GeneralizedTime
starttime_of part = option_map_or (λ tagged. tagged.0.0) part.starttime.0 part.auth_time.0.0

-- the ticket starts later than the moment and the skew, or its flag invalid is set (RFC 4120, section 2.2)
abbrev pub is_early : Micros → Micros → EncTicketPartInner → Bool
is_early skew moment part = is_before skew moment (seconds_of (starttime_of part) * 1000000) || bit_of part.flags.0 INVALID

-- the moment is past the ticket's end and the skew
abbrev pub is_late : Micros → Micros → EncTicketPartInner → Bool
is_late skew moment part = is_before skew (seconds_of part.endtime.0.0 * 1000000) moment

-- the ticket has started, has not ended, and isn't invalid at this moment
abbrev pub timely : Micros → Micros → EncTicketPartInner → Table (Result (Unit {0}) Code)
timely skew moment part =
    -- The ticket's starttime, or else its authtime, is at most the skew after now (RFC 4120, section 3.2.3). Test:
    -- `tgs ticket end and start`, `tgs ticket authtime in place of start` of `kdc_exchanges.txt`.
    -- The ticket's flag invalid isn't set (RFC 4120, section 3.2.3). Test: `invalid flag`.
    refuse (is_early skew moment part) KRB_AP_ERR_TKT_NYV
    -- Now is at most the skew after the ticket's endtime (RFC 4120, section 3.2.3). Test: `end past skew`.
    (refuse (is_late skew moment part) KRB_AP_ERR_TKT_EXPIRED
    (done (Ok tt)))

-- the part that the service's key opens
abbrev pub opened_part : CipherSuite → Bytes → EncryptedData → Table (Result EncTicketPartInner Code)
opened_part suite key encrypted =
    -- The ticket's enc-part decrypts under the service's key, to an EncTicketPart (RFC 4120, section 3.2.3). Test:
    -- `tgs ticket wrong key`, `tgs ticket etype`, `tgs ticket part and bytes` of `kdc_exchanges.txt`.
    ask (IsTicketPart suite key encrypted) (sole_ticket_part suite key encrypted) (done (Err KRB_AP_ERR_BAD_INTEGRITY)) (λ part.
    done (Ok part))

-- the part that the service's key opens, of a ticket that is valid at this moment
abbrev pub valid_part : CipherSuite → Bytes → Micros → Micros → EncryptedData → Table (Result EncTicketPartInner Code)
valid_part suite key skew moment encrypted =
    and_then (opened_part suite key encrypted) (λ part.
    and_then (timely skew moment part) (λ _.
    done (Ok part)))

-- the authenticator is of the ticket's client
abbrev pub is_of_client : EncTicketPartInner → AuthenticatorInner → Bool
is_of_client part authenticator =
    is_same_realm authenticator.crealm.0 part.crealm.0 && is_same_name (components authenticator.cname.0) (components part.cname.0)

-- the suite of the ticket's key, and the authenticator that this key opens for the usage
-- Not judged: the kvno of the authenticator's encryption (RFC 4120, section 5.2.9). No test: the contract alone covers it.
abbrev pub opened : EncryptionKey → ℕ → EncryptedData → Table (Result (CipherSuite × AuthenticatorInner) Code)
opened key usage encrypted =
    -- The session key's type and length are a suite's (RFC 3961, section 3). Test: `tgs ticket key type`, `tgs ticket key length` of
    -- `kdc_exchanges.txt`.
    need (suite_of key) KRB_AP_ERR_BAD_INTEGRITY (λ suite.
    -- The authenticator decrypts under the session key, to an Authenticator (RFC 4120, sections 3.2.3 and 5.5.1). Test:
    -- `authenticator wrong key`, `authenticator 00 behind`.
    ask (IsAuthenticator suite key.key_value.0 usage encrypted) (sole_authenticator suite key.key_value.0 usage encrypted) (done (Err KRB_AP_ERR_BAD_INTEGRITY)) (λ authenticator.
    done (Ok (suite, authenticator))))

-- the moment of an authenticator of the ticket's client: its ctime and cusec
-- Ignored: the name type of the authenticator's cname; names are compared by their components (RFC 4120, section 6.2). Test:
-- `tgs authenticator client type` of `kdc_exchanges.txt`.
abbrev pub authenticator_time : EncTicketPartInner → AuthenticatorInner → Table (Result Micros Code)
authenticator_time part authenticator =
    -- The authenticator-vno is 5 (RFC 4120, section 5.5.1). Test: `tgs authenticator version` of `kdc_exchanges.txt`.
    refuse (not (is_number KERBEROS_VERSION authenticator.authenticator_vno.0)) KRB_AP_ERR_BADVERSION
    -- The authenticator's crealm and cname are the ticket's (RFC 4120, section 3.2.3). Test: `tgs authenticator realm`,
    -- `tgs authenticator client` of `kdc_exchanges.txt`.
    (refuse (not (is_of_client part authenticator)) KRB_AP_ERR_BADMATCH
    -- The authenticator's cusec isn't negative (RFC 4120, section 5.2.4). Test: `microseconds -1`.
    -- The authenticator's cusec is at most 999,999 (RFC 4120, section 5.2.4). Test: `tgs authenticator microseconds` of `five_suites.txt`.
    (need (moment_at (seconds_of authenticator.ctime.0.0) authenticator.cusec.0) KRB_AP_ERR_MODIFIED (λ time.
    done (Ok time))))

-- the decrypted authenticator, with the session key's suite and the authenticator's moment; the key usage is 11 to a service, and 7 to the
-- ticket-granting service (RFC 4120, section 7.5.1)
abbrev pub authenticated : ℕ → EncTicketPartInner → EncryptedData → Table (Result Authenticated Code)
authenticated usage part encrypted =
    and_then (opened part.key.0 usage encrypted) (λ found.
    and_then (authenticator_time part found.1) (λ time.
    done (Ok (record { suite = found.0; authenticator = found.1; time = time }))))

-- what a request presents with this part and this authenticator; it requires a reply if mutual-required is set
abbrev pub presented_with : ApReqInner → EncTicketPartInner → Authenticated → Presented
presented_with request part a = record {
  part = part;
  suite = a.suite;
  authenticator = a.authenticator;
  time = a.time;
  -- The option mutual-required asks for an AP-REP (RFC 4120, section 3.2.4). Test: `honest, mutual`, `honest, options of no bits`.
  wants_reply = bit_of request.ap_options.0 MUTUAL_REQUIRED;
}

-- what the request presents whose ticket has this part
abbrev pub valid_authenticator : ApReqInner → EncTicketPartInner → Table (Result Presented Code)
valid_authenticator request part =
    -- The authenticator of a request to a service is encrypted for key usage 11 (RFC 4120, sections 5.5.1 and 7.5.1). Test:
    -- `authenticator for key usage 7` of `keytab_rows.txt`.
    and_then (authenticated (cast_unsigned w32 AP_REQ_AUTHENTICATOR) part request.authenticator.0) (λ a.
    done (Ok (presented_with request part a)))

-- what the request presents to the service of this key at a moment, without the judgement of the authenticator's time
-- Not judged: the authenticator's checksum, seq-number and authorization-data, the ticket's caddr, transited and authorization-data, and
-- the client's realm (RFC 4120, sections 3.2.3, 5.3, 5.5.1). Test: `checksum not judged`.
unfoldable pub presented : EntryRecord → Micros → Micros → ApReqInner → Table (Result Presented Code)
presented entry skew moment request =
    and_then (for_service entry.realm entry.components entry.suite entry.kvno request) (λ _.
    and_then (valid_part entry.suite entry.key skew moment (enc_part_in request)) (λ part.
    valid_authenticator request part))
