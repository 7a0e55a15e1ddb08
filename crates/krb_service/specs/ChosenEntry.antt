-- The entry of its keytab by which a service judges a request (RFC 4120, section 3.2.3).
use Rattle.std.specs.Prelude.{◌≡◌, Bool, true, false, ◌&&◌, List, [], get_or, if◌then◌else◌}
use Rattle.std.specs.List.{find, list_any}
use Rattle.std.specs.Option.{unwrap_or}
use Rattle.picky_asn1.specs.BitString.{bit_of}
use Rattle.picky_asn1.specs.Bytes.{Bytes}
use Rattle.picky_asn1.specs.Numbers.{is_number}
use Rattle.krb_constants.specs.declared.ap_options.TheConstants.{USE_SESSION_KEY}
use Rattle.krb_constants.specs.declared.error_codes.TheConstants.{KRB_AP_ERR_BADKEYVER, KRB_AP_ERR_NOKEY}
use Rattle.krb_constants.specs.declared.types.TheConstants.{AP_REQ_MSG_TYPE}
use Rattle.krb_crypto.specs.Suites.{cipher_number}
use Rattle.krb_crypto.specs.declared.suite.CipherSuite.TheVariants.{Aes256CtsHmacSha196}
use Rattle.krb_messages.specs.declared.data_types.encrypted_data.EncryptedData.{EncryptedData}
use Rattle.krb_messages.specs.Refusals.{Code}
use Rattle.krb_messages.specs.Messages.{IsApReq}
use Rattle.krb_messages.specs.declared.messages.ap_req.ApReqInner.{ApReqInner}
use Rattle.krb_ap_requests.specs.ApTable.{enc_part_in, is_for, is_version_5, kvno_fits, ticket_in}
use Rattle.krb_ap_requests.specs.Entry.{EntryRecord}
use Rattle.krb_ap_requests.specs.Presents.{Choice, Presents}

-- the entry has the kvno of a ticket's enc-part, or that has none
abbrev pub has_kvno_of : EncryptedData → EntryRecord → Bool
has_kvno_of encrypted entry = kvno_fits entry.kvno encrypted

-- An entry fits a ticket if it has the kvno and the etype of its enc-part. Of a ticket without a kvno the etype alone counts.
abbrev pub is_fitting : EncryptedData → EntryRecord → Bool
is_fitting encrypted entry = has_kvno_of encrypted entry && is_number (cipher_number entry.suite) encrypted.etype.0

-- some entry fits
abbrev pub is_fitted : List EntryRecord → EncryptedData → Bool
is_fitted entries encrypted = list_any (is_fitting encrypted) entries

-- what no entries have as their first; a service has at least one
abbrev pub no_entry : EntryRecord
no_entry = record { realm = []; components = []; suite = Aes256CtsHmacSha196; key = []; kvno = 0 }

-- The entry of a keytab by which a request is judged whose ticket has this enc-part.
unfoldable pub chosen : List EntryRecord → EncryptedData → EntryRecord
chosen entries encrypted =
    -- The entry by which a request is judged is the first that fits its ticket (RFC 4120, section 3.2.3). Test: `old key`, `new key`,
    -- `no kvno`, `second suite` of `keytab_rows.txt`.
    unwrap_or (find (is_fitting encrypted) entries)
    -- Where none fits, it is the first of the ticket's kvno, or else the first of all (RFC 4120, section 3.2.3). Test:
    -- `other etype of the second kvno`, `unknown kvno` of `keytab_rows.txt`.
    (unwrap_or (find (has_kvno_of encrypted) entries) (get_or entries 0 no_entry))

-- The code for a ticket that no entry fits is KRB_AP_ERR_NOKEY where some entry has its kvno, or it has none (RFC 4120, section 3.2.3).
-- Test: `other etype`, `etype of another kvno`, `other etype and no kvno` of `keytab_rows.txt`.
-- The code for a ticket that no entry fits is KRB_AP_ERR_BADKEYVER where it has a kvno that no entry has (RFC 4120, section 3.2.3). Test:
-- `unknown kvno`, `unknown kvno and other etype` of `keytab_rows.txt`.
abbrev pub unfit_code_of : List EntryRecord → EncryptedData → Code
unfit_code_of entries encrypted = if list_any (has_kvno_of encrypted) entries then KRB_AP_ERR_NOKEY else KRB_AP_ERR_BADKEYVER

-- The bytes are an AP-REQ that presents what a client chose, under the key of the entry by which it is judged (RFC 4120, section 3.2.3).
abbrev pub IsPresentedTo : List EntryRecord → Choice → Bytes → Type 0
IsPresentedTo entries choice message =
    (request : ApReqInner) × IsApReq message request × Presents (chosen entries (enc_part_in request)).key choice message

-- The request is one for the service of this realm and name, as the rows before that of the kvno want it.
pub record IsOtherwiseFor (realm : Bytes) (components : List Bytes) (request : ApReqInner) : Type 0 where
  pub method : bit_of request.ap_options.0 USE_SESSION_KEY ≡ false
  pub version : is_version_5 request ≡ true
  pub kind : is_number AP_REQ_MSG_TYPE request.msg_type.0 ≡ true
  pub service : is_for realm components (ticket_in request) ≡ true
