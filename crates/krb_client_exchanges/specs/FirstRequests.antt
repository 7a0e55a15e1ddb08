-- An AS request without padata (RFC 4120, sections 3.1.1, 5.4.1): its KDC replies at once, or says how the client authenticates itself.
use Rattle.std.specs.Prelude.{◌≡◌, List, None, pos, refl}
use Rattle.picky_asn1.specs.Bytes.{Bytes}
use Rattle.asn1_leaves.specs.declared.date.GeneralizedTime.{GeneralizedTime}
use Rattle.krb_constants.specs.declared.types.TheConstants.{AS_REQ_MSG_TYPE, KERBEROS_VERSION}
use Rattle.krb_crypto.specs.declared.suite.CipherSuite.{CipherSuite}
use Rattle.krb_messages.specs.RandomBytes.{Random}
use Rattle.krb_messages.specs.declared.messages.kdc_req.KdcReq.{KdcReq}
use Rattle.krb_messages.specs.declared.messages.kdc_req_body.KdcReqBody.{KdcReqBody}
use Rattle.krb_client.specs.AsRequest.{as_body_of_suites, as_body_with}
use Rattle.krb_client.specs.Client.{ClientRecord}
use Rattle.krb_client.specs.Messages.{as_request_bytes}
use Rattle.krb_client.specs.Options.{plain_options}
use Rattle.krb_client.specs.declared.options.TicketOptions.{TicketOptions}

-- An AS request with this body, and without padata.
abbrev pub bare_request : KdcReqBody → KdcReq
bare_request body = record {
  pvno = record { 0 = pos KERBEROS_VERSION };
  msg_type = record { 0 = pos AS_REQ_MSG_TYPE };
  padata = record { 0 = None };
  req_body = record { 0 = body };
}

-- The encoding of the client's first request, which lists the suites.
abbrev pub first_request_bytes : ClientRecord → List CipherSuite → List Bytes → GeneralizedTime → Random → Bytes
first_request_bytes client suites service till words = as_request_bytes (bare_request (as_body_of_suites client suites service till words))

-- The same with options (RFC 4120, section 5.4.1).
abbrev pub first_request_bytes_with : ClientRecord → List CipherSuite → TicketOptions → List Bytes → GeneralizedTime → Random → Bytes
first_request_bytes_with client suites options service till words = as_request_bytes (bare_request (as_body_with client suites options service till words))

-- Without an option it is that request.
pub plain_first : (client : ClientRecord) (suites : List CipherSuite) (service : List Bytes) (till : GeneralizedTime) (words : Random)
    → first_request_bytes_with client suites plain_options service till words ≡ first_request_bytes client suites service till words
plain_first client suites service till words = refl
