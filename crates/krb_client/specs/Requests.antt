-- Requests to a KDC (RFC 4120, section 5.4.1): what those for a first ticket and for further ones have in common.
use Rattle.std.specs.Prelude.{◌≡◌, ℕ, ℤ, ◌%◌, Bool, List, [], ◌∷◌, Option, None, Some, map, pos, refl, if◌then◌else◌}
use Rattle.std.specs.Int.{from_be_bytes, w32}
use Rattle.picky_asn1.specs.BitString.{Bits}
use Rattle.picky_asn1.specs.Bytes.{Bytes}
use Rattle.picky_asn1_der.specs.declared.wrapper.ExplicitContextTag.{ExplicitContextTag}
use Rattle.asn1_leaves.specs.declared.date.GeneralizedTime.{GeneralizedTime}
use Rattle.krb_constants.specs.declared.types.TheConstants.{KERBEROS_VERSION, NT_PRINCIPAL, NT_SRV_INST}
use Rattle.krb_crypto.specs.Suites.{cipher_number}
use Rattle.krb_crypto.specs.declared.suite.CipherSuite.{CipherSuite}
use Rattle.krb_messages.specs.declared.data_types.pa_data.PaData.{PaData}
use Rattle.krb_messages.specs.declared.data_types.principal_name.PrincipalName.{PrincipalName}
use Rattle.krb_messages.specs.RandomBytes.{Random, nonce_bytes}
use Rattle.krb_messages.specs.declared.messages.kdc_req.KdcReq.{KdcReq}
use Rattle.krb_messages.specs.declared.messages.kdc_req_body.KdcReqBody.{KdcReqBody}
use Rattle.krb_client.specs.Client.{ClientRecord}
use Rattle.krb_client.specs.Held.{principal_name}
use Rattle.krb_client.specs.Options.{options_of, plain_options, rtime_of}
use Rattle.krb_client.specs.declared.options.TicketOptions.{TicketOptions}

-- the nonce: four of the random bytes, big-endian, of which 31 bits count
abbrev pub nonce_of : Random → ℕ
nonce_of words = from_be_bytes w32 (nonce_bytes words) % 2147483648

-- no option is asked for
abbrev pub no_options : Bits
no_options = record { octets = 0 ∷ 0 ∷ 0 ∷ 0 ∷ []; unused = 0 }

-- the client's name, where the request has it
abbrev pub name_where : ClientRecord → Bool → Option (ExplicitContextTag 1 PrincipalName)
name_where client named = if named then Some (record { 0 = principal_name NT_PRINCIPAL client.components }) else None

-- the etypes of suites, in their order
abbrev pub etypes : List CipherSuite → List ℤ
etypes suites = map (λ suite. pos (cipher_number suite)) suites

-- the client, where it is named, a service of its realm, the end asked for, the nonce, and the etypes of the suites
abbrev pub listing_body : ClientRecord → Bool → List CipherSuite → List Bytes → GeneralizedTime → ℕ → KdcReqBody
listing_body client named suites service till nonce = record {
  kdc_options = record { 0 = no_options };
  cname = record { 0 = name_where client named };
  realm = record { 0 = client.realm };
  sname = record { 0 = Some (record { 0 = principal_name NT_SRV_INST service }) };
  from = record { 0 = None };
  till = record { 0 = record { 0 = till } };
  rtime = record { 0 = None };
  nonce = record { 0 = pos nonce };
  etype = record { 0 = etypes suites };
  addresses = record { 0 = None };
  enc_authorization_data = record { 0 = None };
  additional_tickets = record { 0 = None };
}

-- the same body, with options and rtime
abbrev pub optioned_body : ClientRecord → Bool → List CipherSuite → TicketOptions → List Bytes → GeneralizedTime → ℕ → KdcReqBody
optioned_body client named suites options service till nonce =
    record (listing_body client named suites service till nonce) { kdc_options = record { 0 = options_of options }; rtime = record { 0 = rtime_of options } }

-- without an option it is that body
plain_body : (client : ClientRecord) (named : Bool) (suites : List CipherSuite) (service : List Bytes) (till : GeneralizedTime) (nonce : ℕ)
    → optioned_body client named suites plain_options service till nonce ≡ listing_body client named suites service till nonce
plain_body client named suites service till nonce = refl

-- the body with the client's suite as the only one
abbrev pub request_body : ClientRecord → Bool → List Bytes → GeneralizedTime → ℕ → KdcReqBody
request_body client named service till nonce = listing_body client named (client.suite ∷ []) service till nonce

-- the request of a type, with one PA-DATA as its padata
abbrev pub kdc_request_of : ℕ → PaData → KdcReqBody → KdcReq
kdc_request_of kind pa_data body = record {
  pvno = record { 0 = pos KERBEROS_VERSION };
  msg_type = record { 0 = pos kind };
  padata = record { 0 = Some (record { 0 = pa_data ∷ [] }) };
  req_body = record { 0 = body };
}
