-- The request for a service ticket (RFC 4120, sections 3.3.1, 5.4.1). Its padata is an AP-REQ, whose authenticator has a checksum over
-- the request's body.
use Rattle.std.specs.Prelude.{◌≡◌, ℕ, false, List, [], ◌∷◌, None, Some, pos}
use Rattle.std.specs.Int.{cast_unsigned, w32}
use Rattle.std.proofs.Common.{ap, sym, ◌∙◌}
use Rattle.krb_time.specs.Units.{Micros}
use Rattle.picky_asn1.specs.Bytes.{Bytes}
use Rattle.asn1_leaves.specs.declared.date.GeneralizedTime.{GeneralizedTime}
use Rattle.krb_constants.specs.declared.key_usages.TheConstants.{TGS_REQ_PA_DATA_AP_REQ_AUTHENTICATOR, TGS_REQ_PA_DATA_AP_REQ_AUTHENTICATOR_CKSUM}
use Rattle.krb_constants.specs.declared.padata_types.TheConstants.{PA_TGS_REQ}
use Rattle.krb_constants.specs.declared.types.TheConstants.{TGS_REQ_MSG_TYPE}
use Rattle.krb_crypto.specs.Sealing.{checksum_of}
use Rattle.krb_crypto.specs.Suites.{checksum_number, cipher_checksum, cipher_confounder_size}
use Rattle.krb_crypto.specs.declared.suite.CipherSuite.{CipherSuite}
use Rattle.krb_messages.specs.declared.data_types.authenticator.AuthenticatorInner.{AuthenticatorInner}
use Rattle.krb_messages.specs.declared.data_types.checksum.Checksum.{Checksum}
use Rattle.krb_messages.specs.RandomBytes.{Random, authenticator_confounder}
use Rattle.krb_messages.specs.declared.messages.kdc_req.KdcReq.{KdcReq}
use Rattle.krb_messages.specs.declared.messages.kdc_req_body.KdcReqBody.{KdcReqBody}
use Rattle.krb_client.specs.Asked.{TgsAskedRecord}
use Rattle.krb_client.specs.Authenticators.{IsApRequest, IsAuthenticatorOf, sole_presented, sole_authenticator_of}
use Rattle.krb_client.specs.Client.{ClientRecord, CredentialRecord}
use Rattle.krb_client.specs.Messages.{tgs_request_bytes}
use Rattle.krb_messages.specs.Bodies.{body_bytes}
use Rattle.krb_client.specs.Requests.{nonce_of, listing_body, kdc_request_of, optioned_body}
use Rattle.krb_client.specs.declared.options.TicketOptions.{TicketOptions}
use Rattle.krb_tickets.specs.MethodData.{pa_data_of}

-- the checksum of the session key's suite over a text (RFC 4120, section 7.5.1)
abbrev pub checksum_over : CredentialRecord → Bytes → Checksum
checksum_over credential text = record {
  cksumtype = record { 0 = pos (checksum_number (cipher_checksum credential.suite)) };
  checksum = record { 0 = checksum_of (cipher_checksum credential.suite) credential.key (cast_unsigned w32 TGS_REQ_PA_DATA_AP_REQ_AUTHENTICATOR_CKSUM) text };
}

-- the AP-REQ of a TGS request: the authenticator has the checksum over the text and no subkey, and is encrypted for the key usage of
-- TGS requests (RFC 4120, section 7.5.1)
pub record Authenticates (client : ClientRecord) (credential : CredentialRecord) (moment : Micros) (confounder text request : Bytes) : Type 0 where
  pub authenticator : AuthenticatorInner
  pub authenticates : IsAuthenticatorOf client moment (Some (checksum_over credential text)) None authenticator
  pub presents : IsApRequest credential (cast_unsigned w32 TGS_REQ_PA_DATA_AP_REQ_AUTHENTICATOR) false authenticator confounder request

pub sole_authentication : (client : ClientRecord) (credential : CredentialRecord) (moment : Micros) (confounder text a b : Bytes)
    → Authenticates client credential moment confounder text a → Authenticates client credential moment confounder text b → a ≡ b
sole_authentication client credential moment confounder text a b x y =
    sole_presented credential (cast_unsigned w32 TGS_REQ_PA_DATA_AP_REQ_AUTHENTICATOR) false confounder x.authenticator y.authenticator a b
    (sole_authenticator_of client moment (Some (checksum_over credential text)) None x.authenticator y.authenticator x.authenticates y.authenticates)
    x.presents y.presents

-- the request's body, which lists these suites; the client's name is in the ticket alone
abbrev pub further_body : ClientRecord → List CipherSuite → List Bytes → GeneralizedTime → ℕ → KdcReqBody
further_body client suites service till nonce = listing_body client false suites service till nonce

-- the same body with options
abbrev pub further_body_with : ClientRecord → List CipherSuite → TicketOptions → List Bytes → GeneralizedTime → ℕ → KdcReqBody
further_body_with client suites options service till nonce = optioned_body client false suites options service till nonce

-- the request with its AP request, PA-TGS-REQ (RFC 4120, section 7.5.2)
abbrev pub further_request : ClientRecord → List CipherSuite → List Bytes → GeneralizedTime → ℕ → Bytes → KdcReq
further_request client suites service till nonce request =
    kdc_request_of TGS_REQ_MSG_TYPE (pa_data_of PA_TGS_REQ request) (further_body client suites service till nonce)

-- the same request with options
abbrev pub further_request_with : ClientRecord → List CipherSuite → TicketOptions → List Bytes → GeneralizedTime → ℕ → Bytes → KdcReq
further_request_with client suites options service till nonce request =
    kdc_request_of TGS_REQ_MSG_TYPE (pa_data_of PA_TGS_REQ request) (further_body_with client suites options service till nonce)

-- that request, which lists the client's suite alone
abbrev pub tgs_request_of : ClientRecord → List Bytes → GeneralizedTime → ℕ → Bytes → KdcReq
tgs_request_of client service till nonce request = further_request client (client.suite ∷ []) service till nonce request

-- the encoding of the body of a request that lists the client's suite alone
abbrev pub tgs_body_bytes : ClientRecord → List Bytes → GeneralizedTime → ℕ → Bytes
tgs_body_bytes client service till nonce = body_bytes (further_body client (client.suite ∷ []) service till nonce)

-- The bytes are the client's request for a ticket for the service till that time, by the credential, at the moment; of the random bytes
-- the first are the confounder. Its authenticator has a checksum over the body, so nobody but the client chooses the etypes, which are
-- those of the suites.
pub record AsksTgsOfSuites (client : ClientRecord) (suites : List CipherSuite) (credential : CredentialRecord) (service : List Bytes) (till : GeneralizedTime) (moment : Micros) (words : Random) (bytes : Bytes) : Type 0 where
  pub request : Bytes
  pub authenticates : Authenticates client credential moment (authenticator_confounder (cipher_confounder_size credential.suite) words) (body_bytes (further_body client suites service till (nonce_of words))) request
  pub encoding : bytes ≡ tgs_request_bytes (further_request client suites service till (nonce_of words) request)

-- The bytes are such a request with options, over which its authenticator has a checksum, too.
pub record AsksTgsWith (client : ClientRecord) (suites : List CipherSuite) (options : TicketOptions) (credential : CredentialRecord) (service : List Bytes) (till : GeneralizedTime) (moment : Micros) (words : Random) (bytes : Bytes) : Type 0 where
  pub request : Bytes
  pub authenticates : Authenticates client credential moment (authenticator_confounder (cipher_confounder_size credential.suite) words) (body_bytes (further_body_with client suites options service till (nonce_of words))) request
  pub encoding : bytes ≡ tgs_request_bytes (further_request_with client suites options service till (nonce_of words) request)

-- the bytes are such a request, and it lists the client's suite alone
abbrev pub AsksTgs : ClientRecord → CredentialRecord → List Bytes → GeneralizedTime → Micros → Random → Bytes → Type 0
AsksTgs client credential service till moment words bytes = AsksTgsOfSuites client (client.suite ∷ []) credential service till moment words bytes

-- what the client remembers of it
abbrev pub tgs_asked : CredentialRecord → List Bytes → Random → TgsAskedRecord
tgs_asked credential service words = record { service = service; nonce = nonce_of words; suite = credential.suite; key = credential.key }

-- there is one such request at most
pub sole_tgs_of_suites : (client : ClientRecord) (suites : List CipherSuite) (credential : CredentialRecord) (service : List Bytes) (till : GeneralizedTime) (moment : Micros) (words : Random) (a b : Bytes)
    → AsksTgsOfSuites client suites credential service till moment words a → AsksTgsOfSuites client suites credential service till moment words b → a ≡ b
sole_tgs_of_suites client suites credential service till moment words a b x y =
    x.encoding
    ∙ ap (λ request. tgs_request_bytes (further_request client suites service till (nonce_of words) request))
    (sole_authentication client credential moment (authenticator_confounder (cipher_confounder_size credential.suite) words) (body_bytes (further_body client suites service till (nonce_of words))) x.request y.request x.authenticates y.authenticates)
    ∙ sym y.encoding

pub sole_tgs_with : (client : ClientRecord) (suites : List CipherSuite) (options : TicketOptions) (credential : CredentialRecord) (service : List Bytes) (till : GeneralizedTime) (moment : Micros) (words : Random) (a b : Bytes)
    → AsksTgsWith client suites options credential service till moment words a → AsksTgsWith client suites options credential service till moment words b → a ≡ b
sole_tgs_with client suites options credential service till moment words a b x y =
    x.encoding
    ∙ ap (λ request. tgs_request_bytes (further_request_with client suites options service till (nonce_of words) request))
    (sole_authentication client credential moment (authenticator_confounder (cipher_confounder_size credential.suite) words) (body_bytes (further_body_with client suites options service till (nonce_of words))) x.request y.request x.authenticates y.authenticates)
    ∙ sym y.encoding

pub sole_tgs_request : (client : ClientRecord) (credential : CredentialRecord) (service : List Bytes) (till : GeneralizedTime) (moment : Micros) (words : Random) (a b : Bytes)
    → AsksTgs client credential service till moment words a → AsksTgs client credential service till moment words b → a ≡ b
sole_tgs_request client credential = sole_tgs_of_suites client (client.suite ∷ []) credential
