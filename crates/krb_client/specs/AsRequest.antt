-- The request for a first ticket (RFC 4120, sections 3.1.1, 5.4.1), with the padata by which the client authenticates itself.
use Rattle.std.specs.Prelude.{◌≡◌, ◌⊎◌, false, true, List, [], ◌∷◌}
use Rattle.std.proofs.Common.{ap, sym, ◌∙◌}
use Rattle.krb_time.specs.Units.{Micros}
use Rattle.picky_asn1.specs.Bytes.{Bytes}
use Rattle.asn1_leaves.specs.declared.date.GeneralizedTime.{GeneralizedTime}
use Rattle.krb_constants.specs.declared.types.TheConstants.{AS_REQ_MSG_TYPE}
use Rattle.krb_crypto.specs.declared.suite.CipherSuite.{CipherSuite}
use Rattle.krb_messages.specs.declared.data_types.pa_data.PaData.{PaData}
use Rattle.krb_messages.specs.RandomBytes.{Random}
use Rattle.krb_messages.specs.declared.messages.kdc_req.KdcReq.{KdcReq}
use Rattle.krb_messages.specs.declared.messages.kdc_req_body.KdcReqBody.{KdcReqBody}
use Rattle.krb_realm_accounts.specs.Names.{are_components}
use Rattle.krb_client.specs.Asked.{AsAskedRecord, agreement_part}
use Rattle.krb_client.specs.Client.{ClientRecord}
use Rattle.krb_client.specs.Means.{IsUnshown, MeansRecord}
use Rattle.krb_client.specs.Messages.{as_request_bytes}
use Rattle.krb_client.specs.Requests.{nonce_of, listing_body, kdc_request_of, optioned_body}
use Rattle.krb_client.specs.declared.options.TicketOptions.{TicketOptions}
use Rattle.krb_client.specs.declared.refusal.AskRefusal.{AskRefusal}
use Rattle.krb_client.specs.declared.refusal.AskRefusal.TheVariants.{BadName}

-- the body of a request that lists these suites, in which the client is named
abbrev pub as_body_of_suites : ClientRecord → List CipherSuite → List Bytes → GeneralizedTime → Random → KdcReqBody
as_body_of_suites client suites service till words = listing_body client true suites service till (nonce_of words)

-- the same body with options
abbrev pub as_body_with : ClientRecord → List CipherSuite → TicketOptions → List Bytes → GeneralizedTime → Random → KdcReqBody
as_body_with client suites options service till words = optioned_body client true suites options service till (nonce_of words)

-- the body of a request that lists the client's suite alone
abbrev pub as_body : ClientRecord → List Bytes → GeneralizedTime → Random → KdcReqBody
as_body client service till words = as_body_of_suites client (client.suite ∷ []) service till words

-- the request with its padata
abbrev pub as_request_of : PaData → KdcReqBody → KdcReq
as_request_of padata body = kdc_request_of AS_REQ_MSG_TYPE padata body

-- The bytes are the client's request for a ticket for the service till that time, at the moment, with the padata of its means. Its etypes
-- are those of the suites, of which the KDC chooses one (RFC 4120, section 3.1.3).
pub record AsksAsOfSuites (client : ClientRecord) (suites : List CipherSuite) (means : MeansRecord) (service : List Bytes) (till : GeneralizedTime) (moment : Micros) (words : Random) (bytes : Bytes) : Type 0 where
  pub padata : PaData
  pub shown : means.asks (as_body_of_suites client suites service till words) moment words padata
  pub encoding : bytes ≡ as_request_bytes (as_request_of padata (as_body_of_suites client suites service till words))

-- the bytes are such a request with options
pub record AsksAsWith (client : ClientRecord) (suites : List CipherSuite) (options : TicketOptions) (means : MeansRecord) (service : List Bytes) (till : GeneralizedTime) (moment : Micros) (words : Random) (bytes : Bytes) : Type 0 where
  pub padata : PaData
  pub shown : means.asks (as_body_with client suites options service till words) moment words padata
  pub encoding : bytes ≡ as_request_bytes (as_request_of padata (as_body_with client suites options service till words))

-- the bytes are such a request, and it lists the client's suite alone
abbrev pub AsksAs : ClientRecord → MeansRecord → List Bytes → GeneralizedTime → Micros → Random → Bytes → Type 0
AsksAs client means service till moment words bytes = AsksAsOfSuites client (client.suite ∷ []) means service till moment words bytes

-- what the client remembers of it
abbrev pub as_asked : List Bytes → Micros → Random → AsAskedRecord
as_asked service moment words = record {
  service = service;
  nonce = nonce_of words;
  moment = moment;
  agreement = agreement_part words;
}

-- Why the client doesn't ask so: the service's name is none, or there is no padata.
abbrev pub IsUnaskedOfSuites : ClientRecord → List CipherSuite → MeansRecord → List Bytes → GeneralizedTime → Micros → Random → AskRefusal → Type 0
IsUnaskedOfSuites client suites means service till moment words refusal =
    ((refusal ≡ BadName) × (are_components service ≡ false)) ⊎ IsUnshown means (as_body_of_suites client suites service till words) moment words refusal

-- why the client doesn't ask with options
abbrev pub IsUnaskedWith : ClientRecord → List CipherSuite → TicketOptions → MeansRecord → List Bytes → GeneralizedTime → Micros → Random → AskRefusal → Type 0
IsUnaskedWith client suites options means service till moment words refusal =
    ((refusal ≡ BadName) × (are_components service ≡ false)) ⊎ IsUnshown means (as_body_with client suites options service till words) moment words refusal

-- why the client doesn't ask for its suite alone
abbrev pub IsUnasked : ClientRecord → MeansRecord → List Bytes → GeneralizedTime → Micros → Random → AskRefusal → Type 0
IsUnasked client means service till moment words refusal = IsUnaskedOfSuites client (client.suite ∷ []) means service till moment words refusal

-- there is one such request at most
pub sole_as_of_suites : (client : ClientRecord) (suites : List CipherSuite) (means : MeansRecord) (service : List Bytes) (till : GeneralizedTime) (moment : Micros) (words : Random) (a b : Bytes)
    → AsksAsOfSuites client suites means service till moment words a → AsksAsOfSuites client suites means service till moment words b → a ≡ b
sole_as_of_suites client suites means service till moment words a b x y =
    x.encoding
    ∙ ap (λ padata. as_request_bytes (as_request_of padata (as_body_of_suites client suites service till words)))
    (means.sole_asks (as_body_of_suites client suites service till words) moment words x.padata y.padata x.shown y.shown)
    ∙ sym y.encoding

pub sole_as_with : (client : ClientRecord) (suites : List CipherSuite) (options : TicketOptions) (means : MeansRecord) (service : List Bytes) (till : GeneralizedTime) (moment : Micros) (words : Random) (a b : Bytes)
    → AsksAsWith client suites options means service till moment words a → AsksAsWith client suites options means service till moment words b → a ≡ b
sole_as_with client suites options means service till moment words a b x y =
    x.encoding
    ∙ ap (λ padata. as_request_bytes (as_request_of padata (as_body_with client suites options service till words)))
    (means.sole_asks (as_body_with client suites options service till words) moment words x.padata y.padata x.shown y.shown)
    ∙ sym y.encoding

pub sole_as_request : (client : ClientRecord) (means : MeansRecord) (service : List Bytes) (till : GeneralizedTime) (moment : Micros) (words : Random) (a b : Bytes)
    → AsksAs client means service till moment words a → AsksAs client means service till moment words b → a ≡ b
sole_as_request client means = sole_as_of_suites client (client.suite ∷ []) means
