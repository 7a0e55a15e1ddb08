-- Runs of services in which no ciphertext was forged: which call an admission answers, and what follows.
use Rattle.std.specs.Prelude.{◌≡◌, ◌⊎◌, List, [], ◌∷◌, Result, Ok}
use Rattle.picky_asn1.specs.Bytes.{Bytes}
use Rattle.krb_kdc_exchanges.specs.Rows.{PkinitRows}
use Rattle.krb_ap_requests.specs.Entry.{EntryRecord}
use Rattle.krb_ap_requests.specs.declared.refusal.AdmitRefusal.{AdmitRefusal}
use Rattle.krb_service.specs.Admission.{AdmissionRecord}
use Rattle.krb_service.specs.Pair.{PairRecord}
use Rattle.krb_service.specs.Runs.{AdmissionCall}
use Rattle.krb_authenticity.specs.Among.{IsAmong}
use Rattle.krb_authenticity.specs.Authentic.{IsOfRequest, IsTicketGranted, WasAuthenticated, pair_of_request}
use Rattle.krb_authenticity.specs.Ciphertexts.{IsRequestUnforged}
use Rattle.krb_authenticity.specs.Parties.{ExchangeRecord, IsServiceSent, SentRecord, ServiceRequest}

-- no ciphertext was forged in the requests of these calls, each to the service of its entry
abbrev pub AreCallsUnforged : PkinitRows → List Bytes → List ExchangeRecord → SentRecord → List AdmissionCall → Type 0
AreCallsUnforged rows keys exchanges sent calls =
    (call : AdmissionCall) → IsAmong call calls → IsRequestUnforged rows keys exchanges sent call.entry call.message

-- the admission is the answer to this call
abbrev pub IsAdmittedAt : AdmissionCall → AdmissionRecord → List AdmissionCall → List (Result AdmissionRecord AdmitRefusal) → Type 0
IsAdmittedAt call admission [] answers = ⊥
IsAdmittedAt call admission (own ∷ calls) [] = ⊥
IsAdmittedAt call admission (own ∷ calls) (answer ∷ answers) = ((call ≡ own) × (answer ≡ Ok admission)) ⊎ IsAdmittedAt call admission calls answers

-- the session keys of all that is admitted are of these keys
abbrev pub AreSessionsKept : List Bytes → List AdmissionCall → List (Result AdmissionRecord AdmitRefusal) → Type 0
AreSessionsKept keys calls answers =
    (call : AdmissionCall) (admission : AdmissionRecord) → IsAdmittedAt call admission calls answers → IsAmong admission.session.key_value.0 keys

-- a client made the request of this admission
abbrev pub IsAsked : SentRecord → AdmissionRecord → Type 0
IsAsked sent admission = (request : ServiceRequest) × IsAmong request sent.presented × IsOfRequest request admission

-- whom a call admits the realm had authenticated, and if its session key is of these keys, the client itself made the request
pub record IsAuthenticAt (rows : PkinitRows) (keys : List Bytes) (exchanges : List ExchangeRecord) (sent : SentRecord) (entry : EntryRecord) (admission : AdmissionRecord) : Type 0 where
  pub ticket : IsTicketGranted rows exchanges entry admission
  pub client : WasAuthenticated rows keys exchanges sent admission.realm admission.client admission.authtime
  pub asked : IsAmong admission.session.key_value.0 keys → IsAsked sent admission

-- each of these pairs is that of a request that a client sent
abbrev pub AreAsked : SentRecord → List PairRecord → Type 0
AreAsked sent pairs = (pair : PairRecord) → IsAmong pair pairs → (request : ServiceRequest) × IsAmong request sent.presented × IsServiceSent request × (pair ≡ pair_of_request request)
