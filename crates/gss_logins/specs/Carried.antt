-- The AP-REQ that a first token carries, and contexts of clients that the realm had authenticated.
use Rattle.std.specs.Prelude.{◌≡◌, List, Ok}
use Rattle.picky_asn1.specs.Bytes.{Bytes}
use Rattle.krb_messages.specs.Messages.{IsApReq}
use Rattle.krb_messages.specs.declared.messages.ap_req.ApReqInner.{ApReqInner}
use Rattle.krb_kdc_exchanges.specs.Rows.{PkinitRows}
use Rattle.krb_ap_requests.specs.ApTable.{enc_part_in}
use Rattle.krb_ap_requests.specs.Presents.{Choice}
use Rattle.krb_service.specs.Admission.{AdmissionRecord}
use Rattle.krb_service.specs.ChosenEntry.{chosen}
use Rattle.krb_authenticity.specs.Authentic.{WasAuthenticated}
use Rattle.krb_authenticity.specs.Ciphertexts.{IsRequestUnforged}
use Rattle.krb_authenticity.specs.Parties.{ExchangeRecord, SentRecord}
use Rattle.krb_authenticity.specs.Runs.{IsAuthenticAt}
use Rattle.gss_acceptor.specs.Accepting.{AcceptorRecord, AdmitRequest, AskFor, IsEstablished, Step, VerifyMic, carried}
use Rattle.gss_acceptor.specs.Chosen.{IsChosen, IsChosenAfter}
use Rattle.gss_acceptor.specs.Established.{EstablishedRecord}
use Rattle.gss_acceptor.specs.declared.accepted.Accepted.{Accepted}

-- the step is to admit this AP-REQ
abbrev pub IsToAdmit : Bytes → Step → Type 0
IsToAdmit message (AskFor mechanism terms) = ⊥
IsToAdmit message (AdmitRequest own exchange) = own ≡ message
IsToAdmit message (VerifyMic unverified theirs) = ⊥

-- the step is to verify the MIC of this context's initiator
abbrev pub IsToVerify : EstablishedRecord → Step → Type 0
IsToVerify established (AskFor mechanism terms) = ⊥
IsToVerify established (AdmitRequest own exchange) = ⊥
IsToVerify established (VerifyMic unverified theirs) = unverified.established ≡ established

-- the token carries this AP-REQ, bare or in a message of SPNEGO
abbrev pub Carries : Bytes → Bytes → Type 0
Carries token message = (step : Step) × (carried token).gives (Ok step) × IsToAdmit message step

-- none of the ciphertexts was forged that the acceptor opens of this message, by the entry that judges it
abbrev pub IsMessageUnforged : PkinitRows → List Bytes → List ExchangeRecord → SentRecord → AcceptorRecord → Bytes → Type 0
IsMessageUnforged rows keys exchanges sent acceptor message =
    (request : ApReqInner) → IsApReq message request → IsRequestUnforged rows keys exchanges sent (chosen acceptor.service.entries (enc_part_in request)) message

-- the context is as some client chose that the realm had authenticated
pub record IsAuthenticContext (rows : PkinitRows) (keys : List Bytes) (exchanges : List ExchangeRecord) (sent : SentRecord) (established : EstablishedRecord) : Type 0 where
  pub choice : Choice
  pub is_chosen : IsChosen choice established
  pub client : WasAuthenticated rows keys exchanges sent established.realm established.client established.authtime

-- so is the context that is established, or that waits for its initiator's MIC
abbrev pub IsAuthenticAfter : PkinitRows → List Bytes → List ExchangeRecord → SentRecord → Accepted → Type 0
IsAuthenticAfter rows keys exchanges sent accepted =
    (choice : Choice) × IsChosenAfter choice accepted
    × WasAuthenticated rows keys exchanges sent choice.part.crealm.0 choice.part.cname.0 choice.part.auth_time.0.0

-- the context is made of an admission of this AP-REQ, whose client the realm had authenticated. If the session key is one of these, the client
-- itself asked for it: the flags, the bindings, the subkey and the first number are those of its request
pub record IsAskedContext (rows : PkinitRows) (keys : List Bytes) (exchanges : List ExchangeRecord) (sent : SentRecord) (acceptor : AcceptorRecord) (message random : Bytes) (established : EstablishedRecord) : Type 0 where
  pub request : ApReqInner
  pub read : IsApReq message request
  pub admission : AdmissionRecord
  pub is_made : IsEstablished acceptor.terms acceptor.service.seen.skew random admission (Ok established)
  pub authentic : IsAuthenticAt rows keys exchanges sent (chosen acceptor.service.entries (enc_part_in request)) admission
