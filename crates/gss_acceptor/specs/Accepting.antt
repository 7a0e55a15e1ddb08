-- What an acceptor does with an initiator's tokens.
use Rattle.std.specs.Prelude.{◌≡◌, ◌⊎◌, List, is_some, Option, None, Some, Result, Ok, Err}
use Rattle.picky_asn1.specs.Bytes.{Bytes}
use Rattle.krb_time.specs.Units.{Micros}
use Rattle.krb_messages.specs.RandomBytes.{Random}
use Rattle.krb_service.specs.Admission.{AdmissionRecord}
use Rattle.krb_ap_requests.specs.declared.refusal.AdmitRefusal.{AdmitRefusal}
use Rattle.krb_service.specs.Admits.{Admits}
use Rattle.krb_service.specs.KeytabService.{KeytabServiceRecord}
use Rattle.gss_contexts.specs.Contexts.{ContextRecord}
use Rattle.gss_contexts.specs.declared.terms.ContextTerms.{ContextTerms}
use Rattle.decision_tables.specs.Tables.{Table, and_then, ask, done, need}
use Rattle.gss_acceptor.specs.Answers.{ap_rep_in}
use Rattle.gss_acceptor.specs.Checksum.{bound_by, initial_in}
use Rattle.gss_acceptor.specs.Concluding.{IsContextAnswered, IsGiven, IsVerified, asking}
use Rattle.gss_acceptor.specs.Contexts.{context_in, end_key, end_terms, fields_of, first_number}
use Rattle.gss_acceptor.specs.Delegation.{delegation}
use Rattle.gss_acceptor.specs.Established.{EstablishedRecord}
use Rattle.gss_acceptor.specs.Negotiation.{offered}
use Rattle.gss_acceptor.specs.Responses.{due_mic, responded}
use Rattle.gss_acceptor.specs.Tokens.{IsApReqToken, sole_ap_req}
use Rattle.gss_acceptor.specs.declared.accepted.Accepted.{Accepted}
use Rattle.gss_acceptor.specs.declared.accepted.Negotiation.{Negotiation}
use Rattle.gss_acceptor.specs.declared.accepted.Stage.{Stage}
use Rattle.gss_acceptor.specs.declared.accepted.Stage.TheVariants.{Token, Mic}
use Rattle.gss_acceptor.specs.declared.delegation.Delegated.{Delegated}
use Rattle.gss_acceptor.specs.declared.exchange.Exchange.{Exchange}
use Rattle.gss_acceptor.specs.declared.exchange.Terms.{Terms}
use Rattle.gss_acceptor.specs.declared.exchange.Tokens.{Tokens}
use Rattle.gss_acceptor.specs.declared.exchange.Unverified.{Unverified}
use Rattle.gss_acceptor.specs.declared.judge.Judged.{Judged}
use Rattle.gss_acceptor.specs.declared.mechanism.Mechanism.{Mechanism}
use Rattle.gss_acceptor.specs.declared.negotiation.Offer.{Offer}
use Rattle.gss_acceptor.specs.declared.refusal.AcceptRefusal.{AcceptRefusal}
use Rattle.gss_acceptor.specs.declared.refusal.AcceptRefusal.TheVariants.{NotAToken, Admit, Memory}
use Rattle.gss_acceptor.specs.declared.terms.AcceptorTerms.{AcceptorTerms}

-- an acceptor: its service, seen as one of a keytab, and its terms
pub record AcceptorRecord : Type 0 where
  pub service : KeytabServiceRecord
  pub terms : AcceptorTerms

-- what a token asks of an acceptor: to ask for Kerberos' first token; to admit an AP-REQ, which came bare or in a message of SPNEGO;
-- or to verify the MIC of a context's initiator
pub data Step : Type 0 where
  AskFor : Mechanism → Terms → Step
  AdmitRequest : Bytes → Option Exchange → Step
  VerifyMic : Unverified → Bytes → Step

-- the step after a token of Kerberos that is in a message of SPNEGO
unfoldable pub held : Bytes → Exchange → Table (Result Step AcceptRefusal)
held token exchange =
    -- The mechanism's token in a message of SPNEGO (mechToken, or later responseToken) is Kerberos' first token (RFC 4178, sections 4.2.1
    -- and 4.2.2; RFC 4121, section 4.1). Test: `other mechanisms, no mechanism, another token, and octets after it.`,
    -- `Not the token that is due.`.
    ask (IsApReqToken token) (sole_ap_req token) (done (Err NotAToken)) (λ message. done (Ok (AdmitRequest message (Some exchange))))

-- the step after the tokens of SPNEGO's first message. If Kerberos' token isn't there, it is asked for
abbrev pub opened_by : Mechanism → Terms → Option Bytes → Option Bytes → Table (Result Step AcceptRefusal)
-- The first answer of SPNEGO names the mechanism in supportedMech, by the identifier that was offered (RFC 4178, section 4.2.2). Test:
-- `SPNEGO: either identifier`, `Kerberos first, and no token`.
opened_by mechanism terms None mic = done (Ok (AskFor mechanism terms))
opened_by mechanism terms (Some token) mic = held token (record { supported = Some mechanism; terms = terms; mic = mic })

-- the step after what SPNEGO's first message offers
abbrev pub opened : Offer → Table (Result Step AcceptRefusal)
opened offer = opened_by offer.mechanism offer.terms offer.tokens.mechanism offer.tokens.mic

-- the step after a first token of SPNEGO
unfoldable pub negotiated : Bytes → Table (Result Step AcceptRefusal)
negotiated token = and_then (offered token) opened

-- the step after a first token: one of Kerberos, or else of SPNEGO
unfoldable pub carried : Bytes → Table (Result Step AcceptRefusal)
carried token =
    -- A first token of Kerberos is the element 60 with the mechanism's identifier, the token id 01 00 and the AP-REQ, and nothing
    -- follows it (RFC 4121, section 4.1; RFC 2743, section 3.1). Test: `No such tokens.`.
    -- A first token that isn't one of Kerberos is taken as one of SPNEGO (RFC 4178, section 4.2). Test: `SPNEGO: either identifier`.
    ask (IsApReqToken token) (sole_ap_req token) (negotiated token) (λ message. done (Ok (AdmitRequest message None)))

-- the step after the tokens of a later message, where Kerberos' first token is due
abbrev pub responded_to : Terms → Tokens → Table (Result Step AcceptRefusal)
responded_to terms tokens =
    -- A NegTokenResp has a responseToken where Kerberos' first token is due (RFC 4178, section 4.2.2).
    -- Test: `Not the token that is due.`.
    need tokens.mechanism NotAToken (λ token. held token (record { supported = None; terms = terms; mic = tokens.mic }))

-- the step where the initiator's MIC is due: the acceptor verifies it, or refuses the message that has none
abbrev pub to_verify : Unverified → Result Bytes AcceptRefusal → Result Step AcceptRefusal
to_verify unverified (Ok mic) = Ok (VerifyMic unverified mic)
to_verify unverified (Err refusal) = Err refusal

-- the step after the tokens of a later message, by what is due
abbrev pub next : Stage → Tokens → Table (Result Step AcceptRefusal)
next (Token terms) tokens = responded_to terms tokens
next (Mic unverified) tokens = done (to_verify unverified (due_mic tokens))

-- the step after a later token
unfoldable pub resumed : Negotiation → Bytes → Table (Result Step AcceptRefusal)
resumed negotiation token = and_then (responded token) (next negotiation.stage)

-- what follows a value, or its refusal
abbrev pub then_judged : {A B : Type 0} → Result A AcceptRefusal → (A → Result B AcceptRefusal) → Result B AcceptRefusal
then_judged (Ok a) rest = rest a
then_judged (Err refusal) rest = Err refusal

-- the acceptor's end on these terms, with its key
abbrev pub context_under : Random → AdmissionRecord → ContextTerms → Result ContextRecord AcceptRefusal
context_under words admission terms = then_judged (end_key terms.acceptor_subkey words admission) (λ key. context_in key terms)

-- what an admission is judged by, in this order: checksum, channel bindings, sequence number, key, suite (RFC 4121, sections 2 and 4.1.1)
abbrev pub judged : AcceptorTerms → Micros → Random → AdmissionRecord → Result Judged AcceptRefusal
judged terms skew words admission =
    then_judged (initial_in admission.checksum) (λ told.
    then_judged (bound_by terms.bindings told) (λ initial.
    then_judged (first_number admission.seq_number) (λ number.
    then_judged (context_under words admission (end_terms terms skew words admission initial.flags number)) (λ context.
    Ok (record { initial = initial; context = context })))))

-- the context of an admission that was judged so
abbrev pub established_of : AdmissionRecord → Judged → Option Delegated → EstablishedRecord
established_of admission made delegated = record {
  realm = admission.realm;
  client = admission.client;
  authtime = admission.authtime;
  starttime = admission.starttime;
  endtime = admission.endtime;
  ticket_flags = admission.flags;
  authorization_data = admission.authorization_data;
  bindings = made.initial.bindings;
  flags = made.initial.flags;
  delegated = delegated;
  context = made.context;
  reply = ap_rep_in admission.reply;
}

-- what the client of an admission that was judged so delegates
abbrev pub delegation_to : AdmissionRecord → Judged → Table (Result (Option Delegated) AcceptRefusal)
delegation_to admission made = delegation made.initial.flags admission.session admission.checksum

-- the context has what is delegated; or it is refused for its delegation, or because memory ran out
abbrev pub IsEstablishedAs : AdmissionRecord → Judged → Result EstablishedRecord AcceptRefusal → Type 0
IsEstablishedAs admission made (Ok established) =
    (delegated : Option Delegated) × (delegation_to admission made).gives (Ok delegated) × (established ≡ established_of admission made delegated)
IsEstablishedAs admission made (Err refusal) = (refusal ≡ Memory) ⊎ (delegation_to admission made).gives (Err refusal)

-- the context of an admission is established as it is judged; or it is refused as it is judged, or then for its delegation, or because
-- memory ran out
abbrev pub IsEstablished : AcceptorTerms → Micros → Random → AdmissionRecord → Result EstablishedRecord AcceptRefusal → Type 0
IsEstablished terms skew words admission (Ok established) =
    (made : Judged) × (judged terms skew words admission ≡ Ok made) × IsEstablishedAs admission made (Ok established)
IsEstablished terms skew words admission (Err refusal) =
    (judged terms skew words admission ≡ Err refusal)
    ⊎ ((made : Judged) × (judged terms skew words admission ≡ Ok made) × IsEstablishedAs admission made (Err refusal))

-- Of an AP-REQ that the service admits the context is established, or refused. What is refused after the admission is remembered: the
-- same token is then a replay (RFC 4120, section 3.2.3). Test: `Refused after the admission.`.
abbrev pub Establishes : AcceptorRecord → Micros → Bytes → Random → Result EstablishedRecord AcceptRefusal → AcceptorRecord → Type 0
Establishes acceptor moment message random result after =
    (after.terms ≡ acceptor.terms)
    × (((admission : AdmissionRecord)
    × Admits (fields_of acceptor.terms) acceptor.service moment message random (Ok admission) after.service
    × IsEstablished acceptor.terms acceptor.service.seen.skew random admission result)
    -- The service admits the AP-REQ; one that it admitted before is refused (RFC 4120, section 3.2.3). Test: `The same token`,
    -- `Another service.`.
    ⊎ ((cause : AdmitRefusal) × Admits (fields_of acceptor.terms) acceptor.service moment message random (Err cause) after.service
    × (result ≡ Err (Admit cause))))

-- what was made of the AP-REQ is answered as it came
abbrev pub IsAnsweredAs : Option Exchange → Result EstablishedRecord AcceptRefusal → Result Accepted AcceptRefusal → Type 0
IsAnsweredAs exchange (Ok established) result = IsContextAnswered exchange established result
IsAnsweredAs exchange (Err refusal) result = result ≡ Err refusal

-- the step is taken. Only an AP-REQ changes the acceptor, and of it the service alone
abbrev pub Takes : Step → AcceptorRecord → Micros → Random → Result Accepted AcceptRefusal → AcceptorRecord → Type 0
Takes (AskFor mechanism terms) acceptor moment random result after = (after ≡ acceptor) × IsGiven (asking mechanism terms) result
Takes (AdmitRequest message exchange) acceptor moment random result after =
    (made : Result EstablishedRecord AcceptRefusal) × Establishes acceptor moment message random made after × IsAnsweredAs exchange made result
Takes (VerifyMic unverified theirs) acceptor moment random result after = (after ≡ acceptor) × IsVerified unverified theirs result

-- What a token asks is done. A token that asks nothing is refused as the table says, or because memory ran out, and nothing changes.
-- Test: `No such tokens.`, `What is refused of an AP-REQ bare is refused in a negotiation.`.
abbrev pub Handles : Table (Result Step AcceptRefusal) → AcceptorRecord → Micros → Random → Result Accepted AcceptRefusal → AcceptorRecord → Type 0
Handles table acceptor moment random result after =
    ((step : Step) × table.gives (Ok step) × Takes step acceptor moment random result after)
    ⊎ ((refusal : AcceptRefusal) × (result ≡ Err refusal) × (after ≡ acceptor) × ((refusal ≡ Memory) ⊎ table.gives (Err refusal)))
