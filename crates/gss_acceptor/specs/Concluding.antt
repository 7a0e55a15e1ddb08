-- How a negotiation goes on and ends: with the exchange of MICs where it is due (RFC 4178, section 5).
use Rattle.std.specs.Prelude.{◌≡◌, ◌⊎◌, ◌+◌, Bool, is_some, Option, None, Some, Result, Ok, Err, if◌then◌else◌, MatchBool, MatchOption}
use Rattle.picky_asn1.specs.Bytes.{Bytes}
use Rattle.gss_contexts.specs.Contexts.{ContextRecord, last_number, sender_of}
use Rattle.gss_contexts.specs.Judging.{IsMicRefusal, TakesMic}
use Rattle.gss_contexts.specs.Tokens.{WritesMic}
use Rattle.gss_contexts.specs.declared.refusal.TokenRefusal.{TokenRefusal}
use Rattle.gss_contexts.specs.declared.refusal.TokenRefusal.TheVariants as token_refusal
use Rattle.gss_acceptor.specs.Answers.{neg_token_resp}
use Rattle.gss_acceptor.specs.Established.{EstablishedRecord}
use Rattle.gss_acceptor.specs.Responses.{due_mic}
use Rattle.gss_acceptor.specs.declared.accepted.Accepted.{Accepted}
use Rattle.gss_acceptor.specs.declared.accepted.Accepted.TheVariants.{ContinueNeeded, Established}
use Rattle.gss_acceptor.specs.declared.accepted.Stage.{Stage}
use Rattle.gss_acceptor.specs.declared.accepted.Stage.TheVariants as stage
use Rattle.gss_acceptor.specs.declared.answer.NegState.{NegState}
use Rattle.gss_acceptor.specs.declared.answer.NegState.TheVariants.{AcceptCompleted, AcceptIncomplete, RequestMic}
use Rattle.gss_acceptor.specs.declared.exchange.Exchange.{Exchange}
use Rattle.gss_acceptor.specs.declared.exchange.Terms.{Terms}
use Rattle.gss_acceptor.specs.declared.exchange.Tokens.{Tokens}
use Rattle.gss_acceptor.specs.declared.exchange.Unverified.{Unverified}
use Rattle.gss_acceptor.specs.declared.mechanism.Mechanism.{Mechanism}
use Rattle.gss_acceptor.specs.declared.refusal.AcceptRefusal.{AcceptRefusal}
use Rattle.gss_acceptor.specs.declared.refusal.AcceptRefusal.TheVariants.{Memory, Mic, NoMic}

-- this is accepted, or memory ran out
abbrev pub IsGiven : Accepted → Result Accepted AcceptRefusal → Type 0
IsGiven accepted result = (result ≡ Err Memory) ⊎ (result ≡ Ok accepted)

-- the answer after which the negotiation goes on: the token to send, and what is due next
abbrev pub waiting : Bytes → Stage → Accepted
waiting reply at = ContinueNeeded (record { reply = reply; negotiation = record { stage = at } })

-- the state of an answer that asks for Kerberos' first token
abbrev pub asking_state : Bool → NegState
asking_state required = if required then RequestMic else AcceptIncomplete

-- Where Kerberos' token isn't there, the answer names Kerberos and has no token. Its state is request-mic if MICs are due, and else
-- accept-incomplete (RFC 4178, section 4.2.2). Test: `Kerberos first, and no token`, `SPNEGO: another mechanism`.
abbrev pub asking : Mechanism → Terms → Accepted
asking mechanism terms = waiting (neg_token_resp (asking_state terms.required) (Some mechanism) None None) (stage.Token terms)

-- the context is handed out: the answer completes the negotiation, with the mechanism's token and the acceptor's MIC if there are such
abbrev pub completed : EstablishedRecord → Option Mechanism → Option Bytes → Accepted
completed established supported mic =
    Established (record established { reply = Some (neg_token_resp AcceptCompleted supported established.reply mic) })

-- Where the initiator's MIC of the list came, the end takes it and then makes its own (RFC 4178, section 5). Each uses up a sequence number
-- of the context (RFC 4121, section 4.2.6.1). Test: `MICs that aren't due,`.
pub record ExchangesMics (before after : ContextRecord) (list theirs own : Bytes) : Type 0 where
  pub between : ContextRecord
  pub takes : TakesMic before between list theirs
  pub makes : WritesMic (sender_of between) between.sending list own
  pub moved : after ≡ record between { sending = between.sending + 1 }

-- no MIC is made
abbrev pub IsUnmade : ContextRecord → TokenRefusal → Type 0
IsUnmade end cause = (cause ≡ token_refusal.Memory) ⊎ ((cause ≡ token_refusal.NumbersUsedUp) × (end.sending ≡ last_number))

-- why they aren't exchanged
abbrev pub IsNoExchange : ContextRecord → Bytes → Bytes → TokenRefusal → Type 0
IsNoExchange before list theirs cause =
    IsMicRefusal before list theirs cause ⊎ ((between : ContextRecord) × TakesMic before between list theirs × IsUnmade between cause)

-- the initiator's MIC came with its token: the acceptor's is sent with the answer
abbrev pub IsMicAnswered : EstablishedRecord → Option Mechanism → Bytes → Bytes → Result Accepted AcceptRefusal → Type 0
IsMicAnswered established supported list theirs result =
    ((after : ContextRecord) × (own : Bytes) × ExchangesMics established.context after list theirs own
    × IsGiven (completed (record established { context = after }) supported (Some own)) result)
    -- The initiator's MIC is right, also where it isn't due; a wrong one ends the negotiation (RFC 4178, section 5). Test: `Wrong MICs: of
    -- another list,`, `A wrong MIC that isn't due.`.
    ⊎ ((cause : TokenRefusal) × IsNoExchange established.context list theirs cause × (result ≡ Err (Mic cause)))

-- the acceptor's last token is sent with its MIC, and then the initiator's is due
abbrev pub awaiting : EstablishedRecord → Option Mechanism → Bytes → Bytes → Accepted
awaiting established supported list own =
    waiting (neg_token_resp AcceptIncomplete supported established.reply (Some own))
    (stage.Mic (record { established = record established { reply = None }; list = list }))

-- the acceptor sends its MIC and demands the initiator's; or it can't make its MIC, or memory runs out
abbrev pub Demands : EstablishedRecord → Option Mechanism → Bytes → Result Accepted AcceptRefusal → Type 0
Demands established supported list result =
    ((own : Bytes) × WritesMic (sender_of established.context) established.context.sending list own
    × IsGiven (awaiting (record established { context = record established.context { sending = established.context.sending + 1 } }) supported list own) result)
    ⊎ ((cause : TokenRefusal) × IsUnmade established.context cause × (result ≡ Err (Mic cause)))

-- the initiator's MIC didn't come with its token
abbrev pub IsConcludedWithout : EstablishedRecord → Option Mechanism → Terms → Result Accepted AcceptRefusal → Type 0
IsConcludedWithout established supported terms result =
    MatchBool terms.required
    -- Where MICs are due and the acceptor sends no AP-REP, the initiator's MIC comes with its token. Where they are due and it sends one,
    -- the MIC may come after the acceptor's, whose answer has the state accept-incomplete (RFC 4178, section 5).
    -- Test: `Wrong MICs: of another list,`, `With an AP-REP`.
    (MatchBool (is_some established.reply) (Demands established supported terms.list result) (result ≡ Err NoMic))
    (IsGiven (completed established supported None) result)

-- the negotiation ends or goes on, by whether the initiator's MIC came with its token and is right
abbrev pub IsConcluded : Exchange → EstablishedRecord → Result Accepted AcceptRefusal → Type 0
IsConcluded exchange established result =
    MatchOption exchange.mic (IsConcludedWithout established exchange.supported exchange.terms result)
    (λ theirs. IsMicAnswered established exchange.supported exchange.terms.list theirs result)

-- the initiator of a context is answered as its token came: bare, or in a message of SPNEGO
abbrev pub IsContextAnswered : Option Exchange → EstablishedRecord → Result Accepted AcceptRefusal → Type 0
IsContextAnswered None established result = result ≡ Ok (Established established)
IsContextAnswered (Some exchange) established result = IsConcluded exchange established result

-- the initiator's MIC, which is due: the context is handed out, and nothing is answered
abbrev pub IsVerified : Unverified → Bytes → Result Accepted AcceptRefusal → Type 0
IsVerified unverified theirs result =
    ((after : ContextRecord) × TakesMic unverified.established.context after unverified.list theirs
    × (result ≡ Ok (Established (record unverified.established { context = after }))))
    -- The initiator's MIC that is due is right; a wrong one ends the negotiation (RFC 4178, section 5). Test: `Wrong MICs: of another
    -- list,`, `With an AP-REP`.
    ⊎ ((cause : TokenRefusal) × IsMicRefusal unverified.established.context unverified.list theirs cause × (result ≡ Err (Mic cause)))

-- the tokens of a message, where the initiator's MIC is due
abbrev pub IsLast : Unverified → Tokens → Result Accepted AcceptRefusal → Type 0
IsLast unverified tokens result =
    ((theirs : Bytes) × (due_mic tokens ≡ Ok theirs) × IsVerified unverified theirs result)
    ⊎ ((refusal : AcceptRefusal) × (due_mic tokens ≡ Err refusal) × (result ≡ Err refusal))
