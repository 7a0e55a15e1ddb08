-- What an initiator takes as the answer to its first token, and what it ends with.
use Rattle.std.specs.Prelude.{◌≡◌, ◌⊎◌, false, Option, None, Some, Result, Ok, Err, MatchBool, MatchOption}
use Rattle.picky_asn1.specs.Bytes.{Bytes}
use Rattle.decision_tables.specs.Tables.{Table, and_then, done}
use Rattle.gss_contexts.specs.Contexts.{ContextRecord}
use Rattle.gss_contexts.specs.Judging.{IsMicRefusal, TakesMic}
use Rattle.gss_contexts.specs.declared.refusal.TokenRefusal.{TokenRefusal}
use Rattle.gss_acceptor.specs.Answers.{neg_token_resp}
use Rattle.gss_acceptor.specs.Concluding.{ExchangesMics, IsNoExchange}
use Rattle.gss_acceptor.specs.declared.answer.NegState.TheVariants.{AcceptCompleted}
use Rattle.gss_initiator.specs.FirstTokens.{list_octets}
use Rattle.gss_initiator.specs.Replies.{IsRead, ended}
use Rattle.gss_initiator.specs.Responses.{negotiated}
use Rattle.gss_initiator.specs.declared.heard.Heard.{Heard}
use Rattle.gss_initiator.specs.declared.initiated.Pending.{Pending}
use Rattle.gss_initiator.specs.declared.initiated.TokenForm.{TokenForm}
use Rattle.gss_initiator.specs.declared.initiated.TokenForm.TheVariants.{Bare, Negotiated}
use Rattle.gss_initiator.specs.declared.refusal.InitiateRefusal.{InitiateRefusal}
use Rattle.gss_initiator.specs.declared.refusal.InitiateRefusal.TheVariants.{Memory, Mic, NoMic}
use Rattle.gss_initiator.specs.declared.take.RefusedAnswer.{RefusedAnswer}

-- the context that is established, and the last token to send if one is due
pub record TakenRecord : Type 0 where
  pub context : ContextRecord
  pub reply : Option Bytes

-- a context that no MIC is due of
abbrev pub unasked : ContextRecord → Heard
unasked context = record { context = context; is_due = false; mic = None }

-- what the answer to a token of this form says
abbrev pub heard_as : TokenForm → Pending → Bytes → Table (Result Heard InitiateRefusal)
heard_as Bare pending token = and_then (ended pending token) (λ context. done (Ok (unasked context)))
heard_as Negotiated pending token = negotiated pending token

-- what the answer to the initiator's first token says
abbrev pub heard : Pending → Bytes → Table (Result Heard InitiateRefusal)
heard pending token = heard_as pending.form pending token

-- the established context, with this token to send if there is one
abbrev pub kept : ContextRecord → Option Bytes → Result TakenRecord InitiateRefusal
kept context reply = Ok (record { context = context; reply = reply })

-- no further token is due: the acceptor's MIC is right
abbrev pub IsVerified : ContextRecord → Bytes → Result TakenRecord InitiateRefusal → Type 0
IsVerified context theirs result =
    ((after : ContextRecord) × TakesMic context after list_octets theirs × (result ≡ kept after None))
    -- The acceptor's MIC of the list of mechanisms is right, also where it isn't due; a wrong one is refused (RFC 4178, section 5).
    -- Test: `take Mic`.
    ⊎ ((cause : TokenRefusal) × IsMicRefusal context list_octets theirs cause × (result ≡ Err (Mic cause)))

-- the initiator's MIC is sent in the last token, whose state is accept-completed (RFC 4178, section 5)
abbrev pub IsExchanged : ContextRecord → Bytes → Result TakenRecord InitiateRefusal → Type 0
IsExchanged context theirs result =
    ((after : ContextRecord) × (own : Bytes) × ExchangesMics context after list_octets theirs own
    × IsRead (λ given. given ≡ kept after (Some (neg_token_resp AcceptCompleted None None (Some own)))) result)
    ⊎ ((cause : TokenRefusal) × IsNoExchange context list_octets theirs cause × (result ≡ Err (Mic cause)))

-- Where a further token of the initiator is due, the acceptor's MIC is there: nothing but MICs is left to send (RFC 4178, section 5).
-- Test: `take NoMic`.
abbrev pub IsConcluded : Heard → Result TakenRecord InitiateRefusal → Type 0
IsConcluded it result =
    MatchOption it.mic
    (MatchBool it.is_due (result ≡ Err NoMic) (result ≡ kept it.context None))
    (λ theirs. MatchBool it.is_due (IsExchanged it.context theirs result) (IsVerified it.context theirs result))

-- the answer is what the table says, or memory ran out
abbrev pub Takes : Pending → Bytes → Result TakenRecord InitiateRefusal → Type 0
Takes pending token result =
    ((it : Heard) × (heard pending token).gives (Ok it) × IsConcluded it result)
    ⊎ ((refusal : InitiateRefusal) × (result ≡ Err refusal) × ((refusal ≡ Memory) ⊎ (heard pending token).gives (Err refusal)))

-- what an answer establishes, or why it isn't taken
abbrev pub outcome_of : Result TakenRecord RefusedAnswer → Result TakenRecord InitiateRefusal
outcome_of (Ok taken) = Ok taken
outcome_of (Err refused) = Err refused.refusal
