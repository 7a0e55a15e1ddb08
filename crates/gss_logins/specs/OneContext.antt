-- What an honest login by GSS ends with: two ends of one context.
use Rattle.std.specs.Prelude.{◌≡◌, ◌⊎◌, ◌+◌, ℕ, None, Some, Result, Ok, Err}
use Rattle.picky_asn1.specs.Bytes.{Bytes}
use Rattle.krb_ap_requests.specs.declared.refusal.AdmitRefusal.TheVariants as admit_refusal
use Rattle.gss_contexts.specs.Contexts.{ContextRecord, peer, sender_of}
use Rattle.gss_contexts.specs.Judging.{IsMicRefusal, IsWrapRefusal, TakesMic, TakesWrap}
use Rattle.gss_contexts.specs.declared.refusal.TokenRefusal.{TokenRefusal}
use Rattle.gss_contexts.specs.declared.refusal.TokenRefusal.TheVariants as token_refusal
use Rattle.gss_contexts.specs.declared.side.Protection.{Protection}
use Rattle.gss_contexts.specs.declared.side.Side.TheVariants.{Acceptor, Initiator}
use Rattle.gss_acceptor.specs.Accepting.{AcceptorRecord, Handles, carried}
use Rattle.gss_acceptor.specs.Established.{EstablishedRecord}
use Rattle.gss_acceptor.specs.declared.accepted.Accepted.{Accepted}
use Rattle.gss_acceptor.specs.declared.accepted.Accepted.TheVariants.{ContinueNeeded, Established}
use Rattle.gss_acceptor.specs.declared.refusal.AcceptRefusal.{AcceptRefusal}
use Rattle.gss_acceptor.specs.declared.refusal.AcceptRefusal.TheVariants as accept_refusal
use Rattle.gss_initiator.specs.Initiating.{InitiatedRecord}
use Rattle.gss_initiator.specs.Taking.{TakenRecord, Takes}
use Rattle.gss_initiator.specs.declared.initiated.Progress.{Progress}
use Rattle.gss_initiator.specs.declared.initiated.Progress.TheVariants as progress
use Rattle.gss_initiator.specs.declared.refusal.InitiateRefusal.{InitiateRefusal}
use Rattle.gss_initiator.specs.declared.refusal.InitiateRefusal.TheVariants as initiate_refusal
use Rattle.gss_logins.specs.GssLogins.{GssLogin, acceptor_of}

-- two ends of one context: one key, opposite sides, and each takes the other's next number
pub record AreEnds (one other : ContextRecord) : Type 0 where
  pub keyed : one.key ≡ other.key
  pub forth : sender_of one ≡ peer other
  pub back : sender_of other ≡ peer one
  pub takes : one.taking ≡ other.sending
  pub taken : other.taking ≡ one.sending

-- the initiator's end and the acceptor's
pub record AreSides (initiator acceptor : ContextRecord) : Type 0 where
  pub initiates : initiator.side ≡ Initiator
  pub accepts : acceptor.side ≡ Acceptor
  pub ends : AreEnds initiator acceptor

-- the refusal of an acceptor says that memory ran out
abbrev pub WantsMemory : AcceptRefusal → Type 0
WantsMemory refusal = (refusal ≡ accept_refusal.Memory) ⊎ (refusal ≡ accept_refusal.Admit admit_refusal.Memory)

-- the acceptor establishes a context with the flags and the bindings that the client chose, or memory runs out
abbrev pub IsAccepted : GssLogin → Result Accepted AcceptRefusal → Type 0
IsAccepted login (Ok (Established established)) = (established.flags ≡ login.initial.flags) × (established.bindings ≡ login.initial.bindings)
IsAccepted login (Ok (ContinueNeeded continuation)) = ⊥
IsAccepted login (Err refusal) = WantsMemory refusal

-- the initiator takes the acceptor's token, and has the other end, or memory runs out
abbrev pub IsOtherEnd : EstablishedRecord → Result TakenRecord InitiateRefusal → Type 0
IsOtherEnd established (Ok taken) = AreSides taken.context established.context × (taken.reply ≡ None)
IsOtherEnd established (Err refusal) = refusal ≡ initiate_refusal.Memory

-- how the initiator's end stands to the acceptor's: it is there, or the acceptor's token makes it
abbrev pub IsEnded : Progress → EstablishedRecord → Type 0
IsEnded (progress.Established context) established = AreSides context established.context
IsEnded (progress.ContinueNeeded pending) established =
    (reply : Bytes) × (established.reply ≡ Some reply) × ((result : Result TakenRecord InitiateRefusal) → Takes pending reply result → IsOtherEnd established result)

-- the first token that was sent is accepted, and the initiator has the other end or gets it by the reply; or memory runs out
abbrev pub IsOneContext : GssLogin → InitiatedRecord → Type 0
IsOneContext login initiated =
    (result : Result Accepted AcceptRefusal) (after : AcceptorRecord)
    → Handles (carried initiated.token) (acceptor_of login) login.service_at login.service_words result after
    → IsAccepted login result
    × ((established : EstablishedRecord) → result ≡ Ok (Established established) → IsEnded initiated.progress established)

-- the first token is sent, or memory ran out
abbrev pub EndsInOneContext : GssLogin → Result InitiatedRecord InitiateRefusal → Type 0
EndsInOneContext login (Ok initiated) = IsOneContext login initiated
EndsInOneContext login (Err refusal) = refusal ≡ initiate_refusal.Memory

-- an end after it sent a token
abbrev pub after_sending : ContextRecord → ContextRecord
after_sending end = record end { sending = end.sending + 1 }

-- a wrap token is taken as its message, and the ends stay ends of one context; it is refused only if memory runs out
abbrev pub IsMessageTaken : ContextRecord → ContextRecord → Protection → Bytes → Bytes → Type 0
IsMessageTaken one other protection message token =
    ((refusal : TokenRefusal) → IsWrapRefusal other token refusal → refusal ≡ token_refusal.Memory)
    × ((after : ContextRecord) (number : ℕ) (under : Protection) (taken : Bytes) → TakesWrap other after token number under taken
    → (taken ≡ message) × (under ≡ protection) × AreEnds (after_sending one) after)

-- a MIC token is taken, and the ends stay ends of one context; it is refused only if memory runs out
abbrev pub IsMicTaken : ContextRecord → ContextRecord → Bytes → Bytes → Type 0
IsMicTaken one other message token =
    ((refusal : TokenRefusal) → IsMicRefusal other message token refusal → refusal ≡ token_refusal.Memory)
    × ((after : ContextRecord) → TakesMic other after message token → AreEnds (after_sending one) after)
