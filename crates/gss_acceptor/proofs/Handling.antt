-- What a token asks, and what is done.
use Rattle.std.proofs.Common.{◌≡◌, ℕ, List, Option, None, Some, Result, Ok, Err, refl, sym, ap, subst, inl, inr}
use Rattle.decision_tables.specs.Tables.{Table, need}
use Rattle.krb_service.specs.Admission.{AdmissionRecord}
use Rattle.krb_service.specs.Admits.{Admits}
use Rattle.krb_service.specs.KeytabService.{KeytabServiceRecord}
use Rattle.krb_service.specs.declared.reply.ReplyFields.{ReplyFields}
use Rattle.krb_ap_requests.specs.declared.refusal.AdmitRefusal.{AdmitRefusal}
use Rattle.gss_acceptor.specs.Contexts.{fields_of}
use Rattle.gss_acceptor.specs.Established.{EstablishedRecord}
use Rattle.gss_acceptor.specs.Accepting.{AcceptorRecord, AdmitRequest, AskFor, Establishes, Handles, IsEstablished, Step, Takes, VerifyMic, carried, held, negotiated, next, opened, opened_by, responded_to, resumed, to_verify}
use Rattle.gss_acceptor.specs.Concluding.{IsGiven, IsLast, asking}
use Rattle.gss_acceptor.specs.Negotiation.{IsRead, offered}
use Rattle.gss_acceptor.specs.Responses.{responded}
use Rattle.gss_acceptor.specs.Tokens.{IsApReqToken}
use Rattle.gss_acceptor.specs.declared.accepted.Accepted.{Accepted}
use Rattle.gss_acceptor.specs.declared.accepted.Negotiation.{Negotiation}
use Rattle.gss_acceptor.specs.declared.accepted.Stage.{Stage}
use Rattle.gss_acceptor.specs.declared.accepted.Stage.TheVariants.{Mic}
use Rattle.gss_acceptor.specs.declared.exchange.Exchange.{Exchange}
use Rattle.gss_acceptor.specs.declared.exchange.Terms.{Terms}
use Rattle.gss_acceptor.specs.declared.exchange.Tokens.{Tokens}
use Rattle.gss_acceptor.specs.declared.exchange.Unverified.{Unverified}
use Rattle.gss_acceptor.specs.declared.negotiation.Offer.{Offer}
use Rattle.gss_acceptor.specs.declared.refusal.AcceptRefusal.{AcceptRefusal}
use Rattle.gss_acceptor.specs.declared.refusal.AcceptRefusal.TheVariants.{Admit, NotAToken}

-- what one table gives another gives, and so it is handled
onward : (table other : Table (Result Step AcceptRefusal)) (acceptor after : AcceptorRecord) (moment : ℕ) (random : List ℕ) (result : Result Accepted AcceptRefusal)
    → ((r : Result Step AcceptRefusal) → table.gives r → other.gives r) → Handles table acceptor moment random result after
    → Handles other acceptor moment random result after
onward table other acceptor after moment random result on (inl x) = inl (x.0, on (Ok x.0) x.1, x.2)
onward table other acceptor after moment random result on (inr (refusal, is, same, inl memory)) = inr (refusal, is, same, inl memory)
onward table other acceptor after moment random result on (inr (refusal, is, same, inr x)) = inr (refusal, is, same, inr (on (Err refusal) x))

-- by a token of Kerberos
pub by_token : (acceptor after : AcceptorRecord) (moment : ℕ) (token message random : List ℕ) (result : Result Accepted AcceptRefusal)
    → IsApReqToken token message → Takes (AdmitRequest message None) acceptor moment random result after → Handles (carried token) acceptor moment random result after
unfolding carried
by_token acceptor after moment token message random result is x = inl (AdmitRequest message None, inl (message, is, refl), x)

-- by a token that is none of Kerberos
pub by_negotiation : (acceptor after : AcceptorRecord) (moment : ℕ) (token random : List ℕ) (result : Result Accepted AcceptRefusal)
    → ((message : List ℕ) → IsApReqToken token message → ⊥) → Handles (negotiated token) acceptor moment random result after
    → Handles (carried token) acceptor moment random result after
unfolding carried
by_negotiation acceptor after moment token random result none x =
    onward (negotiated token) (carried token) acceptor after moment random result (λ r y. inr (none, y)) x

-- by what is offered
pub by_offer : (acceptor after : AcceptorRecord) (moment : ℕ) (token random : List ℕ) (offer : Offer) (result : Result Accepted AcceptRefusal)
    → IsRead (offered token).gives (Ok offer) → Handles (opened offer) acceptor moment random result after → Handles (negotiated token) acceptor moment random result after
unfolding negotiated
by_offer acceptor after moment token random offer result (inl never) x = absurd (cc (never))
by_offer acceptor after moment token random offer result (inr is) x =
    onward (opened offer) (negotiated token) acceptor after moment random result (λ r y. inl (offer, is, y)) x

-- nothing is offered
pub by_none : (acceptor : AcceptorRecord) (moment : ℕ) (token random : List ℕ) (refusal : AcceptRefusal) → IsRead (offered token).gives (Err refusal)
    → Handles (negotiated token) acceptor moment random (Err refusal) acceptor
unfolding negotiated
by_none acceptor moment token random refusal (inl memory) = inr (refusal, refl, refl, inl (cc (memory)))
by_none acceptor moment token random refusal (inr x) = inr (refusal, refl, refl, inr (inr (refusal, x, refl)))

-- the mechanism's token is offered; or it isn't, and is asked for
pub by_opened : (acceptor after : AcceptorRecord) (moment : ℕ) (token random : List ℕ) (offer : Offer) (result : Result Accepted AcceptRefusal) → offer.tokens.mechanism ≡ Some token
    → Handles (held token (record { supported = Some offer.mechanism; terms = offer.terms; mic = offer.tokens.mic })) acceptor moment random result after
    → Handles (opened offer) acceptor moment random result after
by_opened acceptor after moment token random offer result is x =
    subst (λ (t : Option (List ℕ)). Handles (opened_by offer.mechanism offer.terms t offer.tokens.mic) acceptor moment random result after) (sym is) x

pub by_asking : (acceptor : AcceptorRecord) (moment : ℕ) (random : List ℕ) (offer : Offer) (result : Result Accepted AcceptRefusal) → offer.tokens.mechanism ≡ None
    → IsGiven (asking offer.mechanism offer.terms) result → Handles (opened offer) acceptor moment random result acceptor
by_asking acceptor moment random offer result is x =
    subst (λ (t : Option (List ℕ)). Handles (opened_by offer.mechanism offer.terms t offer.tokens.mic) acceptor moment random result acceptor) (sym is)
    (inl (AskFor offer.mechanism offer.terms, refl, (refl, x)))

-- what is offered is a token of Kerberos, or none
pub by_held : (acceptor after : AcceptorRecord) (moment : ℕ) (token message random : List ℕ) (exchange : Exchange) (result : Result Accepted AcceptRefusal)
    → IsApReqToken token message → Takes (AdmitRequest message (Some exchange)) acceptor moment random result after
    → Handles (held token exchange) acceptor moment random result after
unfolding held
by_held acceptor after moment token message random exchange result is x = inl (AdmitRequest message (Some exchange), inl (message, is, refl), x)

pub by_other : (acceptor : AcceptorRecord) (moment : ℕ) (token random : List ℕ) (exchange : Exchange) → ((message : List ℕ) → IsApReqToken token message → ⊥)
    → Handles (held token exchange) acceptor moment random (Err NotAToken) acceptor
unfolding held
by_other acceptor moment token random exchange none = inr (NotAToken, refl, refl, inr (inr (none, refl)))

-- by a later message
pub by_response : (acceptor after : AcceptorRecord) (moment : ℕ) (token random : List ℕ) (negotiation : Negotiation) (tokens : Tokens) (result : Result Accepted AcceptRefusal)
    → IsRead (responded token).gives (Ok tokens) → Handles (next negotiation.stage tokens) acceptor moment random result after
    → Handles (resumed negotiation token) acceptor moment random result after
unfolding resumed
by_response acceptor after moment token random negotiation tokens result (inl never) x = absurd (cc (never))
by_response acceptor after moment token random negotiation tokens result (inr is) x =
    onward (next negotiation.stage tokens) (resumed negotiation token) acceptor after moment random result (λ r y. inl (tokens, is, y)) x

-- by none
pub by_no_response : (acceptor : AcceptorRecord) (moment : ℕ) (token random : List ℕ) (negotiation : Negotiation) (refusal : AcceptRefusal)
    → IsRead (responded token).gives (Err refusal) → Handles (resumed negotiation token) acceptor moment random (Err refusal) acceptor
unfolding resumed
by_no_response acceptor moment token random negotiation refusal (inl memory) = inr (refusal, refl, refl, inl (cc (memory)))
by_no_response acceptor moment token random negotiation refusal (inr x) = inr (refusal, refl, refl, inr (inr (refusal, x, refl)))

-- it is the first token of Kerberos that is due; and it is there, or isn't
pub by_stage : (acceptor after : AcceptorRecord) (moment : ℕ) (random : List ℕ) (stage known : Stage) (tokens : Tokens) (result : Result Accepted AcceptRefusal) → stage ≡ known
    → Handles (next known tokens) acceptor moment random result after → Handles (next stage tokens) acceptor moment random result after
by_stage acceptor after moment random stage known tokens result is x = subst (λ (s : Stage). Handles (next s tokens) acceptor moment random result after) (sym is) x

pub by_due_token : (acceptor after : AcceptorRecord) (moment : ℕ) (token random : List ℕ) (terms : Terms) (tokens : Tokens) (result : Result Accepted AcceptRefusal)
    → tokens.mechanism ≡ Some token → Handles (held token (record { supported = None; terms = terms; mic = tokens.mic })) acceptor moment random result after
    → Handles (responded_to terms tokens) acceptor moment random result after
by_due_token acceptor after moment token random terms tokens result is x =
    subst
    (λ (t : Option (List ℕ)). Handles (need t NotAToken (λ it. held it (record { supported = None; terms = terms; mic = tokens.mic }))) acceptor moment random result after)
    (sym is) x

pub by_no_token : (acceptor : AcceptorRecord) (moment : ℕ) (random : List ℕ) (terms : Terms) (tokens : Tokens) → tokens.mechanism ≡ None
    → Handles (responded_to terms tokens) acceptor moment random (Err NotAToken) acceptor
by_no_token acceptor moment random terms tokens is =
    subst
    (λ (t : Option (List ℕ)). Handles (need t NotAToken (λ it. held it (record { supported = None; terms = terms; mic = tokens.mic }))) acceptor moment random (Err NotAToken) acceptor)
    (sym is) (inr (NotAToken, refl, refl, inr refl))

-- by the MIC that is due
pub by_last : (acceptor : AcceptorRecord) (moment : ℕ) (random : List ℕ) (unverified : Unverified) (tokens : Tokens) (result : Result Accepted AcceptRefusal)
    → IsLast unverified tokens result → Handles (next (Mic unverified) tokens) acceptor moment random result acceptor
by_last acceptor moment random unverified tokens result (inl (theirs, is, x)) = inl (VerifyMic unverified theirs, ap (to_verify unverified) (sym is), (refl, x))
by_last acceptor moment random unverified tokens result (inr (refusal, is, x)) = inr (refusal, x, refl, inr (ap (to_verify unverified) (sym is)))

-- by the service's admission or refusal, as the acceptor is seen inside
pub by_admission : (inside acceptor : AcceptorRecord) (after : KeytabServiceRecord) (fields : ReplyFields) (skew moment : ℕ) (message random : List ℕ) (admission : AdmissionRecord) (result : Result EstablishedRecord AcceptRefusal)
    → inside ≡ acceptor → fields ≡ fields_of inside.terms → skew ≡ inside.service.seen.skew → Admits fields inside.service moment message random (Ok admission) after
    → IsEstablished inside.terms skew random admission result → Establishes acceptor moment message random result (record { service = after; terms = inside.terms })
by_admission inside acceptor after fields skew moment message random admission result same own_fields own_skew admits x =
    subst (λ (a : AcceptorRecord). Establishes a moment message random result (record { service = after; terms = inside.terms })) same (
      refl,
      inl (
        admission,
        subst (λ f. Admits f inside.service moment message random (Ok admission) after) own_fields admits,
        subst (λ n. IsEstablished inside.terms n random admission result) own_skew x,
      ),
    )

pub by_cause : (inside acceptor : AcceptorRecord) (after : KeytabServiceRecord) (fields : ReplyFields) (moment : ℕ) (message random : List ℕ) (cause : AdmitRefusal)
    → inside ≡ acceptor → fields ≡ fields_of inside.terms → Admits fields inside.service moment message random (Err cause) after
    → Establishes acceptor moment message random (Err (Admit cause)) (record { service = after; terms = inside.terms })
by_cause inside acceptor after fields moment message random cause same own_fields admits =
    subst (λ (a : AcceptorRecord). Establishes a moment message random (Err (Admit cause)) (record { service = after; terms = inside.terms })) same
    (refl, inr (cause, subst (λ f. Admits f inside.service moment message random (Err cause) after) own_fields admits, refl))
