-- How a context is answered, as it is seen inside.
use Rattle.std.proofs.Common.{◌≡◌, ℕ, List, Option, Some, Result, Ok, Err, refl, sym, ap, subst, inl, inr}
use Rattle.std.specs.Prelude.{MatchOption}
use Rattle.gss_contexts.specs.Contexts.{ContextRecord}
use Rattle.gss_contexts.specs.Judging.{IsMicRefusal, TakesMic}
use Rattle.gss_contexts.specs.declared.refusal.TokenRefusal.{TokenRefusal}
use Rattle.gss_acceptor.specs.Concluding.{ExchangesMics, IsConcluded, IsConcludedWithout, IsGiven, IsMicAnswered, IsNoExchange, IsVerified, completed}
use Rattle.gss_acceptor.specs.Established.{EstablishedRecord}
use Rattle.gss_acceptor.specs.declared.accepted.Accepted.{Accepted}
use Rattle.gss_acceptor.specs.declared.accepted.Accepted.TheVariants.{Established}
use Rattle.gss_acceptor.specs.declared.exchange.Exchange.{Exchange}
use Rattle.gss_acceptor.specs.declared.exchange.Unverified.{Unverified}
use Rattle.gss_acceptor.specs.declared.mechanism.Mechanism.{Mechanism}
use Rattle.gss_acceptor.specs.declared.refusal.AcceptRefusal.{AcceptRefusal}
use Rattle.gss_acceptor.specs.declared.refusal.AcceptRefusal.TheVariants.{Mic}

pub by_mics : (inside established : EstablishedRecord) (supported : Option Mechanism) (after : ContextRecord) (list theirs own : List ℕ) (result : Result Accepted AcceptRefusal)
    → inside ≡ established → ExchangesMics inside.context after list theirs own
    → IsGiven (completed (record inside { context = after }) supported (Some own)) result → IsMicAnswered established supported list theirs result
by_mics inside established supported after list theirs own result same x last =
    subst (λ (e : EstablishedRecord). IsMicAnswered e supported list theirs result) same (inl (after, own, x, last))

pub by_no_mics : (inside established : EstablishedRecord) (supported : Option Mechanism) (list theirs : List ℕ) (cause : TokenRefusal) → inside ≡ established
    → IsNoExchange inside.context list theirs cause → IsMicAnswered established supported list theirs (Err (Mic cause))
by_no_mics inside established supported list theirs cause same x =
    subst (λ (e : EstablishedRecord). IsMicAnswered e supported list theirs (Err (Mic cause))) same (inr (cause, x, refl))

-- by the MIC that came
pub by_mic : (exchange : Exchange) (established : EstablishedRecord) (theirs : List ℕ) (result : Result Accepted AcceptRefusal) → exchange.mic ≡ Some theirs
    → IsMicAnswered established exchange.supported exchange.terms.list theirs result → IsConcluded exchange established result
by_mic exchange established theirs result is x =
    subst
    (λ (mic : Option (List ℕ)). MatchOption mic (IsConcludedWithout established exchange.supported exchange.terms result)
    (λ it. IsMicAnswered established exchange.supported exchange.terms.list it result)) (sym is) x

pub by_verified : (inside : EstablishedRecord) (unverified : Unverified) (theirs : List ℕ) (after : ContextRecord) → inside ≡ unverified.established
    → TakesMic inside.context after unverified.list theirs → IsVerified unverified theirs (Ok (Established (record inside { context = after })))
by_verified inside unverified theirs after same x =
    inl (
      after,
      subst (λ (e : EstablishedRecord). TakesMic e.context after unverified.list theirs) same x,
      ap (λ (e : EstablishedRecord). Ok (Established (record e { context = after }))) same,
    )

pub by_wrong : (inside : EstablishedRecord) (unverified : Unverified) (theirs : List ℕ) (cause : TokenRefusal) → inside ≡ unverified.established
    → IsMicRefusal inside.context unverified.list theirs cause → IsVerified unverified theirs (Err (Mic cause))
by_wrong inside unverified theirs cause same x =
    inr (cause, subst (λ (e : EstablishedRecord). IsMicRefusal e.context unverified.list theirs cause) same x, refl)
