-- Where MICs are due, a context that is handed out has the initiator's.
use Rattle.std.proofs.Common.{◌≡◌, ℕ, Bool, true, false, List, Option, None, Some, Result, Ok, Err, refl, sym, ap, subst, ◌∙◌, inl, inr, if◌then◌else◌}
use Rattle.std.specs.Prelude.{◌+◌, is_some, not, MatchBool, MatchOption}
use Rattle.std.specs.Option.{option_map_or}
use Rattle.picky_asn1.specs.declared.wrapper.ObjectIdentifierAsn1.{ObjectIdentifierAsn1}
use Rattle.gss_contexts.specs.Contexts.{ContextRecord, sender_of}
use Rattle.gss_contexts.specs.Judging.{TakesMic}
use Rattle.gss_acceptor.proofs.Results.{given, same_ok}
use Rattle.gss_acceptor.specs.Accepting.{AcceptorRecord, AdmitRequest, AskFor, Handles, IsAnsweredAs, Step, Takes, VerifyMic, carried, held, negotiated, next, opened_by, responded_to, resumed, to_verify}
use Rattle.gss_acceptor.specs.Concluding.{Demands, ExchangesMics, IsConcludedWithout, IsGiven, IsMicAnswered, IsVerified, asking, awaiting, completed}
use Rattle.gss_acceptor.specs.Due.{HasMic, IsDue, IsDueAfter}
use Rattle.gss_acceptor.specs.Established.{EstablishedRecord}
use Rattle.gss_acceptor.specs.Mechanisms.{is_first, kerberos_among}
use Rattle.gss_acceptor.specs.Negotiation.{is_spnego, offer_among, offer_by, offered, optimistic, tokens_of}
use Rattle.gss_acceptor.specs.Responses.{due_mic}
use Rattle.gss_acceptor.specs.Tokens.{IsApReqToken}
use Rattle.gss_acceptor.specs.declared.accepted.Accepted.{Accepted}
use Rattle.gss_acceptor.specs.declared.accepted.Accepted.TheVariants.{Established}
use Rattle.gss_acceptor.specs.declared.accepted.Negotiation.{Negotiation}
use Rattle.gss_acceptor.specs.declared.accepted.Stage.{Stage}
use Rattle.gss_acceptor.specs.declared.accepted.Stage.TheVariants.{Token, Mic}
use Rattle.gss_acceptor.specs.declared.exchange.Exchange.{Exchange}
use Rattle.gss_acceptor.specs.declared.exchange.Terms.{Terms}
use Rattle.gss_acceptor.specs.declared.exchange.Tokens.{Tokens}
use Rattle.gss_acceptor.specs.declared.exchange.Unverified.{Unverified}
use Rattle.gss_acceptor.specs.declared.mechanism.Mechanism.{Mechanism}
use Rattle.gss_acceptor.specs.declared.negotiation.Offer.{Offer}
use Rattle.gss_acceptor.specs.declared.refusal.AcceptRefusal.{AcceptRefusal}
use Rattle.gss_acceptor.specs.declared.refusal.AcceptRefusal.TheVariants.{NoKerberos, NoMic, NotAToken}

-- the end that took a MIC has it
has_taken : (before after : ContextRecord) (list theirs : List ℕ) → TakesMic before after list theirs → HasMic list after
has_taken before after list theirs takes = record {
  end = before;
  same = sym (ap sender_of takes.moved);
  number = takes.number;
  theirs = theirs;
  is_mic_of = takes.is_mic_of;
}

has_exchanged : (before after : ContextRecord) (list theirs own : List ℕ) → ExchangesMics before after list theirs own → HasMic list after
has_exchanged before after list theirs own x =
    let first = has_taken before x.between list theirs x.takes in
    record {
      end = first.end;
      same = first.same ∙ sym (ap sender_of x.moved);
      number = first.number;
      theirs = first.theirs;
      is_mic_of = first.is_mic_of;
    }

due_after_mic : (established : EstablishedRecord) (supported : Option Mechanism) (list theirs : List ℕ) (accepted : Accepted)
    → IsMicAnswered established supported list theirs (Ok accepted) → IsDueAfter list accepted
due_after_mic established supported list theirs accepted (inl (after, own, x, last)) =
    let same = given accepted (completed (record established { context = after }) supported (Some own)) last in
    subst (IsDueAfter list) (sym same) (has_exchanged established.context after list theirs own x)
due_after_mic established supported list theirs accepted (inr (cause, why, never)) = absurd (cc (never))

due_after_demand : (established : EstablishedRecord) (supported : Option Mechanism) (list : List ℕ) (accepted : Accepted)
    → Demands established supported list (Ok accepted) → IsDueAfter list accepted
due_after_demand established supported list accepted (inl (own, writes, last)) =
    let same = given accepted (awaiting (record established { context = record established.context { sending = established.context.sending + 1 } }) supported list own) last in
    subst (IsDueAfter list) (sym same) refl
due_after_demand established supported list accepted (inr (cause, why, never)) = absurd (cc (never))

due_after_none : (established : EstablishedRecord) (supported : Option Mechanism) (list : List ℕ) (required replies : Bool) (accepted : Accepted) → required ≡ true
    → MatchBool required (MatchBool replies (Demands established supported list (Ok accepted)) (Ok accepted ≡ Err NoMic)) (IsGiven (completed established supported None) (Ok accepted))
    → IsDueAfter list accepted
due_after_none established supported list true true accepted is x = due_after_demand established supported list accepted x
due_after_none established supported list true false accepted is never = absurd (cc (never))
due_after_none established supported list false replies accepted never x = absurd (cc (never))

due_after_exchange : (established : EstablishedRecord) (supported : Option Mechanism) (terms : Terms) (mic : Option (List ℕ)) (accepted : Accepted) → terms.required ≡ true
    → MatchOption mic (IsConcludedWithout established supported terms (Ok accepted)) (λ theirs. IsMicAnswered established supported terms.list theirs (Ok accepted))
    → IsDueAfter terms.list accepted
due_after_exchange established supported terms None accepted is x = due_after_none established supported terms.list terms.required (is_some established.reply) accepted is x
due_after_exchange established supported terms (Some theirs) accepted is x = due_after_mic established supported terms.list theirs accepted x

due_after_answer : (exchange : Exchange) (made : Result EstablishedRecord AcceptRefusal) (accepted : Accepted) → exchange.terms.required ≡ true
    → IsAnsweredAs (Some exchange) made (Ok accepted) → IsDueAfter exchange.terms.list accepted
due_after_answer exchange (Ok established) accepted is x = due_after_exchange established exchange.supported exchange.terms exchange.mic accepted is x
due_after_answer exchange (Err refusal) accepted is never = absurd (cc (never))

due_verified : (unverified : Unverified) (theirs : List ℕ) (accepted : Accepted) → IsVerified unverified theirs (Ok accepted) → IsDueAfter unverified.list accepted
due_verified unverified theirs accepted (inl (after, takes, last)) =
    let same = same_ok accepted (Established (record unverified.established { context = after })) last in
    subst (IsDueAfter unverified.list) (sym same) (has_taken unverified.established.context after unverified.list theirs takes)
due_verified unverified theirs accepted (inr (cause, why, never)) = absurd (cc (never))

-- a step that a token of Kerberos in a message asks
due_held : (acceptor after : AcceptorRecord) (moment : ℕ) (token random : List ℕ) (exchange : Exchange) (step : Step) (accepted : Accepted) → exchange.terms.required ≡ true
    → (held token exchange).gives (Ok step) → Takes step acceptor moment random (Ok accepted) after → IsDueAfter exchange.terms.list accepted
unfolding held
due_held acceptor after moment token random exchange step accepted is (inl (message, held_is, same)) x =
    let taken = subst (λ (s : Step). Takes s acceptor moment random (Ok accepted) after) (same_ok step (AdmitRequest message (Some exchange)) same) x in
    due_after_answer exchange taken.0 accepted is taken.2
due_held acceptor after moment token random exchange step accepted is (inr (none_is, never)) x = absurd (cc (never))

due_token : (acceptor after : AcceptorRecord) (moment : ℕ) (random : List ℕ) (terms : Terms) (token mic : Option (List ℕ)) (step : Step) (accepted : Accepted)
    → terms.required ≡ true → (responded_to terms (record { mechanism = token; mic = mic })).gives (Ok step)
    → Takes step acceptor moment random (Ok accepted) after → IsDueAfter terms.list accepted
due_token acceptor after moment random terms None mic step accepted is never x = absurd (cc (never))
due_token acceptor after moment random terms (Some token) mic step accepted is held_is x =
    due_held acceptor after moment token random (record { supported = None; terms = terms; mic = mic }) step accepted is held_is x

due_mic_step : (acceptor after : AcceptorRecord) (moment : ℕ) (random : List ℕ) (unverified : Unverified) (found : Result (List ℕ) AcceptRefusal) (step : Step) (accepted : Accepted)
    → Ok step ≡ to_verify unverified found → Takes step acceptor moment random (Ok accepted) after → IsDueAfter unverified.list accepted
due_mic_step acceptor after moment random unverified (Ok theirs) step accepted same x =
    let taken = subst (λ (s : Step). Takes s acceptor moment random (Ok accepted) after) (same_ok step (VerifyMic unverified theirs) same) x in
    due_verified unverified theirs accepted taken.1
due_mic_step acceptor after moment random unverified (Err refusal) step accepted never x = absurd (cc (never))

due_stage : (acceptor after : AcceptorRecord) (moment : ℕ) (list random : List ℕ) (stage : Stage) (tokens : Tokens) (step : Step) (accepted : Accepted)
    → IsDue list stage → (next stage tokens).gives (Ok step) → Takes step acceptor moment random (Ok accepted) after → IsDueAfter list accepted
due_stage acceptor after moment list random (Token terms) tokens step accepted due is x =
    subst (λ (l : List ℕ). IsDueAfter l accepted) due.1 (due_token acceptor after moment random terms tokens.mechanism tokens.mic step accepted due.0 is x)
due_stage acceptor after moment list random (Mic unverified) tokens step accepted due is x =
    subst (λ (l : List ℕ). IsDueAfter l accepted) due (due_mic_step acceptor after moment random unverified (due_mic tokens) step accepted is x)

pub later : (acceptor after : AcceptorRecord) (moment : ℕ) (token list random : List ℕ) (negotiation : Negotiation) (accepted : Accepted)
    → IsDue list negotiation.stage → Handles (resumed negotiation token) acceptor moment random (Ok accepted) after → IsDueAfter list accepted
unfolding resumed
later acceptor after moment token list random negotiation accepted due (inl (step, inl (tokens, read, is), x)) =
    due_stage acceptor after moment list random negotiation.stage tokens step accepted due is x
later acceptor after moment token list random negotiation accepted due (inl (step, inr (refusal, read, never), x)) = absurd (cc (never))
later acceptor after moment token list random negotiation accepted due (inr (refusal, never, same, rest)) = absurd (cc (never))

-- where MICs are due, no token is Kerberos'
some_of : {A : Type 0} (f : A → Result Offer AcceptRefusal) (found : Option A) (offer : Offer) → Ok offer ≡ option_map_or f found (Err NoKerberos) → (a : A) × (Ok offer ≡ f a)
some_of f None offer never = absurd (cc (never))
some_of f (Some a) offer is = (a, is)

only_spnego : (spnego : Bool) (r : Result Offer AcceptRefusal) (offer : Offer) → Ok offer ≡ (if spnego then r else Err NotAToken) → Ok offer ≡ r
only_spnego true r offer is = is
only_spnego false r offer never = absurd (cc (never))

none_optimistic : (first : Bool) (tokens : Tokens) → not first ≡ true → (optimistic first tokens).mechanism ≡ None
none_optimistic true tokens never = absurd (cc (never))
none_optimistic false tokens is = refl

none_offered : (list : List ObjectIdentifierAsn1) (tokens : Tokens) (offer : Offer) → Ok offer ≡ offer_among list tokens → offer.terms.required ≡ true → offer.tokens.mechanism ≡ None
none_offered list tokens offer is required =
    let found = some_of (λ (mechanism : Mechanism). Ok (offer_by mechanism list tokens)) (kerberos_among list) offer is in
    let same = same_ok offer (offer_by found.0 list tokens) found.1 in
    ap (λ (o : Offer). o.tokens.mechanism) same ∙ none_optimistic (is_first list) tokens (sym (ap (λ (o : Offer). o.terms.required) same) ∙ required)

no_token : (token : List ℕ) (offer : Offer) → (offered token).gives (Ok offer) → offer.terms.required ≡ true → offer.tokens.mechanism ≡ None
unfolding offered
no_token token offer (inl (message, read, is)) required =
    let of_init = only_spnego (is_spnego message.oid) _ offer is in
    let listed = some_of (λ list. offer_among list.0 (tokens_of message.neg_token_init.0)) message.neg_token_init.0.mech_types.0 offer of_init in
    none_offered listed.0.0 (tokens_of message.neg_token_init.0) offer listed.1 required
no_token token offer (inr (none_is, never)) required = absurd (cc (never))

due_asked : (acceptor after : AcceptorRecord) (moment : ℕ) (random : List ℕ) (offer : Offer) (token : Option (List ℕ)) (step : Step) (accepted : Accepted) → offer.terms.required ≡ true
    → token ≡ None → (opened_by offer.mechanism offer.terms token offer.tokens.mic).gives (Ok step) → Takes step acceptor moment random (Ok accepted) after
    → IsDueAfter offer.terms.list accepted
due_asked acceptor after moment random offer None step accepted required unsaid is x =
    let taken = subst (λ (s : Step). Takes s acceptor moment random (Ok accepted) after) (same_ok step (AskFor offer.mechanism offer.terms) is) x in
    subst (IsDueAfter offer.terms.list) (sym (given accepted (asking offer.mechanism offer.terms) taken.1)) (required, refl)
due_asked acceptor after moment random offer (Some token) step accepted required never is x = absurd (cc (never))

pub first : (acceptor after : AcceptorRecord) (moment : ℕ) (token random : List ℕ) (offer : Offer) (accepted : Accepted)
    → ((message : List ℕ) → IsApReqToken token message → ⊥) → (offered token).gives (Ok offer) → offer.terms.required ≡ true
    → Handles (carried token) acceptor moment random (Ok accepted) after → IsDueAfter offer.terms.list accepted
unfolding carried negotiated
first acceptor after moment token random offer accepted none_is read required (inl (step, inl (message, is, same), x)) = absurd (none_is message is)
first acceptor after moment token random offer accepted none_is read required (inl (step, inr (bare, inl (other, also, is)), x)) =
    let same : other ≡ offer = same_ok other offer ((offered token).one (Ok other) (Ok offer) also read) in
    let here = subst (λ (o : Offer). (opened_by o.mechanism o.terms o.tokens.mechanism o.tokens.mic).gives (Ok step)) same is in
    due_asked acceptor after moment random offer offer.tokens.mechanism step accepted required (no_token token offer read required) here x
first acceptor after moment token random offer accepted none_is read required (inl (step, inr (bare, inr (refusal, also, never)), x)) = absurd (cc (never))
first acceptor after moment token random offer accepted none_is read required (inr (refusal, never, same, rest)) = absurd (cc (never))
