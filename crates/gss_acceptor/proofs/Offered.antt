-- What a token of SPNEGO holds, as it is read.
use Rattle.std.proofs.Common.{◌≡◌, ℕ, List, Result, Err, refl, inl, inr}
use Rattle.gss_contexts.specs.declared.context_tokens.gss_api_neg_init.GssApiNegInit.{GssApiNegInit}
use Rattle.gss_contexts.specs.declared.context_tokens.neg_token_targ.NegTokenTarg.{NegTokenTarg}
use Rattle.gss_acceptor.specs.Negotiation.{IsNegInit, IsRead, offer_in, offered}
use Rattle.gss_acceptor.specs.Responses.{IsNegResp, responded, tokens_in}
use Rattle.gss_acceptor.specs.declared.negotiation.Offer.{Offer}
use Rattle.gss_acceptor.specs.declared.refusal.AcceptRefusal.{AcceptRefusal}
use Rattle.gss_acceptor.specs.declared.refusal.AcceptRefusal.TheVariants.{NotAToken}

pub of_message : (token : List ℕ) (message : GssApiNegInit) (result : Result Offer AcceptRefusal) → IsNegInit token message
    → IsRead (λ (r : Result Offer AcceptRefusal). r ≡ offer_in message) result → IsRead (offered token).gives result
unfolding offered
of_message token message result is (inl memory) = inl memory
of_message token message result is (inr same) = inr (inl (message, is, same))

pub of_none : (token : List ℕ) → ((message : GssApiNegInit) → IsNegInit token message → ⊥) → IsRead (offered token).gives (Err NotAToken)
unfolding offered
of_none token none = inr (inr (none, refl))

pub of_response : (token : List ℕ) (message : NegTokenTarg) → IsNegResp token message → IsRead (responded token).gives (tokens_in message)
unfolding responded
of_response token message is = inr (inl (message, is, refl))

pub of_no_response : (token : List ℕ) → ((message : NegTokenTarg) → IsNegResp token message → ⊥) → IsRead (responded token).gives (Err NotAToken)
unfolding responded
of_no_response token none = inr (inr (none, refl))
