-- An honest login by GSS whose first token is one of SPNEGO ends with two ends of one context too.
use Rattle.std.proofs.Common.{◌≡◌, ◌⊎◌, Bool, true, false, not, [], ◌∷◌, ◌++◌, get_or, Option, None, Some, Result, Ok, Err, refl, sym, ap, subst, ◌∙◌, inl, inr, arith}
use Rattle.std.specs.Prelude.{is_some}
use Rattle.std.specs.Option.{option_map}
use Rattle.asn1_der.specs.Length.{element, length_octets}
use Rattle.asn1_der.specs.Tree.{IsWhole, Tree, constructed, der, ders, primitive, absent, wrapped}
use Rattle.asn1_der.proofs.Elements.{element-one}
use Rattle.asn1_der.proofs.Spelling.{der-wrapped}
use Rattle.asn1_leaves.specs.ObjectIdentifier.{oid_content, subidentifier}
use Rattle.x509_oids.specs.Identifiers as oids
use Rattle.picky_asn1.specs.Bytes.{Bytes}
use Rattle.krb_crypto.specs.Suites.{cipher_confounder_size}
use Rattle.krb_messages.specs.RandomBytes.{ap_reply_confounder}
use Rattle.decision_tables.specs.Tables.{done, refuse}
use Rattle.gss_contexts.specs.declared.context_tokens.neg_token_targ.NegTokenTarg.{NegTokenTarg}
use Rattle.gss_contexts.specs.Contexts.{is_newer}
use Rattle.gss_acceptor.specs.Accepting.{AdmitRequest, Handles, carried, held, negotiated}
use Rattle.gss_acceptor.specs.Answers.{neg_token_resp, state_field, supported_field}
use Rattle.gss_acceptor.specs.Concluding.{IsContextAnswered}
use Rattle.gss_acceptor.specs.Established.{EstablishedRecord}
use Rattle.gss_acceptor.specs.Negotiation.{mech_types_octets, neg_init_tree, offered}
use Rattle.gss_acceptor.specs.Responses.{IsNegResp, neg_resp_tree}
use Rattle.gss_acceptor.specs.Tokens.{IsApReqToken, ap_rep_token, ap_req_front}
use Rattle.gss_acceptor.specs.declared.accepted.Accepted.{Accepted}
use Rattle.gss_acceptor.specs.declared.accepted.Accepted.TheVariants.{Established}
use Rattle.gss_acceptor.specs.declared.answer.NegState.TheVariants.{AcceptCompleted}
use Rattle.gss_acceptor.specs.declared.mechanism.Mechanism.TheVariants.{Standard}
use Rattle.gss_acceptor.specs.declared.refusal.AcceptRefusal.{AcceptRefusal}
use Rattle.gss_acceptor.specs.declared.refusal.AcceptRefusal.TheVariants as accept_refusal
use Rattle.gss_initiator.specs.Checksums.{is_mutual}
use Rattle.gss_initiator.specs.Contexts.{own_context}
use Rattle.gss_initiator.specs.FirstTokens.{ap_req_token, mechanisms, neg_init, neg_init_token}
use Rattle.gss_initiator.specs.Initiating.{InitiatedRecord, Initiates}
use Rattle.gss_initiator.specs.Replies.{ended}
use Rattle.gss_initiator.specs.Requests.{AsksContext}
use Rattle.gss_initiator.specs.Responses.{responded, settled}
use Rattle.gss_initiator.specs.Taking.{TakenRecord, heard, unasked}
use Rattle.gss_initiator.specs.Taking as taking
use Rattle.gss_initiator.specs.declared.initiated.Pending.{Pending}
use Rattle.gss_initiator.specs.declared.initiated.Progress.{Progress}
use Rattle.gss_initiator.specs.declared.initiated.Progress.TheVariants as progress
use Rattle.gss_initiator.specs.declared.initiated.TokenForm.TheVariants.{Negotiated}
use Rattle.gss_initiator.specs.declared.refusal.InitiateRefusal.{InitiateRefusal}
use Rattle.gss_initiator.specs.declared.refusal.InitiateRefusal.TheVariants.{NotAToken}
use Rattle.gss_logins.specs.GssLogins.{GssLogin, acceptor_of}
use Rattle.gss_logins.specs.Honest.{IsHonest}
use Rattle.gss_logins.specs.OneContext.{EndsInOneContext, IsEnded, IsOtherEnd}
use Rattle.gss_logins.proofs.Accepted.{is_newer_suite}
use Rattle.gss_logins.proofs.OneContext.{IsDueReply, IsOwnReply, by_handling, by_result, initiator_end, newer_so, own_ended, own_endtime, own_established, pending_as, same_progress, sides}
use Rattle.gss_logins.proofs.Replied.{taken_as_heard}
use Rattle.gss_logins.proofs.Unnamed.{Answer, Exchange, Offer}

-- the first token of SPNEGO offers Kerberos first, with its token
abbrev own_offer : Bytes → Offer
own_offer token = record {
  mechanism = Standard;
  terms = record { list = mech_types_octets mechanisms; required = false };
  tokens = record { mechanism = Some token; mic = None };
}

whole_init : (token : Bytes) → IsWhole (neg_init_tree (neg_init token))
whole_init token = (tt, (((((tt, tt), tt), ((tt, tt), tt)), tt), tt))

own_offered : (token : Bytes) → (offered (neg_init_token token)).gives (Ok (own_offer token))
unfolding offered neg_init_token oid_content subidentifier
own_offered token = inl (neg_init token, (whole_init token, refl), refl)

-- it is no token of Kerberos: another mechanism's identifier is in it
content_of : Tree → Bytes
content_of (primitive first content) = content
content_of (constructed first parts) = ders parts
content_of absent = []

bare_content : (token request : Bytes) → IsApReqToken (neg_init_token token) request → content_of (neg_init_tree (neg_init token)) ≡ ap_req_front ++ request
unfolding neg_init_token content_of
bare_content token request is =
    (element-one 96 96 (content_of (neg_init_tree (neg_init token))) (ap_req_front ++ request) [] [] (ap (λ (octets : Bytes). octets ++ []) is)).1

not_bare : (token request : Bytes) → IsApReqToken (neg_init_token token) request → ⊥
unfolding content_of element length_octets oid_content subidentifier
not_bare token request is =
    let second : 6 ≡ 9 = ap (λ (octets : Bytes). get_or octets 1 0) (bare_content token request is) in omega (arith, second)

-- so the request in it is admitted, and answered in SPNEGO
abbrev own_exchange : Exchange
own_exchange = record { supported = Some Standard; terms = record { list = mech_types_octets mechanisms; required = false }; mic = None }

own_carried : (request : Bytes) → (carried (neg_init_token (ap_req_token request))).gives (Ok (AdmitRequest request (Some own_exchange)))
unfolding carried negotiated held
own_carried request = inr (not_bare (ap_req_token request), inl (own_offer (ap_req_token request), own_offered (ap_req_token request), inl (request, refl, refl)))

-- the answer of SPNEGO with this token of Kerberos, or none
abbrev own_answer : Option Bytes → Bytes
own_answer token = neg_token_resp AcceptCompleted (Some Standard) token None

abbrev handed : EstablishedRecord → EstablishedRecord
handed established = record established { reply = Some (own_answer established.reply) }

hands_out : (established : EstablishedRecord) (result : Result Accepted AcceptRefusal) → IsContextAnswered (Some own_exchange) established result
    → (result ≡ Ok (Established (handed established))) ⊎ (result ≡ Err accept_refusal.Memory)
hands_out established result (inl memory) = inr memory
hands_out established result (inr is) = inl is

-- it is read as the message that it is
abbrev own_message : Option Bytes → NegTokenTarg
own_message token = record {
  neg_result = record { 0 = Some (record { 0 = record { first = 10; content = 0 ∷ [] } }) };
  supported_mech = record { 0 = Some (record { 0 = record { 0 = oids.krb5 } }) };
  response_token = record { 0 = option_map (λ octets. record { 0 = octets }) token };
  mech_list_mic = record { 0 = None };
}

state_is : der (wrapped 160 (primitive 10 (0 ∷ []))) ≡ state_field AcceptCompleted
unfolding element length_octets
state_is = refl

supported_is : der (wrapped 161 (primitive 6 (oid_content oids.krb5))) ≡ supported_field (Some Standard)
unfolding element length_octets oid_content subidentifier
supported_is = refl

own_message_is : (token : Option Bytes) → IsNegResp (own_answer token) (own_message token)
own_message_is None =
    let tree : Tree = neg_resp_tree (own_message None) in
    let whole : IsWhole tree = ((tt, tt), ((tt, tt), tt)) in
    ((whole, tt), sym (der-wrapped 161 tree whole ∙ (λ i. element 161 (element 48 (state_is i ++ (supported_is i ++ []))))))
own_message_is (Some octets) =
    let tree : Tree = neg_resp_tree (own_message (Some octets)) in
    let whole : IsWhole tree = ((tt, tt), ((tt, tt), ((tt, tt), tt))) in
    let token_is : der (wrapped 162 (primitive 4 octets)) ≡ element 162 (element 4 octets) = der-wrapped 162 (primitive 4 octets) tt in
    ((whole, tt), sym (der-wrapped 161 tree whole ∙ (λ i. element 161 (element 48 (state_is i ++ (supported_is i ++ (token_is i ++ [])))))))

abbrev own_told : Option Bytes → Answer
own_told token = record { is_due = false; token = token; mic = None }

own_responded : (token : Option Bytes) → (responded (own_answer token)).gives (Ok (own_told token))
unfolding responded element length_octets oid_content subidentifier
own_responded None = inl (own_message None, own_message_is None, refl)
own_responded (Some octets) = inl (own_message (Some octets), own_message_is (Some octets), refl)

module _ (login : GssLogin) (honest : IsHonest login) (request : Bytes) (asks : AsksContext login.client login.credential login.initial login.client_at login.words request) where
  abbrev own_pending : Pending
  own_pending = pending_as login honest request asks Negotiated

  abbrev IsDue : Bool → Option Bytes → Type 0
  IsDue = IsDueReply login honest request asks

  -- the answer makes the initiator's end
  with_token : (bytes confounder : Bytes) → is_mutual login.initial.flags ≡ true → IsOwnReply login honest request asks confounder bytes
      → (heard own_pending (own_answer (Some (ap_rep_token bytes)))).gives (Ok (unasked (initiator_end login true)))
  with_token bytes confounder mutual_required x =
      let token = ap_rep_token bytes in
      let made = own_ended login honest request asks Negotiated bytes confounder x in
      let row : (settled own_pending (Some token)).gives (Ok (initiator_end login true)) =
      subst (λ (b : Bool). (refuse (not b) NotAToken (ended own_pending token)).gives (Ok (initiator_end login true))) (sym mutual_required) made in
      inl (own_told (Some token), own_responded (Some token), inl (initiator_end login true, row, refl))

  without_token : is_mutual login.initial.flags ≡ false → (heard own_pending (own_answer None)).gives (Ok (unasked (initiator_end login false)))
  without_token alone =
      let made : own_context own_pending ≡ Ok (initiator_end login false) = newer_so (is_newer login.credential.suite) (initiator_end login false) (is_newer_suite login honest.asking) in
      let row : (settled own_pending None).gives (Ok (initiator_end login false)) =
      subst (λ (b : Bool). (refuse b NotAToken (done (own_context own_pending))).gives (Ok (initiator_end login false))) (sym alone) (sym made) in
      inl (own_told None, own_responded None, inl (initiator_end login false, row, refl))

  other_end : (reply : Option Bytes) (answer : Bytes) → (heard own_pending answer).gives (Ok (unasked (initiator_end login (is_some reply))))
      → (result : Result TakenRecord InitiateRefusal) → taking.Takes own_pending answer result → IsOtherEnd (handed (own_established login honest request asks reply)) result
  other_end reply answer gives result takes =
      let end = initiator_end login (is_some reply) in
      elim (taken_as_heard own_pending answer end result gives takes) [
        | inl is ↦ subst (λ (r : Result TakenRecord InitiateRefusal). IsOtherEnd (handed (own_established login honest request asks reply)) r) (sym is) (sides login (own_endtime login honest request asks) (is_some reply), refl)
        | inr is ↦ subst (λ (r : Result TakenRecord InitiateRefusal). IsOtherEnd (handed (own_established login honest request asks reply)) r) (sym is) refl
      ]

  ends : (due : Bool) (reply : Option Bytes) → is_mutual login.initial.flags ≡ due → IsDue due reply → IsEnded (progress.ContinueNeeded own_pending) (handed (own_established login honest request asks reply))
  ends true None mutual_required never = absurd never
  ends true (Some bytes) mutual_required x =
      let confounder = ap_reply_confounder (cipher_confounder_size login.credential.suite) login.service_words in
      let answer = own_answer (Some (ap_rep_token bytes)) in
      (answer, refl, other_end (Some bytes) answer (with_token bytes confounder mutual_required x))
  ends false reply alone is =
      let own : IsEnded (progress.ContinueNeeded own_pending) (handed (own_established login honest request asks None)) = (own_answer None, refl, other_end None (own_answer None) (without_token alone)) in
      subst (λ (r : Option Bytes). IsEnded (progress.ContinueNeeded own_pending) (handed (own_established login honest request asks r))) (sym is) own

pub one_negotiated_context : (login : GssLogin) (result : Result InitiatedRecord InitiateRefusal) → IsHonest login
    → Initiates login.client login.credential login.initial Negotiated login.client_at login.words result → EndsInOneContext login result
one_negotiated_context login (Ok initiated) honest (offered_so, sends, progressed) = λ answer after handles.
    let own = subst (λ (t : Bytes). Handles (carried t) (acceptor_of login) login.service_at login.service_words answer after) sends.is_token handles in
    let request = sends.request in
    let asks = sends.asks in
    let same = same_progress (progress.ContinueNeeded (own_pending login honest request asks)) initiated.progress progressed in
    by_result login honest request asks (Some own_exchange) handed hands_out initiated.progress
    (λ reply due. ((refl, refl), subst (λ (p : Progress). IsEnded p (handed (own_established login honest request asks reply))) same (ends login honest request asks (is_mutual login.initial.flags) reply refl due)))
    answer (by_handling login honest request asks (Some own_exchange) handed hands_out (neg_init_token (ap_req_token request)) (own_carried request) after answer own)
one_negotiated_context login (Err refusal) honest (inl memory) = memory
one_negotiated_context login (Err refusal) honest (inr refuses) = let never = sym honest.asking.offered ∙ refuses in absurd (cc (never))
