-- What an initiator takes as the answer to its first token some service sent.
use Rattle.std.proofs.Common.{◌≡◌, ◌⊎◌, Bool, true, false, not, List, Option, None, Some, Result, Ok, Err, refl, sym, ap, subst, ◌∙◌, inl, inr}
use Rattle.std.proofs.lemmas.Bool.{false≢true}
use Rattle.std.specs.Option.{option_map}
use Rattle.picky_asn1.specs.Bytes.{Bytes}
use Rattle.picky_asn1_der.specs.declared.wrapper.ExplicitContextTag.{ExplicitContextTag}
use Rattle.decision_tables.specs.Tables.{Table, ask, done, refuse}
use Rattle.krb_messages.specs.Messages.{IsApRep}
use Rattle.krb_messages.specs.declared.data_types.enc_ap_rep_part.EncApRepPartInner.{EncApRepPartInner}
use Rattle.krb_messages.specs.declared.messages.ap_rep.ApRepInner.{ApRepInner}
use Rattle.krb_kdc_exchanges.specs.Rows.{PkinitRows}
use Rattle.krb_client.specs.ApReply.{IsApPart, sole_ap_part, tells}
use Rattle.krb_client.specs.Asked.{ApAskedRecord}
use Rattle.krb_client.specs.Taking.{is_of_type}
use Rattle.krb_logins.proofs.TakenParts.{is_so}
use Rattle.krb_authenticity.specs.Parties.{ExchangeRecord, SentRecord}
use Rattle.krb_authenticity.proofs.Answered.{IsShownSo, shown_replied}
use Rattle.gss_contexts.specs.Contexts.{ContextRecord, sender_of}
use Rattle.gss_contexts.specs.declared.context_tokens.neg_token_targ.NegTokenTarg.{NegTokenTarg}
use Rattle.gss_acceptor.specs.Responses.{IsNegResp}
use Rattle.gss_acceptor.specs.Tokens.{ap_rep_front}
use Rattle.gss_initiator.specs.Contexts.{context_by, own_context, then_judged}
use Rattle.gss_initiator.specs.Replies.{IsTokenOf, Part, answered, by_error, ended, opened, told}
use Rattle.gss_initiator.specs.Responses.{judged_answer, responded, settled, settled_by}
use Rattle.gss_initiator.specs.Taking.{IsConcluded, TakenRecord, Takes, heard_as, unasked}
use Rattle.gss_initiator.specs.declared.initiated.Pending.{Pending}
use Rattle.gss_initiator.specs.declared.initiated.TokenForm.{TokenForm}
use Rattle.gss_initiator.specs.declared.initiated.TokenForm.TheVariants.{Bare, Negotiated}
use Rattle.gss_initiator.specs.declared.refusal.InitiateRefusal.{InitiateRefusal}
use Rattle.gss_initiator.specs.declared.refusal.InitiateRefusal.TheVariants.{NotAToken, NotAsked, NotSealed}
use Rattle.gss_logins.specs.AnsweredEnds.{CarriesReply, HasToken, IsAnsweredEnd, IsAnswerUnforged}
use Rattle.gss_logins.proofs.Unnamed.{Answer, Heard}

past_case : {T : Type 0} (case : Bool) (error : InitiateRefusal) (rest : Table (Result T InitiateRefusal)) (value : T) → (refuse case error rest).gives (Ok value) → (case ≡ false) × rest.gives (Ok value)
past_case true error rest value x = absurd (cc (x))
past_case false error rest value x = (refl, x)

-- ---- the AP-REP in a token

abbrev given : EncApRepPartInner → Part
given part = Ok part

abbrev refused : InitiateRefusal → Part
refused error = Err error

same_part : (a b : EncApRepPartInner) → given a ≡ given b → a ≡ b
same_part a b e = cc (e)

no_error_part : (token : Bytes) (part : EncApRepPartInner) → (by_error token).gives (Ok part) → ⊥
unfolding by_error
no_error_part token part (inl (message, is, inl (code, read, e))) = cc (e)
no_error_part token part (inl (message, is, inr (none, e))) = cc (e)
no_error_part token part (inr (none, e)) = cc (e)

module _ (asked : ApAskedRecord) where
  -- the part that is told was opened
  opened_so : (message : Bytes) (reply : ApRepInner) → IsApRep message reply → (part : EncApRepPartInner)
      → ((shown : EncApRepPartInner) × IsApPart asked reply.enc_part.0 shown × (told asked shown).gives (Ok part))
      ⊎ (((shown : EncApRepPartInner) → IsApPart asked reply.enc_part.0 shown → ⊥) × (given part ≡ refused NotSealed))
      → (so : IsShownSo asked message) × (so.part ≡ part)
  opened_so message reply read part (inl (shown, opens, x)) =
      let own = past_case {T = EncApRepPartInner} (not (tells asked.time shown)) NotAsked (done (Ok shown)) part x in
      (record { reply = reply; read = read; part = shown; opens = opens; has_time = is_so (tells asked.time shown) own.0 }, sym (same_part part shown own.1))
  opened_so message reply read part (inr (none, e)) = absurd (cc (e))

  read_so : (message : Bytes) (reply : ApRepInner) → IsApRep message reply → (part : EncApRepPartInner) → (opened asked reply).gives (Ok part) → (so : IsShownSo asked message) × (so.part ≡ part)
  read_so message reply read part x =
      let opening : Table Part = ask (IsApPart asked reply.enc_part.0) (sole_ap_part asked reply.enc_part.0) (done (Err NotSealed)) (told asked) in
      opened_so message reply read part (past_case {T = EncApRepPartInner} (not (is_of_type 15 reply.pvno.0 reply.msg_type.0)) NotAToken opening part x).1

  answered_so : (token : Bytes) (part : EncApRepPartInner) → (answered asked token).gives (Ok part)
      → (message : Bytes) × IsTokenOf ap_rep_front token message × (so : IsShownSo asked message) × (so.part ≡ part)
  unfolding answered
  answered_so token part (inl (message, is, inl (reply, read, x))) = let own = read_so message reply read part x in (message, is, own.0, own.1)
  answered_so token part (inl (message, is, inr (none, e))) = absurd (cc (e))
  answered_so token part (inr (none, x)) = absurd (no_error_part token part x)

-- ---- the end that an answer makes

same_heard : (a b : Heard) → ◌≡◌ {A = Result Heard InitiateRefusal} (Ok a) (Ok b) → a ≡ b
same_heard a b e = cc (e)

same_answer : (a b : Answer) → ◌≡◌ {A = Result Answer InitiateRefusal} (Ok a) (Ok b) → a ≡ b
same_answer a b e = cc (e)

same_taken : (a b : TakenRecord) → ◌≡◌ {A = Result TakenRecord InitiateRefusal} (Ok a) (Ok b) → a ≡ b
same_taken a b e = cc (e)

abbrev heard_with : ContextRecord → Bool → Option Bytes → Heard
heard_with context due mic = record { context = context; is_due = due; mic = mic }

-- what is concluded has the end's key and side
concluded_end : (context : ContextRecord) (due : Bool) (mic : Option Bytes) (taken : TakenRecord) → IsConcluded (heard_with context due mic) (Ok taken) → sender_of taken.context ≡ sender_of context
concluded_end context true None taken e = absurd (cc (e))
concluded_end context false None taken e = ap (λ (t : TakenRecord). sender_of t.context) (same_taken taken (record { context = context; reply = None }) e)
concluded_end context true (Some theirs) taken (inl (after, own, exchanges, inl e)) = absurd (cc (e))
concluded_end context true (Some theirs) taken (inl (after, own, exchanges, inr e)) =
    ap (λ (t : TakenRecord). sender_of t.context) (same_taken taken _ e) ∙ ap sender_of exchanges.moved ∙ ap sender_of exchanges.takes.moved
concluded_end context true (Some theirs) taken (inr (cause, none, e)) = absurd (cc (e))
concluded_end context false (Some theirs) taken (inl (after, takes, e)) =
    ap (λ (t : TakenRecord). sender_of t.context) (same_taken taken (record { context = after; reply = None }) e) ∙ ap sender_of takes.moved
concluded_end context false (Some theirs) taken (inr (cause, none, e)) = absurd (cc (e))

-- what an answer of SPNEGO says
abbrev answer_with : Bool → Option Bytes → Option Bytes → Answer
answer_with due token mic = record { is_due = due; token = token; mic = mic }

said : (judged : Result Bool InitiateRefusal) (token mic : Option Bytes) (answer : Answer)
    → ◌≡◌ {A = Result Answer InitiateRefusal} (Ok answer) (then_judged judged (λ due. Ok (answer_with due token mic))) → (due : Bool) × (answer ≡ answer_with due token mic)
said (Ok due) token mic answer e = (due, same_answer answer (answer_with due token mic) e)
said (Err error) token mic answer e = absurd (cc (e))

abbrev token_in : NegTokenTarg → Option Bytes
token_in response = option_map (λ (held : ExplicitContextTag 2 Bytes). held.0) response.response_token.0

abbrev mic_in : NegTokenTarg → Option Bytes
mic_in response = option_map (λ (held : ExplicitContextTag 3 Bytes). held.0) response.mech_list_mic.0

responded_so : (token : Bytes) (answer : Answer) → (responded token).gives (Ok answer)
    → (response : NegTokenTarg) × IsNegResp token response × (due : Bool) × (answer ≡ answer_with due (token_in response) (mic_in response))
unfolding responded
responded_so token answer (inl (response, is, e)) =
    let own = said (judged_answer response) (token_in response) (mic_in response) answer e in (response, is, own.0, own.1)
responded_so token answer (inr (none, e)) = absurd (cc (e))

module _ (pending : Pending) where
  -- this AP-REP in the answer made the end, which nothing but numbers of changes behind it
  record IsHeardOf (form : TokenForm) (answer : Bytes) (it : Heard) : Type 0 where
    message : Bytes
    carries : CarriesReply form answer message
    so : IsShownSo pending.asked message
    context : ContextRecord
    makes : context_by pending so.part ≡ Ok context
    ends : (taken : TakenRecord) → IsConcluded it (Ok taken) → sender_of taken.context ≡ sender_of context

  ended_so : (token : Bytes) (context : ContextRecord) → (ended pending token).gives (Ok context)
      → (message : Bytes) × IsTokenOf ap_rep_front token message × (so : IsShownSo pending.asked message) × (context_by pending so.part ≡ Ok context)
  ended_so token context (inl (part, x, e)) =
      let own = answered_so pending.asked token part x in (own.0, own.1, own.2, ap (context_by pending) own.3 ∙ sym e)
  ended_so token context (inr (error, x, e)) = absurd (cc (e))

  -- an answer of SPNEGO has Kerberos' token
  settled_token : (held : Option (ExplicitContextTag 2 Bytes)) (context : ContextRecord) → pending.is_mutual ≡ true
      → (settled pending (option_map (λ (own : ExplicitContextTag 2 Bytes). own.0) held)).gives (Ok context) → (token : Bytes) × HasToken held token × (ended pending token).gives (Ok context)
  settled_token None context wanted x =
      let own = past_case {T = ContextRecord} pending.is_mutual NotAToken (done (own_context pending)) context x in absurd (false≢true (sym own.0 ∙ wanted))
  settled_token (Some held) context wanted x = (held.0, refl, (past_case {T = ContextRecord} (not pending.is_mutual) NotAToken (ended pending held.0) context x).1)

  settled_so : (answer : Bytes) (it : Heard) (response : NegTokenTarg) → IsNegResp answer response → (due : Bool) → pending.is_mutual ≡ true
      → (settled_by pending (answer_with due (token_in response) (mic_in response))).gives (Ok it) → IsHeardOf Negotiated answer it
  settled_so answer it response is due wanted (inl (context, x, e)) =
      let at = settled_token response.response_token.0 context wanted x in
      let own = ended_so at.0 context at.2 in
      let same = same_heard it (heard_with context due (mic_in response)) e in
      record {
        message = own.0;
        carries = (response, at.0, is, at.1, own.1);
        so = own.2;
        context = context;
        makes = own.3;
        ends = λ taken concluded. concluded_end context due (mic_in response) taken (subst (λ (h : Heard). IsConcluded h (Ok taken)) same concluded);
      }
  settled_so answer it response is due wanted (inr (error, x, e)) = absurd (cc (e))

  heard_so : (form : TokenForm) (answer : Bytes) (it : Heard) → pending.is_mutual ≡ true → (heard_as form pending answer).gives (Ok it) → IsHeardOf form answer it
  heard_so Bare answer it wanted (inl (context, x, e)) =
      let own = ended_so answer context x in
      let same = same_heard it (unasked context) e in
      record {
        message = own.0;
        carries = own.1;
        so = own.2;
        context = context;
        makes = own.3;
        ends = λ taken concluded. concluded_end context false None taken (subst (λ (h : Heard). IsConcluded h (Ok taken)) same concluded);
      }
  heard_so Bare answer it wanted (inr (error, x, e)) = absurd (cc (e))
  heard_so Negotiated answer it wanted (inl (said_so, x, y)) =
      let own = responded_so answer said_so x in
      settled_so answer it own.0 own.1 own.2 wanted (subst (λ (a : Answer). (settled_by pending a).gives (Ok it)) own.3 y)
  heard_so Negotiated answer it wanted (inr (error, x, e)) = absurd (cc (e))

pub end_answered : (rows : PkinitRows) (keys : List Bytes) (exchanges : List ExchangeRecord) (sent : SentRecord) (pending : Pending) (answer : Bytes) (taken : TakenRecord)
    → IsAnswerUnforged rows keys exchanges sent pending answer → Takes pending answer (Ok taken) → IsAnsweredEnd sent pending taken.context
end_answered rows keys exchanges sent pending answer taken unforged (inl (it, x, concluded)) =
    let own = heard_so pending pending.form answer it unforged.wanted x in
    let replied = shown_replied rows keys exchanges sent pending.asked own.message (unforged.opens own.message own.carries) unforged.kept own.so in
    record { by = replied.0; end = own.context; makes = ap (context_by pending) (sym replied.1) ∙ own.makes; same_sender = own.ends taken concluded }
end_answered rows keys exchanges sent pending answer taken unforged (inr (error, e, x)) = absurd (cc (e))
