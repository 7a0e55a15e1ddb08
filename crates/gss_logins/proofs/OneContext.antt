-- An honest login by GSS ends with two ends of one context.
use Rattle.std.proofs.Common.{◌≡◌, ◌⊎◌, ℕ, Bool, true, false, nat_lt, Option, None, Some, Result, Ok, Err, refl, sym, ap, subst, ◌∙◌, inl, inr, if◌then◌else◌, arith}
use Rattle.std.proofs.lemmas.Bool.Decides.{nat_tests}
use Rattle.std.specs.Prelude.{is_some, pos}
use Rattle.std.specs.Option.{option_map}
use Rattle.asn1_leaves.specs.GeneralizedTime.{seconds_of}
use Rattle.asn1_leaves.specs.declared.date.GeneralizedTime.{GeneralizedTime}
use Rattle.picky_asn1.specs.Bytes.{Bytes}
use Rattle.picky_asn1.specs.BitString.{bit_of}
use Rattle.krb_constants.specs.declared.ap_options.TheConstants.{MUTUAL_REQUIRED}
use Rattle.krb_crypto.specs.declared.suite.CipherSuite.{CipherSuite}
use Rattle.krb_crypto.specs.Suites.{cipher_confounder_size}
use Rattle.krb_messages.specs.RandomBytes.{ap_reply_confounder}
use Rattle.krb_messages.specs.declared.data_types.authenticator.AuthenticatorInner.{AuthenticatorInner}
use Rattle.krb_messages.specs.declared.data_types.encryption_key.EncryptionKey.{EncryptionKey}
use Rattle.krb_crypto.specs.Keys.{KeyRecord}
use Rattle.krb_tickets.specs.Keys.{key_in, suite_of}
use Rattle.krb_tickets.specs.Sealing.{encryption_key}
use Rattle.krb_tickets.proofs.KeySizes.{suite_of_sized}
use Rattle.krb_client.specs.Authenticators.{options_of}
use Rattle.krb_client.specs.Requests.{nonce_of}
use Rattle.krb_ap_requests.specs.declared.presented.Presented.{Presented}
use Rattle.krb_ap_requests.specs.declared.refusal.AdmitRefusal.{AdmitRefusal}
use Rattle.krb_ap_requests.specs.declared.refusal.AdmitRefusal.TheVariants as admit_refusal
use Rattle.krb_service.specs.Admission.{AdmissionRecord, admission_of}
use Rattle.krb_service.specs.ApReply.{IsReplyBy, IsReplyOf, ap_rep_part_with, reply_number, reply_subkey}
use Rattle.krb_service.specs.declared.reply.ReplyFields.TheVariants.{TimeAlone, SubkeyAndNumber}
use Rattle.krb_messages.specs.declared.data_types.enc_ap_rep_part.EncApRepPartInner.{EncApRepPartInner}
use Rattle.gss_contexts.specs.Contexts.{ContextRecord, is_newer}
use Rattle.gss_contexts.specs.Tokens.{is_set}
use Rattle.gss_contexts.specs.declared.side.Side.TheVariants.{Initiator}
use Rattle.gss_acceptor.specs.Accepting.{AcceptorRecord, AdmitRequest, Establishes, Handles, IsAnsweredAs, IsEstablished, Step, Takes, carried, delegation_to, established_of, judged}
use Rattle.gss_acceptor.specs.Concluding.{IsContextAnswered}
use Rattle.gss_acceptor.specs.Established.{EstablishedRecord}
use Rattle.gss_acceptor.specs.Tokens.{ap_rep_token}
use Rattle.gss_acceptor.specs.declared.accepted.Accepted.{Accepted}
use Rattle.gss_acceptor.specs.declared.accepted.Accepted.TheVariants.{Established}
use Rattle.gss_logins.proofs.Unnamed.{Exchange, Judged}
use Rattle.gss_acceptor.specs.declared.refusal.AcceptRefusal.{AcceptRefusal}
use Rattle.gss_acceptor.specs.declared.refusal.AcceptRefusal.TheVariants as accept_refusal
use Rattle.gss_initiator.specs.Checksums.{is_mutual}
use Rattle.gss_initiator.specs.Contexts.{acceptor_key, context_by, context_in, or_refused, then_judged}
use Rattle.gss_initiator.specs.Contexts as initiating
use Rattle.gss_acceptor.specs.Contexts.{fields_of, sending_number}
use Rattle.gss_initiator.specs.FirstTokens.{ap_req_token}
use Rattle.gss_initiator.specs.Initiating.{InitiatedRecord, Initiates, pending_of, progress_of}
use Rattle.gss_initiator.specs.Replies.{ended}
use Rattle.gss_initiator.specs.Requests.{AsksContext}
use Rattle.gss_initiator.specs.Taking.{TakenRecord, heard, unasked}
use Rattle.gss_initiator.specs.Taking as taking
use Rattle.gss_initiator.specs.declared.initiated.Pending.{Pending}
use Rattle.gss_initiator.specs.declared.initiated.Progress.{Progress}
use Rattle.gss_initiator.specs.declared.initiated.Progress.TheVariants as progress
use Rattle.gss_initiator.specs.declared.initiated.TokenForm.{TokenForm}
use Rattle.gss_initiator.specs.declared.initiated.TokenForm.TheVariants.{Bare}
use Rattle.gss_initiator.specs.declared.refusal.InitiateRefusal.{InitiateRefusal}
use Rattle.gss_initiator.specs.declared.refusal.InitiateRefusal.TheVariants as initiate_refusal
use Rattle.gss_logins.specs.GssLogins.{GssLogin, acceptor_of, choice_of, clock_of}
use Rattle.gss_logins.specs.Honest.{IsHonest}
use Rattle.gss_logins.specs.OneContext.{AreSides, EndsInOneContext, IsAccepted, IsEnded, IsOtherEnd}
use Rattle.gss_logins.proofs.Undelegated.{none_delegated, not_refused}
use Rattle.gss_logins.proofs.Accepted.{acceptor_end, acceptor_number, end_key_by, is_newer_suite, is_undelegated, judged_so, reply_subkey_sized, sends}
use Rattle.gss_logins.proofs.Admitted.{IsOwn, own_step}
use Rattle.gss_logins.proofs.Presented.{is_own, presents}
use Rattle.gss_logins.proofs.Replied.{answers, taken_as_heard}

-- the initiator's end
abbrev pub initiator_end : GssLogin → Bool → ContextRecord
initiator_end login has_reply = record {
  key = end_key_by login (sends login has_reply);
  side = Initiator;
  acceptor_subkey = sends login has_reply;
  in_sequence = is_set login.initial.flags.0 8;
  ends = None;
  sending = nonce_of login.words;
  taking = acceptor_number login has_reply;
}

-- how a context stands of a suite that isn't refused
at_once_so : (waits new : Bool) (other : Progress) (context : ContextRecord) → waits ≡ false → new ≡ true
    → (if waits then Ok other else then_judged (if new then Ok context else Err initiate_refusal.OldSuite) (λ it. Ok (progress.Established it))) ≡ Ok (progress.Established context)
at_once_so true new other context a b = absurd (cc (a))
at_once_so false true other context a b = refl
at_once_so false false other context a b = absurd (cc (b))

waiting_so : (waits : Bool) (other : Progress) (rest : Result Progress InitiateRefusal) → waits ≡ true → (if waits then Ok other else rest) ≡ Ok other
waiting_so true other rest a = refl
waiting_so false other rest a = absurd (cc (a))

pub newer_so : (new : Bool) (context : ContextRecord) → new ≡ true → (if new then Ok context else Err initiate_refusal.OldSuite) ≡ Ok context
newer_so true context e = refl
newer_so false context e = absurd (cc (e))

number_so : (fits : Bool) (number : ℕ) → fits ≡ true → or_refused (if fits then Some number else None) initiate_refusal.BadSequenceNumber ≡ Ok number
number_so true number e = refl
number_so false number e = absurd (cc (e))

-- they are the two sides
pub sides : (login : GssLogin) (endtime : GeneralizedTime) (has_reply : Bool) → AreSides (initiator_end login has_reply) (acceptor_end login endtime has_reply)
sides login endtime has_reply = record {
  initiates = refl;
  accepts = refl;
  ends = record { keyed = refl; forth = refl; back = refl; takes = refl; taken = refl };
}

same_established : (a b : EstablishedRecord) → ◌≡◌ {A = Result EstablishedRecord AcceptRefusal} (Ok a) (Ok b) → a ≡ b
same_established a b e = cc (e)

same_step : (a b : Step) → ◌≡◌ {A = Result Step AcceptRefusal} (Ok a) (Ok b) → a ≡ b
same_step a b e = cc (e)

same_judged : (a b : Judged) → ◌≡◌ {A = Result Judged AcceptRefusal} (Ok a) (Ok b) → a ≡ b
same_judged a b e = cc (e)

pub same_progress : (a b : Progress) → ◌≡◌ {A = Result Progress InitiateRefusal} (Ok a) (Ok b) → a ≡ b
same_progress a b e = cc (e)

same_accepted : (a b : EstablishedRecord) → ◌≡◌ {A = Result Accepted AcceptRefusal} (Ok (Established a)) (Ok (Established b)) → a ≡ b
same_accepted a b e = cc (e)

same_admission : (a b : AdmissionRecord) → ◌≡◌ {A = Result AdmissionRecord AdmitRefusal} (Ok a) (Ok b) → a ≡ b
same_admission a b e = cc (e)

-- the option is what was chosen
option_again : (mutual_required : Bool) → bit_of (options_of mutual_required) MUTUAL_REQUIRED ≡ mutual_required
option_again true = refl
option_again false = refl

module _ (login : GssLogin) (honest : IsHonest login) (request : Bytes) (asks : AsksContext login.client login.credential login.initial login.client_at login.words request) where
  abbrev second : GeneralizedTime
  second = asks.authenticates.authenticates.second

  abbrev pub shown : Presented
  shown =
      let choice = choice_of login honest.ticket.part honest.ticket.confounder asks.authenticator in
      let acceptable = (honest.admissible asks.authenticator asks.authenticates).acceptable in
      record {
        part = choice.part;
        suite = acceptable.suite;
        authenticator = choice.authenticator;
        time = acceptable.time;
        wants_reply = bit_of choice.outer.options MUTUAL_REQUIRED;
      }

  abbrev pub own_endtime : GeneralizedTime
  own_endtime = shown.part.endtime.0.0

  -- the session key's suite is the credential's
  own_session : suite_of shown.part.key.0 ≡ Some login.credential.suite
  own_session =
      ap suite_of honest.ticket.session ∙ suite_of_sized (encryption_key login.credential.suite login.credential.key) login.credential.suite refl honest.ticket.keyed

  own_suite : shown.suite ≡ login.credential.suite
  own_suite =
      let acceptable = (honest.admissible asks.authenticator asks.authenticates).acceptable in
      let both : ◌≡◌ {A = Option CipherSuite} (Some shown.suite) (Some login.credential.suite) = sym acceptable.session ∙ own_session in
      cc (both)

  abbrev pub own_judged : Option Bytes → Judged
  own_judged reply = record { initial = login.initial; context = acceptor_end login own_endtime (is_some reply) }

  abbrev pub own_established : Option Bytes → EstablishedRecord
  own_established reply = established_of (admission_of shown reply) (own_judged reply) None

  -- how an admission was judged
  abbrev IsMade : AdmissionRecord → Result EstablishedRecord AcceptRefusal → Type 0
  IsMade admission made = IsEstablished login.terms login.service.seen.skew login.service_words admission made

  judged_is : (reply : Option Bytes) → judged login.terms login.service.seen.skew login.service_words (admission_of shown reply) ≡ Ok (own_judged reply)
  judged_is reply = judged_so login honest.asking honest.answering shown reply second (is_own login asks.authenticator asks.authenticates) own_session

  -- the reply to the request, of these suite and key, is there where it is required
  abbrev IsReplied : CipherSuite → Bytes → Bool → Option Bytes → Type 0
  IsReplied suite key due reply =
      IsReplyBy due
      (IsReplyOf suite key (ap_reply_confounder (cipher_confounder_size suite) login.service_words) (ap_rep_part_with (fields_of login.terms) suite login.service_words asks.authenticator))
      reply

  abbrev pub IsDueReply : Bool → Option Bytes → Type 0
  IsDueReply due reply = IsReplied login.credential.suite login.credential.key due reply

  due_reply : (reply : Option Bytes) → IsReplied shown.suite shown.part.key.0.key_value.0 shown.wants_reply reply → IsDueReply (is_mutual login.initial.flags) reply
  due_reply reply x =
      let key : shown.part.key.0.key_value.0 ≡ login.credential.key = ap (λ (k : EncryptionKey). k.key_value.0) honest.ticket.session in
      let due = subst (λ b. IsReplied shown.suite shown.part.key.0.key_value.0 b reply) (option_again (is_mutual login.initial.flags)) x in
      let suited = subst (λ s. IsReplied s shown.part.key.0.key_value.0 (is_mutual login.initial.flags) reply) own_suite due in
      subst (λ k. IsReplied login.credential.suite k (is_mutual login.initial.flags) reply) key suited

  -- what the acceptor can end with: what it hands out of the own context, or it wants memory
  abbrev pub IsResult : (EstablishedRecord → EstablishedRecord) → Result Accepted AcceptRefusal → Type 0
  IsResult handed result =
      ((reply : Option Bytes) × IsDueReply (is_mutual login.initial.flags) reply × (result ≡ Ok (Established (handed (own_established reply)))))
      ⊎ ((refusal : AcceptRefusal) × (result ≡ Err refusal) × ((refusal ≡ accept_refusal.Memory) ⊎ (refusal ≡ accept_refusal.Admit admit_refusal.Memory)))

  -- where it hands this out of a context, as the request came
  module _ (exchange : Option Exchange) (handed : EstablishedRecord → EstablishedRecord)
      (hands_out : (established : EstablishedRecord) (result : Result Accepted AcceptRefusal) → IsContextAnswered exchange established result
      → (result ≡ Ok (Established (handed established))) ⊎ (result ≡ Err accept_refusal.Memory)) where
    -- by what was established of an admission
    by_established : (reply : Option Bytes) → IsDueReply (is_mutual login.initial.flags) reply → (made : Result EstablishedRecord AcceptRefusal) (result : Result Accepted AcceptRefusal)
        → IsMade (admission_of shown reply) made → IsAnsweredAs exchange made result → IsResult handed result
    by_established reply due (Ok established) result (it, judges, (delegated, delegates, same)) answered =
        let own = same_judged it (own_judged reply) (sym judges ∙ judged_is reply) in
        let told = subst (λ (j : Judged). (delegation_to (admission_of shown reply) j).gives (Ok delegated)) own delegates in
        let none = none_delegated login.initial.flags _ _ delegated (is_undelegated login honest.asking) told in
        let whole : established ≡ own_established reply = same ∙ (λ i. established_of (admission_of shown reply) (own i) (none i)) in
        elim (hands_out established result answered) [
          | inl is ↦ inl (reply, due, is ∙ ap (λ (e : EstablishedRecord). Ok (Established (handed e))) whole)
          | inr is ↦ inr (accept_refusal.Memory, is, inl refl)
        ]
    by_established reply due (Err refusal) result (inl judges) answered = let never = sym judges ∙ judged_is reply in absurd (cc (never))
    by_established reply due (Err refusal) result (inr (it, judges, inl memory)) answered = inr (refusal, answered, inl memory)
    by_established reply due (Err refusal) result (inr (it, judges, inr refuses)) answered =
        let own = same_judged it (own_judged reply) (sym judges ∙ judged_is reply) in
        let told = subst (λ (j : Judged). (delegation_to (admission_of shown reply) j).gives (Err refusal)) own refuses in
        absurd (not_refused login.initial.flags _ _ refusal (is_undelegated login honest.asking) told)

    -- by an admission that is the own one
    by_admission : (admission : AdmissionRecord) (made : Result EstablishedRecord AcceptRefusal) (result : Result Accepted AcceptRefusal)
        → IsOwn (fields_of login.terms) login.service (clock_of login) login.admitted request login.service_words (choice_of login honest.ticket.part honest.ticket.confounder asks.authenticator) (honest.admissible asks.authenticator asks.authenticates) (presents login honest request asks) (Ok admission)
        → IsMade admission made → IsAnsweredAs exchange made result → IsResult handed result
    by_admission admission made result (reply, is_reply, same) establishes answered =
        let own = same_admission admission (admission_of shown reply) same in
        by_established reply (due_reply reply is_reply) made result (subst (λ (a : AdmissionRecord). IsMade a made) own establishes) answered

    no_own : (cause : AdmitRefusal) (result : Result Accepted AcceptRefusal)
        → IsOwn (fields_of login.terms) login.service (clock_of login) login.admitted request login.service_words (choice_of login honest.ticket.part honest.ticket.confounder asks.authenticator) (honest.admissible asks.authenticator asks.authenticates) (presents login honest request asks) (Err cause)
        → IsResult handed result
    no_own cause result (reply, is_reply, never) = absurd (cc (never))

    pub by_step : (after : AcceptorRecord) (made : Result EstablishedRecord AcceptRefusal) (result : Result Accepted AcceptRefusal)
        → Establishes (acceptor_of login) login.service_at request login.service_words made after → IsAnsweredAs exchange made result → IsResult handed result
    by_step after made result (same_terms, inl (admission, admits, establishes)) answered =
        let step = own_step (fields_of login.terms) login.service (clock_of login) login.admitted request login.service_words (choice_of login honest.ticket.part honest.ticket.confounder asks.authenticator) (honest.admissible asks.authenticator asks.authenticates) (presents login honest request asks) (Ok admission) after.service.seen (admits.remembers login.admitted honest.window) in
        elim step [
          | inl own ↦ by_admission admission made result own establishes answered
          | inr never ↦ absurd (cc (never))
        ]
    by_step after made result (same_terms, inr (cause, admits, is)) answered =
        let step = own_step (fields_of login.terms) login.service (clock_of login) login.admitted request login.service_words (choice_of login honest.ticket.part honest.ticket.confounder asks.authenticator) (honest.admissible asks.authenticator asks.authenticates) (presents login honest request asks) (Err cause) after.service.seen (admits.remembers login.admitted honest.window) in
        let told = subst (λ (m : Result EstablishedRecord AcceptRefusal). IsAnsweredAs exchange m result) is answered in
        elim step [
          | inl own ↦ no_own cause result own
          | inr memory ↦ let same : cause ≡ admit_refusal.Memory = cc (memory) in inr (accept_refusal.Admit cause, told, inr (ap accept_refusal.Admit same))
        ]

    pub by_handling : (token : Bytes) → (carried token).gives (Ok (AdmitRequest request exchange)) → (after : AcceptorRecord) (result : Result Accepted AcceptRefusal)
        → Handles (carried token) (acceptor_of login) login.service_at login.service_words result after → IsResult handed result
    by_handling token own_carried after result (inl (step, gives, takes)) =
        let same = same_step step (AdmitRequest request exchange) ((carried token).one (Ok step) (Ok (AdmitRequest request exchange)) gives own_carried) in
        let own = subst (λ (s : Step). Takes s (acceptor_of login) login.service_at login.service_words result after) same takes in
        by_step after own.0 result own.1 own.2
    by_handling token own_carried after result (inr (refusal, is, same, inl memory)) = inr (refusal, is, inl memory)
    by_handling token own_carried after result (inr (refusal, is, same, inr gives)) =
        let never = (carried token).one (Err refusal) (Ok (AdmitRequest request exchange)) gives own_carried in absurd (cc (never))

    -- what the acceptor ends with is one context with the initiator's, if what it hands out is
    pub by_result : (progressed : Progress)
        → ((reply : Option Bytes) → IsDueReply (is_mutual login.initial.flags) reply → IsAccepted login (Ok (Established (handed (own_established reply)))) × IsEnded progressed (handed (own_established reply)))
        → (result : Result Accepted AcceptRefusal) → IsResult handed result
        → IsAccepted login result × ((established : EstablishedRecord) → result ≡ Ok (Established established) → IsEnded progressed established)
    by_result progressed ends result (inl (reply, due, same)) = (
      subst (IsAccepted login) (sym same) (ends reply due).0,
      λ established told.
          let own = same_accepted (handed (own_established reply)) established (sym same ∙ told) in
          subst (IsEnded progressed) own (ends reply due).1,
    )
    by_result progressed ends result (inr (refusal, same, memory)) = (
      subst (IsAccepted login) (sym same) memory,
      λ established told. let never = sym same ∙ told in absurd (cc (never)),
    )

  own_carried : (carried (ap_req_token request)).gives (Ok (AdmitRequest request None))
  unfolding carried
  own_carried = inl (request, refl, refl)

  abbrev pub pending_as : TokenForm → Pending
  pending_as form = pending_of login.credential login.initial.flags form login.client_at login.words

  abbrev own_pending : Pending
  own_pending = pending_as Bare

  -- without an AP-REP the initiator's end is there
  at_once : (reply : Option Bytes) (progressed : Progress) → is_mutual login.initial.flags ≡ false → IsDueReply (is_mutual login.initial.flags) reply → progress_of own_pending ≡ Ok progressed
      → IsEnded progressed (own_established reply)
  at_once reply progressed alone due is =
      let none : reply ≡ None = subst (λ b. IsDueReply b reply) alone due in
      let newer = is_newer_suite login honest.asking in
      let own : progress_of own_pending ≡ Ok (progress.Established (initiator_end login false)) = at_once_so (is_mutual login.initial.flags) (is_newer login.credential.suite) (progress.ContinueNeeded own_pending) (initiator_end login false) alone newer in
      let same = same_progress (progress.Established (initiator_end login false)) progressed (sym own ∙ is) in
      subst (λ (p : Progress). IsEnded p (own_established reply)) same
      (subst (λ (r : Option Bytes). IsEnded (progress.Established (initiator_end login false)) (own_established r)) (sym none) (sides login own_endtime false))

  -- with one the acceptor's token makes it
  abbrev pub own_content : EncApRepPartInner
  own_content = ap_rep_part_with (fields_of login.terms) login.credential.suite login.service_words asks.authenticator

  abbrev pub IsOwnReply : Bytes → Bytes → Type 0
  IsOwnReply confounder bytes = IsReplyOf login.credential.suite login.credential.key confounder own_content bytes

  -- by the acceptor's subkey and number, or by the initiator's subkey
  context_so : (form : TokenForm) (own : Bool) → context_by (pending_as form) (ap_rep_part_with (if own then SubkeyAndNumber else TimeAlone) login.credential.suite login.service_words asks.authenticator) ≡ Ok (record {
    key = end_key_by login own;
    side = Initiator;
    acceptor_subkey = own;
    in_sequence = is_set login.initial.flags.0 8;
    ends = None;
    sending = nonce_of login.words;
    taking = sending_number own true login.service_words (nonce_of login.words);
  })
  context_so form false =
      newer_so (is_newer login.credential.suite) (record {
        key = end_key_by login false;
        side = Initiator;
        acceptor_subkey = false;
        in_sequence = is_set login.initial.flags.0 8;
        ends = None;
        sending = nonce_of login.words;
        taking = 0;
      }) (is_newer_suite login honest.asking)
  context_so form true =
      let pending : Pending = pending_as form in
      let suite = login.credential.suite in
      let bytes = reply_subkey suite login.service_words in
      let number = reply_number login.service_words in
      let end : ContextRecord = record {
        key = end_key_by login true;
        side = Initiator;
        acceptor_subkey = true;
        in_sequence = is_set login.initial.flags.0 8;
        ends = None;
        sending = nonce_of login.words;
        taking = number;
      } in
      let below : nat_lt number 4294967296 ≡ true = grind (arith, nat_tests) in
      let numbered : initiating.acceptor_number (Some (pos number)) ≡ Ok number = number_so (nat_lt number 4294967296) number below in
      let sized = reply_subkey_sized login honest.asking honest.answering.enough in
      let found : key_in (encryption_key suite bytes) ≡ Some (record { suite = suite; bytes = bytes }) =
      ap (option_map (λ (s : CipherSuite). record { suite = s; bytes = bytes })) (suite_of_sized (encryption_key suite bytes) suite refl sized) in
      ap (λ (r : Result ℕ InitiateRefusal). then_judged r (λ n. then_judged (acceptor_key (key_in (encryption_key suite bytes))) (λ key. context_in key pending.in_sequence (record { sending = pending.number; taking = n })))) numbered
      ∙ ap (λ (k : Option KeyRecord). then_judged (acceptor_key k) (λ key. context_in key pending.in_sequence (record { sending = pending.number; taking = number }))) found
      ∙ newer_so (is_newer suite) end (is_newer_suite login honest.asking)

  pub own_ended : (form : TokenForm) (bytes confounder : Bytes) → IsOwnReply confounder bytes → (ended (pending_as form) (ap_rep_token bytes)).gives (Ok (initiator_end login true))
  own_ended form bytes confounder x =
      let own = is_own login asks.authenticator asks.authenticates in
      let time = asks.authenticates.authenticates.of_moment in
      let gives = answers (pending_as form).asked (fields_of login.terms) login.service_words confounder bytes asks.authenticator x (ap (λ (a : AuthenticatorInner). seconds_of a.ctime.0.0) own ∙ time) (ap (λ (a : AuthenticatorInner). a.cusec.0) own) in
      inl (own_content, gives, sym (context_so form login.terms.with_subkey))

  own_heard : (bytes confounder : Bytes) → IsOwnReply confounder bytes → (heard own_pending (ap_rep_token bytes)).gives (Ok (unasked (initiator_end login true)))
  own_heard bytes confounder x = inl (initiator_end login true, own_ended Bare bytes confounder x, refl)

  other_end : (bytes confounder : Bytes) → IsOwnReply confounder bytes
      → (result : Result TakenRecord InitiateRefusal) → taking.Takes own_pending (ap_rep_token bytes) result → IsOtherEnd (own_established (Some bytes)) result
  other_end bytes confounder x result takes =
      elim (taken_as_heard own_pending (ap_rep_token bytes) (initiator_end login true) result (own_heard bytes confounder x) takes) [
        | inl is ↦ subst (λ (r : Result TakenRecord InitiateRefusal). IsOtherEnd (own_established (Some bytes)) r) (sym is) (sides login own_endtime true, refl)
        | inr is ↦ subst (λ (r : Result TakenRecord InitiateRefusal). IsOtherEnd (own_established (Some bytes)) r) (sym is) refl
      ]

  by_reply : (reply : Option Bytes) → IsDueReply true reply → IsEnded (progress.ContinueNeeded own_pending) (own_established reply)
  by_reply None due = absurd due
  by_reply (Some bytes) due = (ap_rep_token bytes, refl, other_end bytes (ap_reply_confounder (cipher_confounder_size login.credential.suite) login.service_words) due)

  waiting : (reply : Option Bytes) (progressed : Progress) → is_mutual login.initial.flags ≡ true → IsDueReply (is_mutual login.initial.flags) reply → progress_of own_pending ≡ Ok progressed
      → IsEnded progressed (own_established reply)
  waiting reply progressed mutual_required due is =
      let own : progress_of own_pending ≡ Ok (progress.ContinueNeeded own_pending) = waiting_so (is_mutual login.initial.flags) (progress.ContinueNeeded own_pending) _ mutual_required in
      let same = same_progress (progress.ContinueNeeded own_pending) progressed (sym own ∙ is) in
      subst (λ (p : Progress). IsEnded p (own_established reply)) same (by_reply reply (subst (λ b. IsDueReply b reply) mutual_required due))

  ended_so : (due : Bool) (reply : Option Bytes) (progressed : Progress) → is_mutual login.initial.flags ≡ due → IsDueReply (is_mutual login.initial.flags) reply → progress_of own_pending ≡ Ok progressed
      → IsEnded progressed (own_established reply)
  ended_so true reply progressed = waiting reply progressed
  ended_so false reply progressed = at_once reply progressed

pub one_context : (login : GssLogin) (result : Result InitiatedRecord InitiateRefusal) → IsHonest login
    → Initiates login.client login.credential login.initial Bare login.client_at login.words result → EndsInOneContext login result
one_context login (Ok initiated) honest (offered, sends, progressed) = λ answer after handles.
    let own = subst (λ (t : Bytes). Handles (carried t) (acceptor_of login) login.service_at login.service_words answer after) sends.is_token handles in
    let request = sends.request in
    let asks = sends.asks in
    let hands_out : (established : EstablishedRecord) (result : Result Accepted AcceptRefusal) → IsContextAnswered None established result → (result ≡ Ok (Established established)) ⊎ (result ≡ Err accept_refusal.Memory) = λ established result is. inl is in
    by_result login honest request asks None (λ e. e) hands_out initiated.progress
    (λ reply due. ((refl, refl), ended_so login honest request asks (is_mutual login.initial.flags) reply initiated.progress refl due progressed))
    answer (by_handling login honest request asks None (λ e. e) hands_out (ap_req_token request) (own_carried login honest request asks) after answer own)
one_context login (Err refusal) honest (inl memory) = memory
one_context login (Err refusal) honest (inr refuses) = let never = sym honest.asking.offered ∙ refuses in absurd (cc (never))
