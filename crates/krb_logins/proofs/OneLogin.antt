-- A login has one outcome: each of its steps has one, memory aside.
use Rattle.std.proofs.Common.{◌≡◌, ◌⊎◌, true, false, List, None, Some, Result, Ok, Err, inl, inr, refl, sym, subst, ap, ◌∙◌}
use Rattle.asn1_leaves.specs.declared.date.GeneralizedTime.{GeneralizedTime}
use Rattle.picky_asn1.specs.Bytes.{Bytes}
use Rattle.krb_time.specs.Units.{Micros}
use Rattle.krb_messages.specs.RandomBytes.{Random}
use Rattle.krb_realm_accounts.specs.Names.{are_components}
use Rattle.krb_tickets.specs.Sealing.{encryption_key}
use Rattle.decision_tables.specs.Tables.{Table}
use Rattle.krb_frames.specs.declared.fault.AnswerRefusal.{AnswerRefusal}
use Rattle.krb_frames.specs.declared.fault.AnswerRefusal.TheVariants as answer_refusal
use Rattle.krb_kdc_exchanges.specs.Call.{CallRecord}
use Rattle.krb_messages.specs.TicketGranting.{krbtgt_of}
use Rattle.krb_kdc_exchanges.specs.Replies as replies
use Rattle.krb_kdc_exchanges.specs.Rows.{PkinitRows}
use Rattle.krb_service.specs.Pair.{PairRecord}
use Rattle.krb_service.specs.Admission.{AdmissionRecord}
use Rattle.krb_ap_requests.specs.declared.refusal.AdmitRefusal.{AdmitRefusal}
use Rattle.krb_ap_requests.specs.declared.refusal.AdmitRefusal.TheVariants as admit_refusal
use Rattle.krb_client.specs.Asked.{ApAskedRecord}
use Rattle.krb_client.specs.ApReply.{takes_ap_reply}
use Rattle.krb_client.specs.ApRequest.{sole_ap_request}
use Rattle.krb_client.specs.AsReply.{takes_as_reply}
use Rattle.krb_client.specs.AsRequest.{AsksAs, IsUnasked, as_body, sole_as_request}
use Rattle.krb_client.specs.Client.{ClientRecord, CredentialRecord}
use Rattle.krb_client.specs.Means.{MeansRecord}
use Rattle.krb_client.specs.Refusals.{IsTaken}
use Rattle.krb_client.specs.TgsReply.{takes_tgs_reply}
use Rattle.krb_client.specs.TgsRequest.{sole_tgs_request}
use Rattle.krb_client.specs.declared.refusal.AskRefusal.{AskRefusal}
use Rattle.krb_client.specs.declared.refusal.AskRefusal.TheVariants as ask_refusal
use Rattle.krb_client.specs.declared.refusal.TakeRefusal.{TakeRefusal}
use Rattle.krb_client.specs.declared.refusal.TakeRefusal.TheVariants as take_refusal
use Rattle.krb_service.specs.RememberingService.{Outcome, remembering}
use Rattle.krb_service.specs.Runs as runs
use Rattle.krb_service.specs.Service.{ServiceRecord}
use Rattle.krb_logins.proofs.ExchangeEnds.{no_refusal, no_reply, one_reply, one_value}
use Rattle.krb_logins.specs.Honest.{IsWantOfMemory, WantsMemory}
use Rattle.krb_logins.specs.LoginRun.{ApExchange, AsExchange, Exchanges, IsAdmitted, Login, LoginRun, TgsExchange, ended, followed, after_admission}
use Rattle.krb_logins.specs.Parties.{LoginRecord, RealmRecord, RememberedRecord, call_at}
use Rattle.krb_logins.specs.Steps.{AreDecided, IsApAsked, IsAsAsked, IsKdcAnswered, IsTgsAsked, IsUnnamed, reply_bytes}
use Rattle.krb_logins.specs.declared.refusal.LoginRefusal.{LoginRefusal}
use Rattle.krb_logins.specs.declared.refusal.LoginRefusal.TheVariants.{Answered, Asked, Taken}

-- the answer is a refusal since memory ran out
abbrev Wants : {A E : Type 0} → (E → Type 0) → Result A E → Type 0
Wants memory (Ok made) = ⊥
Wants memory (Err refusal) = memory refusal

-- two answers are one, or memory ran out in one of them
abbrev AreOne : {A E : Type 0} → (E → Type 0) → Result A E → Result A E → Type 0
AreOne memory result other = Wants memory result ⊎ Wants memory other ⊎ (result ≡ other)

-- memory aside, a step has one answer
abbrev IsOne : {A E : Type 0} → (E → Type 0) → (Result A E → Type 0) → Type 0
IsOne {A} {E} memory does = (result other : Result A E) → does result → does other → AreOne memory result other

same_pair : {A B : Type 0} (p q : A × B) → p.0 ≡ q.0 → p.1 ≡ q.1 → p ≡ q
same_pair (a, b) (c, d) e f = cc

-- a step and those that follow it
module _ {A E T : Type 0} (memory : E → Type 0) (does : Result A E → Type 0) (told : E → LoginRefusal) (rest : A → Result T LoginRefusal → Type 0)
    (rests : (made : A) → IsOne IsWantOfMemory (rest made)) (aside : (refusal : E) → memory refusal → IsWantOfMemory (told refusal)) where
  both_made : (made other_made : A) (result other : Result T LoginRefusal) → rest made result → rest other_made other
      → AreOne {A = A} {E = E} memory (Ok made) (Ok other_made) → AreOne IsWantOfMemory result other
  both_made made other_made result other x y (inl none) = absurd none
  both_made made other_made result other x y (inr (inl none)) = absurd none
  both_made made other_made result other x y (inr (inr e)) = rests other_made result other (subst (λ a. rest a result) (one_value made other_made e) x) y

  one_made : (made : A) (refusal : E) (result other : Result T LoginRefusal) → other ≡ Err (told refusal)
      → AreOne {A = A} {E = E} memory (Ok made) (Err refusal) → AreOne IsWantOfMemory result other
  one_made made refusal result other is (inl none) = absurd none
  one_made made refusal result other is (inr (inl wants)) = inr (inl (subst (Wants IsWantOfMemory) (sym is) (aside refusal wants)))
  one_made made refusal result other is (inr (inr e)) = absurd (no_refusal refusal made (sym e))

  other_made : (refusal : E) (made : A) (result other : Result T LoginRefusal) → result ≡ Err (told refusal)
      → AreOne {A = A} {E = E} memory (Err refusal) (Ok made) → AreOne IsWantOfMemory result other
  other_made refusal made result other is (inl wants) = inl (subst (Wants IsWantOfMemory) (sym is) (aside refusal wants))
  other_made refusal made result other is (inr (inl none)) = absurd none
  other_made refusal made result other is (inr (inr e)) = absurd (no_refusal refusal made e)

  none_made : (refusal other_refusal : E) (result other : Result T LoginRefusal) → result ≡ Err (told refusal) → other ≡ Err (told other_refusal)
      → AreOne {A = A} {E = E} memory (Err refusal) (Err other_refusal) → AreOne IsWantOfMemory result other
  none_made refusal other_refusal result other is other_is (inl wants) = inl (subst (Wants IsWantOfMemory) (sym is) (aside refusal wants))
  none_made refusal other_refusal result other is other_is (inr (inl wants)) = inr (inl (subst (Wants IsWantOfMemory) (sym other_is) (aside other_refusal wants)))
  none_made refusal other_refusal result other is other_is (inr (inr e)) = inr (inr cc)

  one_followed : IsOne memory does → IsOne IsWantOfMemory (followed does told rest)
  one_followed one result other (inl x) (inl y) = both_made x.0 y.0 result other x.2 y.2 (one (Ok x.0) (Ok y.0) x.1 y.1)
  one_followed one result other (inl x) (inr y) = one_made x.0 y.0 result other y.2 (one (Ok x.0) (Err y.0) x.1 y.1)
  one_followed one result other (inr x) (inl y) = other_made x.0 y.0 result other x.2 (one (Err x.0) (Ok y.0) x.1 y.1)
  one_followed one result other (inr x) (inr y) = none_made x.0 y.0 result other x.2 y.2 (one (Err x.0) (Err y.0) x.1 y.1)

one_ended : {A : Type 0} (made : A) → IsOne IsWantOfMemory (ended made)
one_ended made result other x y = inr (inr (x ∙ sym y))

-- the refusals of each party if memory ran out
abbrev AskWants : AskRefusal → Type 0
AskWants refusal = refusal ≡ ask_refusal.Memory

abbrev AnswerWants : AnswerRefusal → Type 0
AnswerWants refusal = refusal ≡ answer_refusal.Memory

abbrev TakeWants : TakeRefusal → Type 0
TakeWants refusal = refusal ≡ take_refusal.Memory

abbrev AdmitWants : AdmitRefusal → Type 0
AdmitWants refusal = refusal ≡ admit_refusal.Memory

-- a name is asked for or refused
asked_or_not : {A : Type 0} (service : List Bytes) (made : A) (refusal : AskRefusal) → are_components service ≡ true → IsUnnamed service refusal → AskWants refusal
asked_or_not service made refusal named (inl wants) = wants
asked_or_not service made refusal named (inr x) = cc (named, x.1)

none_asked : {A : Type 0} (service : List Bytes) (refusal other : AskRefusal) → IsUnnamed service refusal → IsUnnamed service other → AreOne {A = A} AskWants (Err refusal) (Err other)
none_asked service refusal other (inl wants) y = inl wants
none_asked service refusal other (inr x) (inl wants) = inr (inl wants)
none_asked service refusal other (inr x) (inr y) = inr (inr (ap Err (x.0 ∙ sym y.0)))

-- a first ticket is asked for or not, by means that refuse no request that they have padata for
first_or_not : (client : ClientRecord) (means : MeansRecord) (service : List Bytes) (till : GeneralizedTime) (moment : Micros) (words : Random) (bytes : Bytes) (refusal : AskRefusal) → AreDecided means
    → AsksAs client means service till moment words bytes → are_components service ≡ true → IsUnasked client means service till moment words refusal → AskWants refusal
first_or_not client means service till moment words bytes refusal decided asks named (inl x) = cc (named, x.1)
first_or_not client means service till moment words bytes refusal decided asks named (inr (inl wants)) = wants
first_or_not client means service till moment words bytes refusal decided asks named (inr (inr x)) =
    absurd (decided (as_body client service till words) moment words asks.padata asks.shown x.1)

-- what refuses it is one
abbrev FirstNamed : List Bytes → AskRefusal → Type 0
FirstNamed service refusal = are_components service ≡ false → refusal ≡ ask_refusal.BadName

none_first : {A : Type 0} (client : ClientRecord) (means : MeansRecord) (service : List Bytes) (till : GeneralizedTime) (moment : Micros) (words : Random) (refusal other : AskRefusal)
    → IsUnasked client means service till moment words refusal → FirstNamed service refusal → IsUnasked client means service till moment words other → FirstNamed service other
    → AreOne {A = A} AskWants (Err refusal) (Err other)
none_first client means service till moment words refusal other (inl x) named y other_named = inr (inr (ap Err (x.0 ∙ sym (other_named x.1))))
none_first client means service till moment words refusal other (inr (inl wants)) named y other_named = inl wants
none_first client means service till moment words refusal other (inr (inr x)) named (inl y) other_named = inr (inr (ap Err (named y.1 ∙ sym y.0)))
none_first client means service till moment words refusal other (inr (inr x)) named (inr (inl wants)) other_named = inr (inl wants)
none_first client means service till moment words refusal other (inr (inr x)) named (inr (inr y)) other_named = inr (inr (ap Err (x.0 ∙ sym y.0)))

one_as_asked : (client : ClientRecord) (means : MeansRecord) (service : List Bytes) (till : GeneralizedTime) (moment : Micros) (words : Random) → AreDecided means
    → IsOne AskWants (IsAsAsked client means service till moment words)
unfolding IsAsAsked
one_as_asked client means service till moment words decided (Ok sent) (Ok other) x y =
    inr (inr (ap Ok (same_pair sent other (sole_as_request client means service till moment words sent.0 other.0 x.0 y.0) (x.1 ∙ sym y.1))))
one_as_asked client means service till moment words decided (Ok sent) (Err refusal) x y = inr (inl (first_or_not client means service till moment words sent.0 refusal decided x.0 x.2 y.0))
one_as_asked client means service till moment words decided (Err refusal) (Ok sent) x y = inl (first_or_not client means service till moment words sent.0 refusal decided y.0 y.2 x.0)
one_as_asked client means service till moment words decided (Err refusal) (Err other) x y = none_first client means service till moment words refusal other x.0 x.1 y.0 y.1

one_tgs_asked : (client : ClientRecord) (credential : CredentialRecord) (service : List Bytes) (till : GeneralizedTime) (moment : Micros) (words : Random)
    → IsOne AskWants (IsTgsAsked client credential service till moment words)
unfolding IsTgsAsked
one_tgs_asked client credential service till moment words (Ok sent) (Ok other) x y =
    inr (inr (ap Ok (same_pair sent other (sole_tgs_request client credential service till moment words sent.0 other.0 x.0 y.0) (x.1 ∙ sym y.1))))
one_tgs_asked client credential service till moment words (Ok sent) (Err refusal) x y = inr (inl (asked_or_not service sent refusal x.2 y))
one_tgs_asked client credential service till moment words (Err refusal) (Ok sent) x y = inl (asked_or_not service sent refusal y.2 x)
one_tgs_asked client credential service till moment words (Err refusal) (Err other) x y = none_asked service refusal other x y

one_ap_asked : (client : ClientRecord) (credential : CredentialRecord) (moment : Micros) (words : Random) → IsOne AskWants (IsApAsked client credential moment words)
unfolding IsApAsked
one_ap_asked client credential moment words (Ok sent) (Ok other) x y =
    inr (inr (ap Ok (same_pair sent other (sole_ap_request client credential true false moment words sent.0 other.0 x.0 y.0) (x.1 ∙ sym y.1))))
one_ap_asked client credential moment words (Ok sent) (Err refusal) x y = inr (inl y)
one_ap_asked client credential moment words (Err refusal) other x y = inl x

-- the realm's reply is one
one_answered : (call : CallRecord) (rows : PkinitRows) (request : Bytes) → IsOne AnswerWants (IsKdcAnswered call rows request)
unfolding IsKdcAnswered
one_answered call rows request (Ok reply) (Ok other) x y = inr (inr (ap Ok (one_reply reply other (replies.one_reply call rows request (Some reply) (Some other) x y))))
one_answered call rows request (Ok reply) (Err answer_refusal.Unreadable) x y = absurd (no_reply reply (replies.one_reply call rows request None (Some reply) y x))
one_answered call rows request (Err answer_refusal.Unreadable) (Ok reply) x y = absurd (no_reply reply (replies.one_reply call rows request None (Some reply) x y))
one_answered call rows request (Err answer_refusal.Unreadable) (Err answer_refusal.Unreadable) x y = inr (inr refl)
one_answered call rows request result (Err answer_refusal.Memory) x y = inr (inl refl)
one_answered call rows request (Err answer_refusal.Memory) other x y = inl refl
one_answered call rows request result (Err answer_refusal.Accounts) x y = absurd y
one_answered call rows request (Err answer_refusal.Accounts) other x y = absurd x

-- what a table takes is one
taken_by : {T : Type 0} (table : Table (Result T TakeRefusal)) (taken : Result T TakeRefusal) → IsTaken table taken → Wants TakeWants taken ⊎ table.gives taken
taken_by table (Ok made) x = inr x
taken_by table (Err take_refusal.Memory) x = inl refl
taken_by table (Err take_refusal.Unreadable) x = inr x
taken_by table (Err (take_refusal.Refused code)) x = inr x
taken_by table (Err take_refusal.NotTrusted) x = inr x
taken_by table (Err take_refusal.NotSealed) x = inr x
taken_by table (Err take_refusal.NotAsked) x = inr x

one_given : {T : Type 0} (table : Table (Result T TakeRefusal)) (taken other : Result T TakeRefusal) → Wants TakeWants taken ⊎ table.gives taken → Wants TakeWants other ⊎ table.gives other
    → AreOne TakeWants taken other
one_given table taken other (inl wants) y = inl wants
one_given table taken other (inr x) (inl wants) = inr (inl wants)
one_given table taken other (inr x) (inr y) = inr (inr (table.one taken other x y))

one_taken : {T : Type 0} (table : Table (Result T TakeRefusal)) → IsOne TakeWants (IsTaken table)
one_taken table taken other x y = one_given table taken other (taken_by table taken x) (taken_by table other y)

ask_aside : (refusal : AskRefusal) → AskWants refusal → IsWantOfMemory (Asked refusal)
ask_aside refusal wants = wants

answer_aside : (refusal : AnswerRefusal) → AnswerWants refusal → IsWantOfMemory (Answered refusal)
answer_aside refusal wants = wants

take_aside : (refusal : TakeRefusal) → TakeWants refusal → IsWantOfMemory (Taken refusal)
take_aside refusal wants = wants

-- taking a reply ends an exchange
one_taking : {T : Type 0} (table : Table (Result T TakeRefusal)) → IsOne IsWantOfMemory (followed (IsTaken table) Taken ended)
one_taking table = one_followed TakeWants (IsTaken table) Taken ended one_ended take_aside (one_taken table)

module _ (client : ClientRecord) (means : MeansRecord) (decided : AreDecided means) (realm : RealmRecord) (rows : PkinitRows) (service : ServiceRecord) (before : RememberedRecord) (login : LoginRecord) where
  abbrev as_call : CallRecord
  as_call = call_at realm login.realm_as login.realm_words_as

  abbrev tgs_call : CallRecord
  tgs_call = call_at realm login.realm_tgs login.realm_words_tgs

  one_as_exchange : IsOne IsWantOfMemory (AsExchange client means realm rows login)
  unfolding AsExchange
  one_as_exchange =
      one_followed AskWants (IsAsAsked client means (krbtgt_of client.realm) login.till login.client_as login.words_as) Asked
      (λ sent. followed (IsKdcAnswered as_call rows sent.0) Answered (λ reply. followed (IsTaken (takes_as_reply client means sent.1 reply)) Taken ended))
      (λ sent. one_followed AnswerWants (IsKdcAnswered as_call rows sent.0) Answered (λ reply. followed (IsTaken (takes_as_reply client means sent.1 reply)) Taken ended)
      (λ reply. one_taking (takes_as_reply client means sent.1 reply)) answer_aside (one_answered as_call rows sent.0))
      ask_aside (one_as_asked client means (krbtgt_of client.realm) login.till login.client_as login.words_as decided)

  one_tgs_exchange : (granting : CredentialRecord) → IsOne IsWantOfMemory (TgsExchange client realm rows login granting)
  unfolding TgsExchange
  one_tgs_exchange granting =
      one_followed AskWants (IsTgsAsked client granting login.service login.till login.client_tgs login.words_tgs) Asked
      (λ sent. followed (IsKdcAnswered tgs_call rows sent.0) Answered (λ reply. followed (IsTaken (takes_tgs_reply client sent.1 reply)) Taken ended))
      (λ sent. one_followed AnswerWants (IsKdcAnswered tgs_call rows sent.0) Answered (λ reply. followed (IsTaken (takes_tgs_reply client sent.1 reply)) Taken ended)
      (λ reply. one_taking (takes_tgs_reply client sent.1 reply)) answer_aside (one_answered tgs_call rows sent.0))
      ask_aside (one_tgs_asked client granting login.service login.till login.client_tgs login.words_tgs)

  -- the first exchange, and the one that follows it
  abbrev Followed : Result CredentialRecord LoginRefusal → Type 0
  Followed = followed (AsExchange client means realm rows login) (λ refusal. refusal) (TgsExchange client realm rows login)

  one_exchanges : IsOne IsWantOfMemory (Exchanges client means realm rows login)
  unfolding Exchanges
  one_exchanges = one_followed IsWantOfMemory (AsExchange client means realm rows login) (λ refusal. refusal) (TgsExchange client realm rows login) one_tgs_exchange (λ refusal wants. wants) one_as_exchange

  -- what is remembered is one
  abbrev AreOneRun : {A E : Type 0} → (E → Type 0) → Result A E → Result A E → RememberedRecord → RememberedRecord → Type 0
  AreOneRun memory result other after other_after = Wants memory result ⊎ Wants memory other ⊎ ((result ≡ other) × (after ≡ other_after))

  admitted_by : (gives : Outcome → Type 0) (admitted after : List PairRecord) (answer : Result AdmissionRecord AdmitRefusal) → runs.IsAdmissionAnswer gives admitted answer after
      → Wants AdmitWants answer ⊎ gives (answer, after)
  admitted_by gives admitted after (Ok admission) x = inr x
  admitted_by gives admitted after (Err admit_refusal.Unreadable) x = inr x
  admitted_by gives admitted after (Err (admit_refusal.Krb code)) x = inr x
  admitted_by gives admitted after (Err admit_refusal.Memory) x = inl refl

  same_remembered : (a b : RememberedRecord) → a.admitted ≡ b.admitted → a.greatest ≡ b.greatest → a ≡ b
  same_remembered a b e f = ap (λ x. record { admitted = x; greatest = a.greatest }) e ∙ ap (λ y. record { admitted = b.admitted; greatest = y }) f

  one_outcome : (table : Table Outcome) (answer other : Result AdmissionRecord AdmitRefusal) (after other_after : RememberedRecord) → after.greatest ≡ other_after.greatest
      → Wants AdmitWants answer ⊎ table.gives (answer, after.admitted) → Wants AdmitWants other ⊎ table.gives (other, other_after.admitted)
      → AreOneRun AdmitWants answer other after other_after
  one_outcome table answer other after other_after e (inl wants) y = inl wants
  one_outcome table answer other after other_after e (inr x) (inl wants) = inr (inl wants)
  one_outcome table answer other after other_after e (inr x) (inr y) =
      let same = table.one (answer, after.admitted) (other, other_after.admitted) x y in
      inr (inr (ap (λ o. o.0) same, same_remembered after other_after (ap (λ o. o.1) same) e))

  one_admission : (request : Bytes) (answer other : Result AdmissionRecord AdmitRefusal) (after other_after : RememberedRecord)
      → IsAdmitted service login request before answer after → IsAdmitted service login request before other other_after → AreOneRun AdmitWants answer other after other_after
  unfolding IsAdmitted
  one_admission request answer other after other_after x y =
      let same : after.greatest ≡ other_after.greatest = x.0 ∙ sym y.0 in
      let table : Table Outcome = remembering service after.greatest before.admitted request login.service_words in
      one_outcome table answer other after other_after same
      (admitted_by table.gives before.admitted after.admitted answer x.1)
      (admitted_by table.gives before.admitted other_after.admitted other
      (subst (λ g. runs.IsAdmissionAnswer (remembering service g before.admitted request login.service_words).gives before.admitted other other_after.admitted) (sym same) y.1))

  -- what the client shows of an admission
  one_shown : (asked : ApAskedRecord) (answer : Result AdmissionRecord AdmitRefusal) → IsOne IsWantOfMemory (after_admission asked answer)
  one_shown asked (Ok admission) result other x y =
      one_followed TakeWants (IsTaken (takes_ap_reply asked (reply_bytes admission.reply))) Taken (λ _. ended (encryption_key asked.suite asked.key, admission))
      (λ _. one_ended (encryption_key asked.suite asked.key, admission)) take_aside (one_taken (takes_ap_reply asked (reply_bytes admission.reply))) result other x y
  one_shown asked (Err refusal) result other x y = inr (inr (x ∙ sym y))

  shown_wants : (asked : ApAskedRecord) (answer : Result AdmissionRecord AdmitRefusal) (result : Result Login LoginRefusal) → Wants AdmitWants answer → after_admission asked answer result
      → Wants IsWantOfMemory result
  shown_wants asked (Ok admission) result wants x = absurd wants
  shown_wants asked (Err refusal) result wants x = subst (Wants IsWantOfMemory) (sym x) wants

  with_after : {A : Type 0} (result other : Result A LoginRefusal) (after other_after : RememberedRecord) → after ≡ other_after → AreOne IsWantOfMemory result other
      → AreOneRun IsWantOfMemory result other after other_after
  with_after result other after other_after e (inl wants) = inl wants
  with_after result other after other_after e (inr (inl wants)) = inr (inl wants)
  with_after result other after other_after e (inr (inr same)) = inr (inr (same, e))

  one_showing : (asked : ApAskedRecord) (answer other_answer : Result AdmissionRecord AdmitRefusal) (result other : Result Login LoginRefusal) (after other_after : RememberedRecord)
      → after_admission asked answer result → after_admission asked other_answer other → AreOneRun AdmitWants answer other_answer after other_after → AreOneRun IsWantOfMemory result other after other_after
  one_showing asked answer other_answer result other after other_after x y (inl wants) = inl (shown_wants asked answer result wants x)
  one_showing asked answer other_answer result other after other_after x y (inr (inl wants)) = inr (inl (shown_wants asked other_answer other wants y))
  one_showing asked answer other_answer result other after other_after x y (inr (inr same)) =
      with_after result other after other_after same.1 (one_shown asked other_answer result other (subst (λ a. after_admission asked a result) same.0 x) y)

  -- the AP exchange
  module _ (credential : CredentialRecord) where
    abbrev Asks : Result (Bytes × ApAskedRecord) AskRefusal → Type 0
    Asks = IsApAsked client credential login.client_ap login.words_ap

    abbrev Goes : Bytes × ApAskedRecord → Result Login LoginRefusal → RememberedRecord → Type 0
    Goes sent result after = (answer : Result AdmissionRecord AdmitRefusal) × IsAdmitted service login sent.0 before answer after × after_admission sent.1 answer result

    both_gone : (sent other_sent : Bytes × ApAskedRecord) (result other : Result Login LoginRefusal) (after other_after : RememberedRecord) → Goes sent result after → Goes other_sent other other_after
        → AreOne {A = Bytes × ApAskedRecord} {E = AskRefusal} AskWants (Ok sent) (Ok other_sent) → AreOneRun IsWantOfMemory result other after other_after
    both_gone sent other_sent result other after other_after x y (inl none) = absurd none
    both_gone sent other_sent result other after other_after x y (inr (inl none)) = absurd none
    both_gone sent other_sent result other after other_after x y (inr (inr e)) =
        let own = subst (λ s. Goes s result after) (one_value sent other_sent e) x in
        one_showing other_sent.1 own.0 y.0 result other after other_after own.2 y.2 (one_admission other_sent.0 own.0 y.0 after other_after own.1 y.1)

    unasked_wants : (refusal : AskRefusal) → Asks (Err refusal) → AskWants refusal
    unfolding IsApAsked
    unasked_wants refusal x = x

    refused_wants : (refusal : AskRefusal) (result : Result Login LoginRefusal) → Asks (Err refusal) → result ≡ Err (Asked refusal) → Wants IsWantOfMemory result
    refused_wants refusal result x e = subst (Wants IsWantOfMemory) (sym e) (unasked_wants refusal x)

    one_ap_exchange : (result other : Result Login LoginRefusal) (after other_after : RememberedRecord)
        → ApExchange client service login credential before result after → ApExchange client service login credential before other other_after
        → AreOneRun IsWantOfMemory result other after other_after
    unfolding ApExchange
    one_ap_exchange result other after other_after (inl x) (inl y) =
        both_gone x.0 y.0 result other after other_after x.2 y.2 (one_ap_asked client credential login.client_ap login.words_ap (Ok x.0) (Ok y.0) x.1 y.1)
    one_ap_exchange result other after other_after (inr x) y = inl (refused_wants x.0 result x.1 x.2)
    one_ap_exchange result other after other_after (inl x) (inr y) = inr (inl (refused_wants y.0 other y.1 y.2))

  -- a login
  both_hold : (credential other_credential : CredentialRecord) (result other : Result Login LoginRefusal) (after other_after : RememberedRecord)
      → ApExchange client service login credential before result after → ApExchange client service login other_credential before other other_after
      → AreOne {A = CredentialRecord} {E = LoginRefusal} IsWantOfMemory (Ok credential) (Ok other_credential) → AreOneRun IsWantOfMemory result other after other_after
  both_hold credential other_credential result other after other_after x y (inl none) = absurd none
  both_hold credential other_credential result other after other_after x y (inr (inl none)) = absurd none
  both_hold credential other_credential result other after other_after x y (inr (inr e)) =
      one_ap_exchange other_credential result other after other_after
      (subst (λ c. ApExchange client service login c before result after) (one_value credential other_credential e) x) y

  one_holds : (credential : CredentialRecord) (refusal : LoginRefusal) (result other : Result Login LoginRefusal) (after other_after : RememberedRecord) → other ≡ Err refusal
      → AreOne {A = CredentialRecord} IsWantOfMemory (Ok credential) (Err refusal) → AreOneRun IsWantOfMemory result other after other_after
  one_holds credential refusal result other after other_after is (inl none) = absurd none
  one_holds credential refusal result other after other_after is (inr (inl wants)) = inr (inl (subst (Wants IsWantOfMemory) (sym is) wants))
  one_holds credential refusal result other after other_after is (inr (inr e)) = absurd (no_refusal refusal credential (sym e))

  other_holds : (refusal : LoginRefusal) (credential : CredentialRecord) (result other : Result Login LoginRefusal) (after other_after : RememberedRecord) → result ≡ Err refusal
      → AreOne {A = CredentialRecord} IsWantOfMemory (Err refusal) (Ok credential) → AreOneRun IsWantOfMemory result other after other_after
  other_holds refusal credential result other after other_after is (inl wants) = inl (subst (Wants IsWantOfMemory) (sym is) wants)
  other_holds refusal credential result other after other_after is (inr (inl none)) = absurd none
  other_holds refusal credential result other after other_after is (inr (inr e)) = absurd (no_refusal refusal credential e)

  none_holds : (refusal other_refusal : LoginRefusal) (result other : Result Login LoginRefusal) (after other_after : RememberedRecord) → result ≡ Err refusal → other ≡ Err other_refusal
      → after ≡ before → other_after ≡ before → AreOne {A = CredentialRecord} IsWantOfMemory (Err refusal) (Err other_refusal) → AreOneRun IsWantOfMemory result other after other_after
  none_holds refusal other_refusal result other after other_after is other_is kept other_kept (inl wants) = inl (subst (Wants IsWantOfMemory) (sym is) wants)
  none_holds refusal other_refusal result other after other_after is other_is kept other_kept (inr (inl wants)) = inr (inl (subst (Wants IsWantOfMemory) (sym other_is) wants))
  none_holds refusal other_refusal result other after other_after is other_is kept other_kept (inr (inr e)) = inr (inr (cc, kept ∙ sym other_kept))

  runs_are_one : (result other : Result Login LoginRefusal) (after other_after : RememberedRecord)
      → LoginRun client means realm rows service login before result after → LoginRun client means realm rows service login before other other_after → AreOneRun IsWantOfMemory result other after other_after
  unfolding LoginRun
  runs_are_one result other after other_after (inl x) (inl y) = both_hold x.0 y.0 result other after other_after x.2 y.2 (one_exchanges (Ok x.0) (Ok y.0) x.1 y.1)
  runs_are_one result other after other_after (inl x) (inr y) = one_holds x.0 y.0 result other after other_after y.2 (one_exchanges (Ok x.0) (Err y.0) x.1 y.1)
  runs_are_one result other after other_after (inr x) (inl y) = other_holds x.0 y.0 result other after other_after x.2 (one_exchanges (Err x.0) (Ok y.0) x.1 y.1)
  runs_are_one result other after other_after (inr x) (inr y) = none_holds x.0 y.0 result other after other_after x.2 y.2 x.3 y.3 (one_exchanges (Err x.0) (Err y.0) x.1 y.1)

  same_words : (result other : Result Login LoginRefusal) (after other_after : RememberedRecord) → AreOneRun IsWantOfMemory result other after other_after
      → WantsMemory result ⊎ WantsMemory other ⊎ ((result ≡ other) × (after ≡ other_after))
  same_words (Ok made) other after other_after (inl none) = absurd none
  same_words (Err refusal) other after other_after (inl wants) = inl wants
  same_words result (Ok made) after other_after (inr (inl none)) = absurd none
  same_words result (Err refusal) after other_after (inr (inl wants)) = inr (inl wants)
  same_words result other after other_after (inr (inr same)) = inr (inr same)

pub one_login : (means : MeansRecord) (rows : PkinitRows) → AreDecided means → (client : ClientRecord) (realm : RealmRecord) (service : ServiceRecord) (before : RememberedRecord) (login : LoginRecord)
    (result other : Result Login LoginRefusal) (after other_after : RememberedRecord)
    → LoginRun client means realm rows service login before result after → LoginRun client means realm rows service login before other other_after
    → WantsMemory result ⊎ WantsMemory other ⊎ ((result ≡ other) × (after ≡ other_after))
one_login means rows decided client realm service before login result other after other_after x y =
    same_words client means decided realm rows service before login result other after other_after (runs_are_one client means decided realm rows service before login result other after other_after x y)
