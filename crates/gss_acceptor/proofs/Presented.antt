-- A context has what the client chose.
use Rattle.std.proofs.Common.{◌≡◌, ℕ, Bool, true, false, List, Result, Ok, Err, refl, sym, ap, subst, ◌∙◌, inl, inr, if◌then◌else◌, arith}
use Rattle.std.specs.Prelude.{◌≤◌, ◌+◌, max, is_some, Option, None, Some, MatchBool, MatchOption}
use Rattle.krb_messages.specs.declared.data_types.checksum.Checksum.{Checksum}
use Rattle.krb_messages.specs.declared.data_types.encryption_key.EncryptionKey.{EncryptionKey}
use Rattle.krb_service.specs.Admission.{AdmissionRecord, TellsOf, checksum_of}
use Rattle.krb_service.specs.Admits.{Admits}
use Rattle.krb_service.specs.ChosenEntry.{IsPresentedTo}
use Rattle.krb_ap_requests.specs.Presents.{Choice}
use Rattle.krb_crypto.specs.Keys.{KeyRecord}
use Rattle.krb_service.specs.Pair.{PairRecord}
use Rattle.krb_service.specs.Seen.{IsWindow}
use Rattle.krb_service.specs.RememberingService.{IsStep}
use Rattle.krb_service.proofs.KeytabLaws.{presented_to}
use Rattle.gss_contexts.specs.Contexts.{ContextRecord, context_of, is_newer}
use Rattle.gss_contexts.specs.Judging.{TakesMic}
use Rattle.gss_contexts.specs.declared.side.Side.TheVariants.{Acceptor}
use Rattle.gss_contexts.specs.declared.terms.ContextTerms.{ContextTerms}
use Rattle.gss_acceptor.proofs.Results.{given, same_ok}
use Rattle.gss_acceptor.specs.Accepting.{AcceptorRecord, AdmitRequest, AskFor, Handles, IsAnsweredAs, IsEstablishedAs, Takes, VerifyMic, carried, context_under, held, judged, negotiated, opened_by, then_judged}
use Rattle.gss_acceptor.specs.Checksum.{bound_by, initial_in, no_bindings}
use Rattle.gss_acceptor.specs.Chosen.{IsChosen, IsChosenAfter, IsKeyOf}
use Rattle.gss_acceptor.specs.Concluding.{Demands, ExchangesMics, IsConcludedWithout, IsGiven, IsMicAnswered, IsVerified, awaiting, completed}
use Rattle.gss_acceptor.specs.Contexts.{context_in, context_key, end_key, end_terms, fields_of, first_number, own_key}
use Rattle.gss_acceptor.specs.Delegation.{delegation}
use Rattle.gss_acceptor.specs.Established.{EstablishedRecord}
use Rattle.gss_acceptor.specs.declared.accepted.Accepted.{Accepted}
use Rattle.gss_acceptor.specs.declared.accepted.Accepted.TheVariants.{Established}
use Rattle.gss_acceptor.specs.declared.checksum.ContextFlags.{ContextFlags}
use Rattle.gss_acceptor.specs.declared.delegation.Delegated.{Delegated}
use Rattle.gss_acceptor.specs.declared.exchange.Exchange.{Exchange}
use Rattle.gss_acceptor.specs.declared.exchange.Terms.{Terms}
use Rattle.gss_acceptor.specs.declared.exchange.Unverified.{Unverified}
use Rattle.gss_acceptor.specs.declared.mechanism.Mechanism.{Mechanism}
use Rattle.gss_acceptor.specs.declared.judge.Judged.{Judged}
use Rattle.gss_acceptor.specs.declared.refusal.AcceptRefusal.{AcceptRefusal}
use Rattle.gss_acceptor.specs.declared.refusal.AcceptRefusal.TheVariants.{NoMic, OldSuite, OtherBindings}
use Rattle.gss_acceptor.specs.declared.checksum.InitialChecksum.{InitialChecksum}
use Rattle.gss_acceptor.specs.declared.terms.AcceptorTerms.{AcceptorTerms}

-- what follows a value that there is
then_ok : {A B : Type 0} (r : Result A AcceptRefusal) (rest : A → Result B AcceptRefusal) (b : B) → then_judged r rest ≡ Ok b → (a : A) × (r ≡ Ok a) × (rest a ≡ Ok b)
then_ok (Ok a) rest b e = (a, refl, e)
then_ok (Err refusal) rest b e = absurd (cc (e))

newer : (is : Bool) (made context : ContextRecord) → ◌≡◌ {A = Result ContextRecord AcceptRefusal} (if is then Ok made else Err OldSuite) (Ok context) → made ≡ context
newer true made context e = same_ok made context e
newer false made context e = absurd (cc (e))

-- the end of a context is on these terms, with this key
record IsEnd (key : KeyRecord) (terms : ContextTerms) (context : ContextRecord) : Type 0 where
  keyed : key ≡ context.key
  numbered : terms.numbers.taking ≡ context.taking
  flagged : terms.acceptor_subkey ≡ context.acceptor_subkey

end_of : (key : KeyRecord) (terms : ContextTerms) (context : ContextRecord) → context_in key terms ≡ Ok context → IsEnd key terms context
end_of key terms context e =
    let same : context_of key Acceptor terms ≡ context = newer (is_newer key.suite) (context_of key Acceptor terms) context e in
    record {
      keyed = ap (λ (c : ContextRecord). c.key) same;
      numbered = ap (λ (c : ContextRecord). c.taking) same;
      flagged = ap (λ (c : ContextRecord). c.acceptor_subkey) same;
    }

-- what is bound is what was told
bound_past : (same : Bool) (told initial : InitialChecksum) → ◌≡◌ {A = Result InitialChecksum AcceptRefusal} (if same then Ok told else Err OtherBindings) (Ok initial) → told ≡ initial
bound_past true told initial e = cc (e)
bound_past false told initial e = absurd (cc (e))

bound_same : (bindings : Option (List ℕ)) (told initial : InitialChecksum) → bound_by bindings told ≡ Ok initial → told ≡ initial
bound_same None told initial e = bound_past true told initial e
bound_same (Some bindings) told initial e = bound_past _ told initial e

-- what an admission was judged by
record IsJudgedBy (words : List ℕ) (admission : AdmissionRecord) (made : Judged) : Type 0 where
  initial : initial_in admission.checksum ≡ Ok made.initial
  number : first_number admission.seq_number ≡ Ok made.context.taking
  key : end_key made.context.acceptor_subkey words admission ≡ Ok made.context.key

judged_by : (terms : AcceptorTerms) (skew : ℕ) (words : List ℕ) (admission : AdmissionRecord) (made : Judged) → judged terms skew words admission ≡ Ok made → IsJudgedBy words admission made
judged_by terms skew words admission made e =
    let told = then_ok (initial_in admission.checksum) _ made e in
    let bound = then_ok (bound_by terms.bindings told.0) _ made told.2 in
    let numbered = then_ok (first_number admission.seq_number) _ made bound.2 in
    let end : ContextTerms = end_terms terms skew words admission bound.0.flags numbered.0 in
    let last = then_ok (context_under words admission end) _ made numbered.2 in
    let whole : record { initial = bound.0; context = last.0 } ≡ made = same_ok _ made last.2 in
    let keyed = then_ok (end_key end.acceptor_subkey words admission) (λ key. context_in key end) last.0 last.1 in
    let ends = end_of keyed.0 end last.0 keyed.2 in
    let context : last.0 ≡ made.context = ap (λ (m : Judged). m.context) whole in
    record {
      initial = told.1 ∙ ap Ok (bound_same terms.bindings told.0 bound.0 bound.1) ∙ ap (λ (m : Judged). Ok m.initial) whole;
      number = numbered.1 ∙ ap Ok (ends.numbered ∙ ap (λ (c : ContextRecord). c.taking) context);
      key = subst (λ b. end_key b words admission ≡ Ok made.context.key) (ends.flagged ∙ ap (λ (c : ContextRecord). c.acceptor_subkey) context)
          (keyed.1 ∙ ap Ok (ends.keyed ∙ ap (λ (c : ContextRecord). c.key) context));
    }

-- its key is by the choice
key_by : (own : Bool) (choice : Choice) (words : List ℕ) (admission : AdmissionRecord) (key : KeyRecord) → TellsOf choice admission → end_key own words admission ≡ Ok key → IsKeyOf own choice key
key_by false choice words admission key tells e = sym (λ i. context_key (tells.subkey i) (tells.session i)) ∙ e
key_by true choice words admission key tells e = (words, sym (λ i. own_key (tells.session i) words) ∙ e)

-- what is delegated is the choice's
delegated_by : (choice : Choice) (admission : AdmissionRecord) (flags : ContextFlags) (delegated : Option Delegated) → TellsOf choice admission
    → (delegation flags admission.session admission.checksum).gives (Ok delegated)
    → (delegation flags choice.part.key.0 (checksum_of choice.authenticator)).gives (Ok delegated)
delegated_by choice admission flags delegated tells x =
    subst (λ (session : EncryptionKey). (delegation flags session (checksum_of choice.authenticator)).gives (Ok delegated)) tells.session
    (subst (λ (checksum : Option Checksum). (delegation flags admission.session checksum).gives (Ok delegated)) tells.checksum x)

-- it is the choice's
chosen : (choice : Choice) (words : List ℕ) (admission : AdmissionRecord) (made : Judged) (established : EstablishedRecord) → TellsOf choice admission
    → IsJudgedBy words admission made → IsEstablishedAs admission made (Ok established) → IsChosen choice established
chosen choice words admission made established tells by (delegated, delegates, is) = record {
  realm = ap (λ (e : EstablishedRecord). e.realm) is ∙ tells.realm;
  client = ap (λ (e : EstablishedRecord). e.client) is ∙ tells.client;
  authtime = ap (λ (e : EstablishedRecord). e.authtime) is ∙ tells.authtime;
  starttime = ap (λ (e : EstablishedRecord). e.starttime) is ∙ tells.starttime;
  endtime = ap (λ (e : EstablishedRecord). e.endtime) is ∙ tells.endtime;
  ticket_flags = ap (λ (e : EstablishedRecord). e.ticket_flags) is ∙ tells.flags;
  authorization_data = ap (λ (e : EstablishedRecord). e.authorization_data) is ∙ tells.authorization_data;
  initial = ap initial_in (sym tells.checksum) ∙ by.initial ∙ ap (λ (e : EstablishedRecord). Ok (record { bindings = e.bindings; flags = e.flags })) (sym is);
  delegated = subst (λ (e : EstablishedRecord). (delegation e.flags choice.part.key.0 (checksum_of choice.authenticator)).gives (Ok e.delegated)) (sym is)
      (delegated_by choice admission made.initial.flags delegated tells delegates);
  first = established.context.taking;
  number = ap first_number (sym tells.seq_number) ∙ by.number ∙ ap (λ (e : EstablishedRecord). Ok e.context.taking) (sym is);
  from_first = omega arith;
  key = subst (λ (e : EstablishedRecord). IsKeyOf e.context.acceptor_subkey choice e.context.key) (sym is)
      (key_by made.context.acceptor_subkey choice words admission made.context.key tells by.key);
}

-- an end has the key of an earlier one, and takes no number below the earlier one's
record Follows (before after : ContextRecord) : Type 0 where
  key : after.key ≡ before.key
  flag : after.acceptor_subkey ≡ before.acceptor_subkey
  taking : before.taking ≤ after.taking

by_taking : (before after : ContextRecord) (list theirs : List ℕ) → TakesMic before after list theirs → Follows before after
by_taking before after list theirs takes = record {
  key = ap (λ (c : ContextRecord). c.key) takes.moved;
  flag = ap (λ (c : ContextRecord). c.acceptor_subkey) takes.moved;
  taking = let least : before.taking ≤ takes.number + 1 = omega (arith, takes.is_new) in rw takes.moved least;
}

by_exchange : (before after : ContextRecord) (list theirs own : List ℕ) → ExchangesMics before after list theirs own → Follows before after
by_exchange before after list theirs own x =
    let first = by_taking before x.between list theirs x.takes in
    record {
      key = ap (λ (c : ContextRecord). c.key) x.moved ∙ first.key;
      flag = ap (λ (c : ContextRecord). c.acceptor_subkey) x.moved ∙ first.flag;
      taking = rw x.moved first.taking;
    }

-- with such an end, and any token to send, a context is the choice's still
kept : (choice : Choice) (established : EstablishedRecord) (after : ContextRecord) (reply : Option (List ℕ)) → IsChosen choice established
    → Follows established.context after → IsChosen choice (record established { context = after; reply = reply })
kept choice established after reply is follows = record {
  realm = is.realm;
  client = is.client;
  authtime = is.authtime;
  starttime = is.starttime;
  endtime = is.endtime;
  ticket_flags = is.ticket_flags;
  authorization_data = is.authorization_data;
  initial = is.initial;
  delegated = is.delegated;
  first = is.first;
  number = is.number;
  from_first = omega (arith, is.from_first, follows.taking);
  key = subst (λ (k : KeyRecord). IsKeyOf after.acceptor_subkey choice k) (sym follows.key)
      (subst (λ b. IsKeyOf b choice established.context.key) (sym follows.flag) is.key);
}

after_mic : (choice : Choice) (established : EstablishedRecord) (supported : Option Mechanism) (list theirs : List ℕ) (accepted : Accepted)
    → IsChosen choice established → IsMicAnswered established supported list theirs (Ok accepted) → IsChosenAfter choice accepted
after_mic choice established supported list theirs accepted is (inl (after, own, x, last)) =
    let same = given accepted (completed (record established { context = after }) supported (Some own)) last in
    subst (IsChosenAfter choice) (sym same) (kept choice established after _ is (by_exchange established.context after list theirs own x))
after_mic choice established supported list theirs accepted is (inr (cause, why, never)) = absurd (cc (never))

after_demand : (choice : Choice) (established : EstablishedRecord) (supported : Option Mechanism) (list : List ℕ) (accepted : Accepted)
    → IsChosen choice established → Demands established supported list (Ok accepted) → IsChosenAfter choice accepted
after_demand choice established supported list accepted is (inl (own, writes, last)) =
    let same = given accepted (awaiting (record established { context = record established.context { sending = established.context.sending + 1 } }) supported list own) last in
    subst (IsChosenAfter choice) (sym same) (kept choice established (record established.context { sending = established.context.sending + 1 }) None is (record { key = refl; flag = refl; taking = omega arith }))
after_demand choice established supported list accepted is (inr (cause, why, never)) = absurd (cc (never))

after_none : (choice : Choice) (established : EstablishedRecord) (supported : Option Mechanism) (list : List ℕ) (required replies : Bool) (accepted : Accepted)
    → IsChosen choice established
    → MatchBool required (MatchBool replies (Demands established supported list (Ok accepted)) (Ok accepted ≡ Err NoMic)) (IsGiven (completed established supported None) (Ok accepted))
    → IsChosenAfter choice accepted
after_none choice established supported list true true accepted is x = after_demand choice established supported list accepted is x
after_none choice established supported list true false accepted is never = absurd (cc (never))
after_none choice established supported list false replies accepted is x =
    let same = given accepted (completed established supported None) x in
    subst (IsChosenAfter choice) (sym same) (kept choice established established.context _ is (record { key = refl; flag = refl; taking = omega arith }))

after_exchange : (choice : Choice) (established : EstablishedRecord) (supported : Option Mechanism) (terms : Terms) (mic : Option (List ℕ)) (accepted : Accepted)
    → IsChosen choice established
    → MatchOption mic (IsConcludedWithout established supported terms (Ok accepted)) (λ theirs. IsMicAnswered established supported terms.list theirs (Ok accepted))
    → IsChosenAfter choice accepted
after_exchange choice established supported terms None accepted is x =
    after_none choice established supported terms.list terms.required (is_some established.reply) accepted is x
after_exchange choice established supported terms (Some theirs) accepted is x = after_mic choice established supported terms.list theirs accepted is x

after_answer : (choice : Choice) (exchange : Option Exchange) (made : Result EstablishedRecord AcceptRefusal) (accepted : Accepted)
    → ((established : EstablishedRecord) → made ≡ Ok established → IsChosen choice established) → IsAnsweredAs exchange made (Ok accepted) → IsChosenAfter choice accepted
after_answer choice None (Ok established) accepted is x =
    subst (IsChosenAfter choice) (sym (same_ok accepted (Established established) x)) (is established refl)
after_answer choice (Some exchange) (Ok established) accepted is x =
    after_exchange choice established exchange.supported exchange.terms exchange.mic accepted (is established refl) x
after_answer choice exchange (Err refusal) accepted is never = absurd (cc (never))

-- what a step admits was presented
presented : (acceptor after : AcceptorRecord) (moment : ℕ) (admitted : List PairRecord) (message random : List ℕ) (admission : AdmissionRecord) → IsWindow acceptor.service.seen admitted
    → Admits (fields_of acceptor.terms) acceptor.service moment message random (Ok admission) after.service → (choice : Choice) × IsPresentedTo acceptor.service.entries choice message × TellsOf choice admission
unfolding IsStep
presented acceptor after moment admitted message random admission window admits =
    let step = admits.remembers admitted window in
    presented_to acceptor.service (fields_of acceptor.terms) (max acceptor.service.seen.greatest moment) admitted message random admission step.0 step.1

pub admitted : (acceptor after : AcceptorRecord) (moment : ℕ) (message random : List ℕ) (exchange : Option Exchange) (admitted : List PairRecord) (accepted : Accepted)
    → IsWindow acceptor.service.seen admitted → Takes (AdmitRequest message exchange) acceptor moment random (Ok accepted) after
    → (choice : Choice) × IsPresentedTo acceptor.service.entries choice message × IsChosenAfter choice accepted
admitted acceptor after moment message random exchange before accepted window (Ok established, (same_terms, inl (admission, admits, (made, so, whole))), answers) =
    let found = presented acceptor after moment before message random admission window admits in
    let is : IsChosen found.0 established = chosen found.0 random admission made established found.2
    (judged_by acceptor.terms acceptor.service.seen.skew random admission made so) whole in
    (found.0, found.1, after_answer found.0 exchange (Ok established) accepted (λ (e : EstablishedRecord) same. subst (IsChosen found.0) (same_ok established e same) is) answers)
admitted acceptor after moment message random exchange before accepted window (Ok established, (same_terms, inr (cause, admits, never)), answers) = absurd (cc (never))
admitted acceptor after moment message random exchange before accepted window (Err refusal, x, never) = absurd (cc (never))

pub verified : (unverified : Unverified) (theirs : List ℕ) (choice : Choice) (accepted : Accepted) → IsChosen choice unverified.established
    → IsVerified unverified theirs (Ok accepted) → IsChosenAfter choice accepted
verified unverified theirs choice accepted is (inl (after, takes, last)) =
    let same = same_ok accepted (Established (record unverified.established { context = after })) last in
    subst (IsChosenAfter choice) (sym same)
    (kept choice unverified.established after unverified.established.reply is (by_taking unverified.established.context after unverified.list theirs takes))
verified unverified theirs choice accepted is (inr (cause, why, never)) = absurd (cc (never))

-- a first token asks for no verification
none_held : (token theirs : List ℕ) (exchange : Exchange) (unverified : Unverified) → (held token exchange).gives (Ok (VerifyMic unverified theirs)) → ⊥
unfolding held
none_held token theirs exchange unverified (inl (message, is, never)) = cc (never)
none_held token theirs exchange unverified (inr (none_is, never)) = cc (never)

none_opened : (mechanism : Mechanism) (terms : Terms) (token mic : Option (List ℕ)) (theirs : List ℕ) (unverified : Unverified)
    → (opened_by mechanism terms token mic).gives (Ok (VerifyMic unverified theirs)) → ⊥
none_opened mechanism terms None mic theirs unverified never = cc (never)
none_opened mechanism terms (Some token) mic theirs unverified x = none_held token theirs (record { supported = Some mechanism; terms = terms; mic = mic }) unverified x

none_carried : (token theirs : List ℕ) (unverified : Unverified) → (carried token).gives (Ok (VerifyMic unverified theirs)) → ⊥
unfolding carried negotiated
none_carried token theirs unverified (inl (message, is, never)) = cc (never)
none_carried token theirs unverified (inr (none_is, inl (offer, is, x))) = none_opened offer.mechanism offer.terms offer.tokens.mechanism offer.tokens.mic theirs unverified x
none_carried token theirs unverified (inr (none_is, inr (refusal, is, never))) = cc (never)

pub first : (acceptor after : AcceptorRecord) (moment : ℕ) (token random : List ℕ) (before : List PairRecord) (established : EstablishedRecord)
    → IsWindow acceptor.service.seen before → Handles (carried token) acceptor moment random (Ok (Established established)) after
    → (message : List ℕ) × (exchange : Option Exchange) × (carried token).gives (Ok (AdmitRequest message exchange))
    × (choice : Choice) × IsPresentedTo acceptor.service.entries choice message × IsChosen choice established
first acceptor after moment token random before established window (inl (AskFor mechanism terms, is, (same, x))) = absurd (let never = given (Established established) _ x in cc (never))
first acceptor after moment token random before established window (inl (AdmitRequest message exchange, is, x)) =
    let found = admitted acceptor after moment message random exchange before (Established established) window x in
    (message, exchange, is, found.0, found.1, found.2)
first acceptor after moment token random before established window (inl (VerifyMic unverified theirs, is, x)) = absurd (none_carried token theirs unverified is)
first acceptor after moment token random before established window (inr (refusal, never, same, rest)) = absurd (cc (never))
