-- What is answered with an AP-REP in any case is what is answered else, but for the AP-REP.
use Rattle.std.proofs.Common.{◌≡◌, ℕ, Bool, true, false, List, ◌∷◌, max, Option, None, Some, Result, Ok, Err, ap, refl, sym, subst, ◌∙◌, inl, inr}
use Rattle.std.specs.Prelude.{IfOk, IsSome}
use Rattle.decision_tables.specs.One.{IsSole}
use Rattle.decision_tables.specs.Tables.{Table, and_then, done, make, refuse}
use Rattle.krb_ap_requests.specs.ApTable.{enc_part_in, presented}
use Rattle.krb_ap_requests.specs.Presents.{Choice}
use Rattle.krb_ap_requests.specs.declared.presented.Presented.{Presented}
use Rattle.krb_ap_requests.specs.declared.refusal.AdmitRefusal.{AdmitRefusal}
use Rattle.krb_ap_requests.specs.declared.refusal.AdmitRefusal.TheVariants.{Unreadable, Krb, Memory}
use Rattle.krb_ap_requests.proofs.Chosen.{chosen_as_received}
use Rattle.krb_ap_requests.proofs.Shown.{both, ok_same}
use Rattle.krb_crypto.specs.Suites.{cipher_confounder_size}
use Rattle.krb_messages.specs.Messages.{IsApReq}
use Rattle.krb_messages.specs.RandomBytes.{ap_reply_confounder}
use Rattle.krb_messages.specs.declared.messages.ap_req.ApReqInner.{ApReqInner}
use Rattle.krb_time.specs.Skew.{is_far}
use Rattle.krb_service.specs.Admission.{AdmissionRecord, TellsOf, admission_of}
use Rattle.krb_service.specs.ApReply.{IsReplyBy, IsReplyOf, IsReplyWith, ap_rep_part_with, sole_reply_with}
use Rattle.krb_service.specs.ChosenEntry.{IsPresentedTo, chosen}
use Rattle.krb_service.specs.KeytabService.{KeytabServiceRecord, ReceivesByKeytab, remembering_by_keytab_with}
use Rattle.krb_service.specs.Once.{Admitted, IsOnce, fresh, once_with, pair_of}
use Rattle.krb_service.specs.Pair.{PairRecord}
use Rattle.krb_service.specs.RememberingService.{IsStep, Outcome, outcome_of, remembering_with}
use Rattle.krb_service.specs.Seen.{IsWindow, SeenRecord}
use Rattle.krb_service.specs.Unasked.{IsRepliedTo, asking, remembering_unasked}
use Rattle.krb_service.specs.declared.reply.ReplyFields.{ReplyFields}
use Rattle.krb_service.proofs.Admitting.{outcome_made, passes, told_of}
use Rattle.krb_service.proofs.ChosenSteps.{IsRaised}

-- a request that is refused for what it presents
refused : (fields : ReplyFields) (service : KeytabServiceRecord) (moment : ℕ) (admitted : List PairRecord) (message words : List ℕ) (e : AdmitRefusal) (seen : SeenRecord)
    → ReceivesByKeytab service.entries service.seen.skew moment message (Err e) → IsWindow seen admitted
    → IsStep (remembering_unasked fields service moment admitted message words).gives admitted (Err e) seen
unfolding ReceivesByKeytab IsStep remembering_unasked
refused fields service moment admitted message words (Krb code) seen (request, found, x) w =
    (admitted, inl (request, found, (Err code, inr (code, x, refl), refl)), w)
refused fields service moment admitted message words Unreadable seen x w = (admitted, inr (x, refl), w)
refused fields service moment admitted message words Memory seen x w = w

-- a request that presents this
held : (fields : ReplyFields) (service : KeytabServiceRecord) (moment : ℕ) (admitted : List PairRecord) (message words : List ℕ) (p : Presented) (r : Result AdmissionRecord AdmitRefusal) (seen : SeenRecord)
    → ReceivesByKeytab service.entries service.seen.skew moment message (Ok p)
    → IsOnce (once_with fields service.seen.skew moment admitted words (asking p)).gives admitted (pair_of (asking p)) r seen
    → IsStep (remembering_unasked fields service moment admitted message words).gives admitted r seen
unfolding ReceivesByKeytab IsOnce IsStep remembering_unasked
held fields service moment admitted message words p (Ok made) seen (request, found, x) y =
    (pair_of (asking p) ∷ admitted, inl (request, found, (Ok (record { admission = made; pair = pair_of (asking p) }), inl (p, x, y.0), refl)), y.1)
held fields service moment admitted message words p (Err (Krb code)) seen (request, found, x) y =
    (admitted, inl (request, found, (Err code, inl (p, x, y.0), refl)), y.1)
held fields service moment admitted message words p (Err Unreadable) seen x y = absurd y
held fields service moment admitted message words p (Err Memory) seen x y = y

-- what is received by the settings of a call is received by the service
moved : (service : KeytabServiceRecord) (moment : ℕ) (raised : SeenRecord) (skew now : ℕ) (message : List ℕ) (r : Result Presented AdmitRefusal) → IsRaised service moment raised skew now
    → ReceivesByKeytab service.entries skew now message r → ReceivesByKeytab service.entries service.seen.skew (max service.seen.greatest moment) message r
moved service moment raised skew now message r same x =
    subst (λ (m : ℕ). ReceivesByKeytab service.entries service.seen.skew m message r) (same.own_now ∙ same.greatest)
    (subst (λ (n : ℕ). ReceivesByKeytab service.entries n now message r) (same.own_skew ∙ same.skew_kept) x)

pub unasked_refused : (fields : ReplyFields) (service : KeytabServiceRecord) (moment : ℕ) (raised : SeenRecord) (skew now : ℕ) (admitted : List PairRecord) (message words : List ℕ) (e : AdmitRefusal)
    → IsRaised service moment raised skew now → ReceivesByKeytab service.entries skew now message (Err e) → IsWindow raised admitted
    → IsStep (remembering_unasked fields service (max service.seen.greatest moment) admitted message words).gives admitted (Err e) raised
unasked_refused fields service moment raised skew now admitted message words e same x w =
    refused fields service (max service.seen.greatest moment) admitted message words e raised (moved service moment raised skew now message (Err e) same x) w

pub unasked_held : (fields : ReplyFields) (service : KeytabServiceRecord) (moment : ℕ) (raised : SeenRecord) (skew now : ℕ) (admitted : List PairRecord) (message words : List ℕ) (p asked : Presented)
    (r : Result AdmissionRecord AdmitRefusal) (after : SeenRecord)
    → IsRaised service moment raised skew now → ReceivesByKeytab service.entries skew now message (Ok p) → asked ≡ asking p
    → IsOnce (once_with fields raised.skew now admitted words asked).gives admitted (pair_of asked) r after
    → IsStep (remembering_unasked fields service (max service.seen.greatest moment) admitted message words).gives admitted r after
unasked_held fields service moment raised skew now admitted message words p asked r after same x is y =
    let at : ℕ = max service.seen.greatest moment in
    held fields service at admitted message words p r after (moved service moment raised skew now message (Ok p) same x)
    (subst (λ (m : ℕ). IsOnce (once_with fields service.seen.skew m admitted words (asking p)).gives admitted (pair_of (asking p)) r after) (same.own_now ∙ same.greatest)
    (subst (λ (n : ℕ). IsOnce (once_with fields n now admitted words (asking p)).gives admitted (pair_of (asking p)) r after) same.skew_kept
    (subst (λ (q : Presented). IsOnce (once_with fields raised.skew now admitted words q).gives admitted (pair_of q) r after) is y)))

-- what follows where a pair is fresh
abbrev replied : ReplyFields → List ℕ → Presented → PairRecord → Table (Result Admitted ℕ)
replied fields words p pair =
    make (IsReplyWith fields p words) (sole_reply_with fields p words) (λ reply. done (Ok (record { admission = admission_of p reply; pair = pair })))

-- the AP-REP of what was presented
abbrev IsReplyFor : ReplyFields → List ℕ → Presented → List ℕ → Type 0
IsReplyFor fields words p bytes =
    IsReplyOf p.suite p.part.key.0.key_value.0 (ap_reply_confounder (cipher_confounder_size p.suite) words) (ap_rep_part_with fields p.suite words p.authenticator) bytes

-- what the rows tell of what was admitted with an AP-REP in any case
record IsMadeUnasked (fields : ReplyFields) (skew moment : ℕ) (admitted : List PairRecord) (words : List ℕ) (p : Presented) (made : Admitted) : Type 0 where
  near : is_far skew moment p.time ≡ false
  pair : PairRecord
  is_fresh : (fresh admitted p).gives (Ok pair)
  bytes : List ℕ
  is_reply : IsReplyFor fields words p bytes
  whole : made ≡ record { admission = admission_of p (Some bytes); pair = pair }

reply_there : (IsMade : List ℕ → Type 0) (reply : Option (List ℕ)) → IsReplyBy true IsMade reply → (bytes : List ℕ) × (reply ≡ Some bytes) × IsMade bytes
reply_there IsMade None x = absurd x
reply_there IsMade (Some bytes) x = (bytes, refl, x)

once_rows : (fields : ReplyFields) (skew moment : ℕ) (admitted : List PairRecord) (words : List ℕ) (p : Presented) (made : Admitted)
    → (once_with fields skew moment admitted words (asking p)).gives (Ok made) → IsMadeUnasked fields skew moment admitted words p made
unfolding once_with fresh
once_rows fields skew moment admitted words p made x =
    let asked : Presented = asking p in
    let near = passes (is_far skew moment p.time) 37 (and_then (fresh admitted asked) (replied fields words asked)) made x in
    let own = both (fresh admitted asked) (replied fields words asked) made near.1 in
    let last = own.2 in
    let there = reply_there (IsReplyFor fields words p) last.0 last.1 in
    let whole : Admitted = record { admission = admission_of asked last.0; pair = own.0 } in
    let by : Option (List ℕ) → Admitted = λ reply. record { admission = admission_of p reply; pair = own.0 } in
    record { near = near.0; pair = own.0; is_fresh = own.1; bytes = there.0; is_reply = there.2; whole = ok_same made whole last.2 ∙ ap by there.1 }

-- the reply that a request gets, whether it asks for one or not
own_reply : (wanted : Bool) (IsMade : List ℕ → Type 0) (bytes : List ℕ) → IsMade bytes → (reply : Option (List ℕ)) × IsReplyBy wanted IsMade reply
own_reply true IsMade bytes x = (Some bytes, x)
own_reply false IsMade bytes x = (None, refl)

-- what is admitted is admitted else, with that reply
once_else : (fields : ReplyFields) (skew moment : ℕ) (admitted : List PairRecord) (words : List ℕ) (p : Presented) (made : Admitted)
    → IsMadeUnasked fields skew moment admitted words p made
    → (reply : Option (List ℕ)) × (once_with fields skew moment admitted words p).gives (Ok (record { admission = admission_of p reply; pair = made.pair }))
unfolding once_with
once_else fields skew moment admitted words p made x =
    let own = own_reply p.wants_reply (IsReplyFor fields words p) x.bytes x.is_reply in
    let by : PairRecord → Result Admitted ℕ = λ pair. Ok (record { admission = admission_of p own.0; pair = pair }) in
    (own.0, rw x.near (inl (x.pair, x.is_fresh, (own.0, own.1, ap by (ap (λ (m : Admitted). m.pair) x.whole)))))

-- the same rows refuse it
other_rows : (far : Bool) (t : Table (Result PairRecord ℕ)) (P Q : Option (List ℕ) → Type 0) (one : IsSole P) (other : IsSole Q) (f g : PairRecord → Option (List ℕ) → Admitted) (code : ℕ)
    → (refuse {T = Admitted} {E = ℕ} far 37 (and_then t (λ pair. make P one (λ reply. done (Ok (f pair reply)))))).gives (Err code)
    → (refuse {T = Admitted} {E = ℕ} far 37 (and_then t (λ pair. make Q other (λ reply. done (Ok (g pair reply)))))).gives (Err code)
other_rows true t P Q one other f g code x = x
other_rows false t P Q one other f g code (inl (pair, given, (reply, made, e))) = absurd (cc (e))
other_rows false t P Q one other f g code (inr x) = inr x

refused_else : (fields : ReplyFields) (skew moment : ℕ) (admitted : List PairRecord) (words : List ℕ) (p : Presented) (code : ℕ)
    → (once_with fields skew moment admitted words (asking p)).gives (Err code) → (once_with fields skew moment admitted words p).gives (Err code)
unfolding once_with fresh
refused_else fields skew moment admitted words p code x =
    let asked : Presented = asking p in
    other_rows (is_far skew moment p.time) (fresh admitted p) (IsReplyWith fields asked words) (IsReplyWith fields p words) (sole_reply_with fields asked words) (sole_reply_with fields p words)
    (λ pair reply. record { admission = admission_of p reply; pair = pair }) (λ pair reply. record { admission = admission_of p reply; pair = pair }) code x

-- what was presented by a request that is admitted, and the rows that it passed
record IsAdmittedBy (fields : ReplyFields) (service : KeytabServiceRecord) (moment : ℕ) (admitted : List PairRecord) (message words : List ℕ) (admission : AdmissionRecord) (after : List PairRecord) : Type 0 where
  request : ApReqInner
  found : IsApReq message request
  p : Presented
  shown : (presented (chosen service.entries (enc_part_in request)) service.seen.skew moment request).gives (Ok p)
  made : Admitted
  rows : IsMadeUnasked fields service.seen.skew moment admitted words p made
  own : admission ≡ made.admission
  later : after ≡ made.pair ∷ admitted

admitted_of : (fields : ReplyFields) (service : KeytabServiceRecord) (moment : ℕ) (admitted : List PairRecord) (message words : List ℕ) (admission : AdmissionRecord) (after : List PairRecord)
    (request : ApReqInner) (made : Admitted) → IsApReq message request → admission ≡ made.admission → after ≡ made.pair ∷ admitted
    → (and_then (presented (chosen service.entries (enc_part_in request)) service.seen.skew moment request) (λ shown. once_with fields service.seen.skew moment admitted words (asking shown))).gives (Ok made)
    → IsAdmittedBy fields service moment admitted message words admission after
admitted_of fields service moment admitted message words admission after request made found own later (inl (p, shown, x)) =
    record { request = request; found = found; p = p; shown = shown; made = made; rows = once_rows fields service.seen.skew moment admitted words p made x; own = own; later = later }
admitted_of fields service moment admitted message words admission after request made found own later (inr x) = absurd (cc (x.2))

admitted_by : (fields : ReplyFields) (service : KeytabServiceRecord) (moment : ℕ) (admitted : List PairRecord) (message words : List ℕ) (admission : AdmissionRecord) (after : List PairRecord)
    → (remembering_unasked fields service moment admitted message words).gives (Ok admission, after) → IsAdmittedBy fields service moment admitted message words admission after
unfolding remembering_unasked
admitted_by fields service moment admitted message words admission after (inl (request, found, (r, judged, e))) =
    let made = outcome_made admitted after admission r e in
    let table = and_then (presented (chosen service.entries (enc_part_in request)) service.seen.skew moment request) (λ shown. once_with fields service.seen.skew moment admitted words (asking shown)) in
    admitted_of fields service moment admitted message words admission after request made.0 found made.2 made.3 (subst (λ (s : Result Admitted ℕ). table.gives s) made.1 judged)
admitted_by fields service moment admitted message words admission after (inr (none, e)) =
    let same = ap (λ (o : Outcome). o.0) e in absurd (cc (same))

-- what is admitted is admitted by the same service else, but for the AP-REP
pub unasked_admits : (fields : ReplyFields) (service : KeytabServiceRecord) (moment : ℕ) (admitted : List PairRecord) (message words : List ℕ) (admission : AdmissionRecord) (after : List PairRecord)
    → (remembering_unasked fields service moment admitted message words).gives (Ok admission, after)
    → (reply : Option (List ℕ)) × (remembering_by_keytab_with fields service moment admitted message words).gives (Ok (record admission { reply = reply }), after)
unfolding remembering_by_keytab_with remembering_with
unasked_admits fields service moment admitted message words admission after x =
    let by = admitted_by fields service moment admitted message words admission after x in
    let else_by = once_else fields service.seen.skew moment admitted words by.p by.made by.rows in
    let reply = else_by.0 in
    let made : Admitted = record { admission = admission_of by.p reply; pair = by.made.pair } in
    let with_reply : AdmissionRecord → AdmissionRecord = λ a. record a { reply = reply } in
    let same : with_reply admission ≡ admission_of by.p reply = ap with_reply (by.own ∙ ap (λ (m : Admitted). m.admission) by.rows.whole) in
    let given : (remembering_by_keytab_with fields service moment admitted message words).gives (Ok made.admission, made.pair ∷ admitted) =
    inl (by.request, by.found, inl (by.request, by.found, (Ok made, inl (by.p, by.shown, else_by.1), refl))) in
    let outcomes : AdmissionRecord → List PairRecord → Outcome = λ a pairs. (Ok a, pairs) in (
      reply,
      subst (λ (a : AdmissionRecord). (remembering_by_keytab_with fields service moment admitted message words).gives (outcomes a after)) (sym same)
          (subst (λ (pairs : List PairRecord). (remembering_by_keytab_with fields service moment admitted message words).gives (outcomes made.admission pairs)) (sym by.later) given),
    )

-- an outcome with a refusal is of what was refused
outcome_refused : (admitted after : List PairRecord) (refusal : AdmitRefusal) (r : Result Admitted ℕ) → (let answer : Outcome = (Err refusal, after) in answer ≡ outcome_of admitted r)
    → (code : ℕ) × (r ≡ Err code)
outcome_refused admitted after refusal (Ok made) e = let same = ap (λ (o : Outcome). o.0) e in absurd (cc (same))
outcome_refused admitted after refusal (Err code) e = (code, refl)

refused_by : (fields : ReplyFields) (service : KeytabServiceRecord) (moment : ℕ) (admitted : List PairRecord) (words : List ℕ) (request : ApReqInner) (code : ℕ)
    → (and_then (presented (chosen service.entries (enc_part_in request)) service.seen.skew moment request) (λ shown. once_with fields service.seen.skew moment admitted words (asking shown))).gives (Err code)
    → (and_then (presented (chosen service.entries (enc_part_in request)) service.seen.skew moment request) (once_with fields service.seen.skew moment admitted words)).gives (Err code)
refused_by fields service moment admitted words request code (inl (p, shown, x)) = inl (p, shown, refused_else fields service.seen.skew moment admitted words p code x)
refused_by fields service moment admitted words request code (inr x) = inr x

-- and what is refused is refused
pub unasked_refuses : (fields : ReplyFields) (service : KeytabServiceRecord) (moment : ℕ) (admitted : List PairRecord) (message words : List ℕ) (refusal : AdmitRefusal) (after : List PairRecord)
    → (remembering_unasked fields service moment admitted message words).gives (Err refusal, after)
    → (remembering_by_keytab_with fields service moment admitted message words).gives (Err refusal, after)
unfolding remembering_unasked remembering_by_keytab_with remembering_with
unasked_refuses fields service moment admitted message words refusal after (inl (request, found, (r, judged, e))) =
    let of_code = outcome_refused admitted after refusal r e in
    let table = and_then (presented (chosen service.entries (enc_part_in request)) service.seen.skew moment request) (λ shown. once_with fields service.seen.skew moment admitted words (asking shown)) in
    let answer : Outcome = (Err refusal, after) in
    let own = refused_by fields service moment admitted words request of_code.0 (subst (λ (s : Result Admitted ℕ). table.gives s) of_code.1 judged) in
    let same : answer ≡ outcome_of admitted (Err of_code.0) = e ∙ ap (outcome_of admitted) of_code.1 in
    inl (request, found, inl (request, found, (Err of_code.0, own, same)))
unasked_refuses fields service moment admitted message words refusal after (inr (none, e)) = inr (none, e)

-- what is admitted was presented, and has the AP-REP to it
pub unasked_replies : (fields : ReplyFields) (service : KeytabServiceRecord) (moment : ℕ) (admitted : List PairRecord) (message words : List ℕ) (admission : AdmissionRecord) (after : List PairRecord)
    → (remembering_unasked fields service moment admitted message words).gives (Ok admission, after)
    → (choice : Choice) × IsPresentedTo service.entries choice message × TellsOf choice admission × IsRepliedTo fields words choice admission
unasked_replies fields service moment admitted message words admission after x =
    let by = admitted_by fields service moment admitted message words admission after x in
    let of_choice = chosen_as_received (chosen service.entries (enc_part_in by.request)) service.seen.skew moment message by.request by.p by.found by.shown in
    let choice = of_choice.choice in
    let suite = of_choice.acceptable.suite in
    let reply : Option (List ℕ) = Some by.rows.bytes in
    let whole : admission ≡ admission_of by.p reply = by.own ∙ ap (λ (m : Admitted). m.admission) by.rows.whole in (
      choice,
      (by.request, by.found, of_choice.presents),
      told_of choice by.p reply admission whole (ap (λ (q : Presented). q.part) of_choice.shown) (ap (λ (q : Presented). q.authenticator) of_choice.shown),
      record {
        suite = suite;
        session = of_choice.acceptable.session;
        bytes = by.rows.bytes;
        reply = ap (λ (a : AdmissionRecord). a.reply) whole;
        is_reply = subst (λ (q : Presented). IsReplyFor fields words q by.rows.bytes) of_choice.shown by.rows.is_reply;
      },
    )

-- what is admitted has an AP-REP
pub has_reply : (fields : ReplyFields) (skew moment : ℕ) (admitted : List PairRecord) (words : List ℕ) (p asked : Presented) (r : Result AdmissionRecord AdmitRefusal) (seen : SeenRecord)
    → asked ≡ asking p → IsOnce (once_with fields skew moment admitted words asked).gives admitted (pair_of asked) r seen → IfOk r (λ admission. IsSome admission.reply)
unfolding IsOnce
has_reply fields skew moment admitted words p asked (Ok made) seen is x =
    let whole : Admitted = record { admission = made; pair = pair_of asked } in
    let rows = once_rows fields skew moment admitted words p whole (subst (λ (q : Presented). (once_with fields skew moment admitted words q).gives (Ok whole)) is x.0) in
    let there : made.reply ≡ Some rows.bytes = ap (λ (m : Admitted). m.admission.reply) rows.whole in
    subst (λ (reply : Option (List ℕ)). IsSome reply) (sym there) refl
has_reply fields skew moment admitted words p asked (Err e) seen is x = tt
