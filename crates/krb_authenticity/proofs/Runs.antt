-- Over a run each admission is of a request of its own.
use Rattle.std.proofs.Common.{◌≡◌, ℕ, List, [], ◌∷◌, length, max, Result, Ok, Err, refl, sym, subst, inl, inr, arith}
use Rattle.picky_asn1.specs.Bytes.{Bytes}
use Rattle.krb_kdc_exchanges.specs.Rows.{PkinitRows}
use Rattle.krb_ap_requests.specs.declared.refusal.AdmitRefusal.{AdmitRefusal}
use Rattle.krb_service.specs.Admission.{AdmissionRecord}
use Rattle.krb_service.specs.OnceForEver.{AreOnce, admissions_in}
use Rattle.krb_service.specs.Pair.{PairRecord}
use Rattle.krb_service.specs.Runs.{AdmissionCall, IsRun}
use Rattle.krb_service.proofs.OnceForEver.{once_for_ever, refused_by_moment_alone}
use Rattle.krb_authenticity.specs.Authentic.{IsAskedFirst, IsAuthentic, pair_of_request}
use Rattle.krb_authenticity.specs.Ciphertexts.{IsRealmUnforged}
use Rattle.krb_authenticity.specs.Parties.{ExchangeRecord, SentRecord}
use Rattle.krb_authenticity.specs.Runs.{AreAsked, AreCallsUnforged, AreSessionsKept, IsAdmittedAt, IsAuthenticAt}
use Rattle.krb_authenticity.proofs.Asked.{client_asked}
use Rattle.krb_authenticity.proofs.Whole.{authentic_by}

-- one more pair
one_more : (sent : SentRecord) (admitted : List PairRecord) (admission : AdmissionRecord) (after : List PairRecord) → AreAsked sent admitted → IsAskedFirst sent admitted admission after → AreAsked sent after
one_more sent admitted admission after asked x = subst (λ pairs. AreAsked sent pairs) (sym x.remembered) all
  where
    all : AreAsked sent (pair_of_request x.request ∷ admitted)
    all pair (inl same) = (x.request, x.among, x.of_request.sent, same)
    all pair (inr among) = asked pair among

ok_same : (a b : AdmissionRecord) → ◌≡◌ {A = Result AdmissionRecord AdmitRefusal} (Ok a) (Ok b) → b ≡ a
ok_same a b e = cc (e)

refused : (a : AdmissionRecord) (refusal : AdmitRefusal) → ◌≡◌ {A = Result AdmissionRecord AdmitRefusal} (Err refusal) (Ok a) → ⊥
refused a refusal e = cc (e)

module _ (rows : PkinitRows) (keys : List Bytes) (exchanges : List ExchangeRecord) (sent : SentRecord) where
  run_asked : (skew greatest : ℕ) (admitted : List PairRecord) (calls : List AdmissionCall) (answers : List (Result AdmissionRecord AdmitRefusal)) (after : List PairRecord)
      → AreCallsUnforged rows keys exchanges sent calls → AreSessionsKept keys calls answers → AreAsked sent admitted → IsRun skew greatest admitted calls answers after → AreAsked sent after
  unfolding IsRun
  run_asked skew greatest admitted [] [] after unforged kept asked e = subst (λ pairs. AreAsked sent pairs) (sym e) asked
  run_asked skew greatest admitted [] (answer ∷ answers) after unforged kept asked none = absurd none
  run_asked skew greatest admitted (call ∷ calls) [] after unforged kept asked none = absurd none
  run_asked skew greatest admitted (call ∷ calls) (Ok admission ∷ answers) after unforged kept asked (next, answered, rest) =
      let first = client_asked rows keys exchanges sent call.entry skew call.fields (max greatest call.moment) admitted call.message call.words admission next
      (unforged call (inl refl)).opens (kept call admission (inl (refl, refl))) answered in
      run_asked skew (max greatest call.moment) next calls answers after (λ c among. unforged c (inr among)) (λ c a among. kept c a (inr among)) (one_more sent admitted admission next asked first) rest
  run_asked skew greatest admitted (call ∷ calls) (Err refusal ∷ answers) after unforged kept asked run =
      run_asked skew (max greatest call.moment) admitted calls answers after (λ c among. unforged c (inr among)) (λ c a among. kept c a (inr among)) asked
      (refused_by_moment_alone skew greatest admitted call calls refusal answers after run)

  pub each_asked : (skew greatest : ℕ) (calls : List AdmissionCall) (answers : List (Result AdmissionRecord AdmitRefusal)) (after : List PairRecord)
      → AreCallsUnforged rows keys exchanges sent calls → AreSessionsKept keys calls answers → IsRun skew greatest [] calls answers after
      → AreOnce after × (length after ≡ admissions_in answers) × AreAsked sent after
  each_asked skew greatest calls answers after unforged kept run =
      let once = once_for_ever skew greatest [] calls answers after tt run in
      (once.0, omega (arith, once.1), run_asked skew greatest [] calls answers after unforged kept (λ pair none. absurd none) run)

  -- and each admission is of a client that the realm had authenticated
  authentic_at : (call : AdmissionCall) (admitted : List PairRecord) (admission : AdmissionRecord) (after : List PairRecord) → IsAuthentic rows keys exchanges sent call.entry admitted admission after
      → IsAuthenticAt rows keys exchanges sent call.entry admission
  authentic_at call admitted admission after x =
      record { ticket = x.ticket; client = x.client; asked = λ kept. let own = x.asked kept in (own.request, own.among, own.of_request) }

  pub each_authentic : IsRealmUnforged rows keys exchanges sent → (skew greatest : ℕ) (admitted : List PairRecord) (calls : List AdmissionCall) (answers : List (Result AdmissionRecord AdmitRefusal)) (after : List PairRecord)
      → AreCallsUnforged rows keys exchanges sent calls → IsRun skew greatest admitted calls answers after
      → (call : AdmissionCall) (admission : AdmissionRecord) → IsAdmittedAt call admission calls answers → IsAuthenticAt rows keys exchanges sent call.entry admission
  unfolding IsRun
  each_authentic realm skew greatest admitted [] answers after unforged run call admission among = absurd among
  each_authentic realm skew greatest admitted (own ∷ calls) [] after unforged none call admission among = absurd none
  each_authentic realm skew greatest admitted (own ∷ calls) (Ok made ∷ answers) after unforged (next, answered, rest) call admission (inl (same, is)) =
      let x = authentic_at own admitted made next
      (authentic_by rows keys exchanges sent own.entry skew own.fields (max greatest own.moment) admitted own.message own.words made next realm (unforged own (inl refl)) answered) in
      subst (λ (c : AdmissionCall). IsAuthenticAt rows keys exchanges sent c.entry admission) (sym same)
      (subst (λ (a : AdmissionRecord). IsAuthenticAt rows keys exchanges sent own.entry a) (sym (ok_same made admission is)) x)
  each_authentic realm skew greatest admitted (own ∷ calls) (Ok made ∷ answers) after unforged (next, answered, rest) call admission (inr among) =
      each_authentic realm skew (max greatest own.moment) next calls answers after (λ c x. unforged c (inr x)) rest call admission among
  each_authentic realm skew greatest admitted (own ∷ calls) (Err refusal ∷ answers) after unforged run call admission (inl (same, is)) = absurd (refused admission refusal is)
  each_authentic realm skew greatest admitted (own ∷ calls) (Err refusal ∷ answers) after unforged run call admission (inr among) =
      each_authentic realm skew (max greatest own.moment) admitted calls answers after (λ c x. unforged c (inr x))
      (refused_by_moment_alone skew greatest admitted own calls refusal answers after run) call admission among
