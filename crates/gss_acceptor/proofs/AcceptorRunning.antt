-- The admissions of an acceptor's steps are a run of its service.
use Rattle.std.proofs.Common.{◌≡◌, ◌≤◌, ◌+◌, ℕ, List, [], ◌∷◌, ◌++◌, length, max, Option, Result, Ok, Err, inl, inr, refl, sym, ap, subst, ◌∙◌, arith}
use Rattle.krb_ap_requests.specs.declared.refusal.AdmitRefusal.{AdmitRefusal}
use Rattle.krb_service.specs.Admission.{AdmissionRecord}
use Rattle.krb_service.specs.Admits.{Admits}
use Rattle.krb_service.specs.OnceForEver.{AreOnce, admissions_in}
use Rattle.krb_service.specs.Pair.{PairRecord}
use Rattle.krb_service.specs.Runs.{AdmissionCall, IsRun, answer_to, greatest_after}
use Rattle.krb_service.specs.Seen.{IsWindow, SeenRecord}
use Rattle.krb_service.specs.KeytabService.{KeytabServiceRecord}
use Rattle.krb_service.specs.declared.reply.ReplyFields.{ReplyFields}
use Rattle.krb_service.proofs.KeytabLaws.{call_of_some}
use Rattle.krb_service.proofs.OnceForEver.{admissions-append, once_for_ever}
use Rattle.krb_service.proofs.Running.{answered, run_append, run_none, run_one}
use Rattle.gss_acceptor.specs.Accepting.{AcceptorRecord, AdmitRequest, AskFor, IsAnsweredAs, Step, Takes, VerifyMic}
use Rattle.gss_acceptor.specs.AcceptorRuns.{AreCallsOf, AreTaken, IsCallBy, TakenStep, begun_by, contexts_in, with_entries}
use Rattle.gss_acceptor.specs.Contexts.{fields_of}
use Rattle.gss_acceptor.specs.Established.{EstablishedRecord}
use Rattle.gss_acceptor.specs.declared.accepted.Accepted.{Accepted}
use Rattle.gss_acceptor.specs.declared.exchange.Exchange.{Exchange}
use Rattle.gss_acceptor.specs.declared.refusal.AcceptRefusal.{AcceptRefusal}
use Rattle.gss_acceptor.specs.declared.refusal.AcceptRefusal.TheVariants.{Admit}

-- the calls of a service between two states of what it has seen, as a run, in which so many are admitted at least
pub record IsRunBetween (old new : SeenRecord) (admitted : List PairRecord) (least : ℕ) : Type 0 where
  pub calls : List AdmissionCall
  pub answers : List (Result AdmissionRecord AdmitRefusal)
  pub after : List PairRecord
  pub run : IsRun old.skew old.greatest admitted calls answers after
  pub window : IsWindow new after
  pub skew : new.skew ≡ old.skew
  pub greatest : new.greatest ≡ greatest_after old.greatest calls
  pub enough : least ≤ admissions_in answers

-- no call
between_none : (old new : SeenRecord) (admitted : List PairRecord) → new ≡ old → IsWindow old admitted
    → (run : IsRunBetween old new admitted 0) × (run.calls ≡ []) × (run.answers ≡ [])
between_none old new admitted same window =
    let run : IsRunBetween old new admitted 0 = record {
      calls = [];
      answers = [];
      after = admitted;
      run = run_none old.skew old.greatest admitted [] refl;
      window = subst (λ (s : SeenRecord). IsWindow s admitted) (sym same) window;
      skew = ap (λ (s : SeenRecord). s.skew) same;
      greatest = ap (λ (s : SeenRecord). s.greatest) same;
      enough = omega arith;
    } in (run, refl, refl)

-- one call
between_one : (fields : ReplyFields) (service after : KeytabServiceRecord) (moment : ℕ) (message random : List ℕ) (answer : Result AdmissionRecord AdmitRefusal) (admitted : List PairRecord) (least : ℕ)
    → Admits fields service moment message random answer after → IsWindow service.seen admitted → least ≤ admissions_in (answer ∷ [])
    → (run : IsRunBetween service.seen after.seen admitted least) × (call : AdmissionCall) × (run.calls ≡ call ∷ []) × (run.answers ≡ answer ∷ [])
    × (call.message ≡ message) × (call.moment ≡ moment) × (call.words ≡ random)
between_one fields service after moment message random answer admitted least admits window enough =
    let by = call_of_some service fields (max service.seen.greatest moment) admitted message random answer after.seen (admits.remembers admitted window) in
    let call : AdmissionCall = record { entry = by.0; fields = fields; message = message; moment = moment; words = random } in
    let next = answered (answer_to service.seen.skew (max service.seen.greatest moment) admitted call).gives admitted answer after.seen by.1 in
    let run : IsRunBetween service.seen after.seen admitted least = record {
      calls = call ∷ [];
      answers = answer ∷ [];
      after = next.0;
      run = run_one service.seen.skew service.seen.greatest admitted next.0 call answer next.1;
      window = next.2;
      skew = admits.skew;
      greatest = admits.greatest;
      enough = enough;
    } in (run, call, refl, refl, refl, refl, refl)

greatest-append : (g : ℕ) (calls others : List AdmissionCall) → greatest_after g (calls ++ others) ≡ greatest_after (greatest_after g calls) others
greatest-append g [] others = refl
greatest-append g (c ∷ calls) others = greatest-append (max g c.moment) calls others

-- and those after them
between_more : (old mid new : SeenRecord) (admitted : List PairRecord) (least more : ℕ) (one : IsRunBetween old mid admitted least) (rest : IsRunBetween mid new one.after more)
    → (run : IsRunBetween old new admitted (least + more)) × (run.calls ≡ one.calls ++ rest.calls) × (run.answers ≡ one.answers ++ rest.answers)
between_more old mid new admitted least more one rest =
    let run : IsRunBetween old new admitted (least + more) = record {
      calls = one.calls ++ rest.calls;
      answers = one.answers ++ rest.answers;
      after = rest.after;
      run = run_append old.skew old.greatest admitted one.after rest.after one.calls rest.calls one.answers rest.answers one.run
          (subst (λ n. IsRun n (greatest_after old.greatest one.calls) one.after rest.calls rest.answers rest.after) one.skew
          (subst (λ g. IsRun mid.skew g one.after rest.calls rest.answers rest.after) one.greatest rest.run));
      window = rest.window;
      skew = rest.skew ∙ one.skew;
      greatest = rest.greatest ∙ ap (λ g. greatest_after g rest.calls) one.greatest ∙ sym (greatest-append old.greatest one.calls rest.calls);
      enough = let both = admissions-append one.answers rest.answers in omega (arith, both, one.enough, rest.enough);
    } in (run, refl, refl)

-- a request that the service refuses begins no context
none_begun : (message : List ℕ) (exchange : Option Exchange) (made : Result EstablishedRecord AcceptRefusal) (cause : AdmitRefusal) (result : Result Accepted AcceptRefusal)
    → made ≡ Err (Admit cause) → IsAnsweredAs exchange made result → begun_by (AdmitRequest message exchange) result ≤ 0
none_begun message exchange made cause (Ok accepted) is answered_so =
    let never : ◌≡◌ {A = Result Accepted AcceptRefusal} (Ok accepted) (Err (Admit cause)) = subst (λ (m : Result EstablishedRecord AcceptRefusal). IsAnsweredAs exchange m (Ok accepted)) is answered_so in
    absurd (cc (never))
none_begun message exchange made cause (Err refusal) is answered_so = omega arith

one_begun : (message : List ℕ) (exchange : Option Exchange) (result : Result Accepted AcceptRefusal) → begun_by (AdmitRequest message exchange) result ≤ 1
one_begun message exchange (Ok accepted) = omega arith
one_begun message exchange (Err refusal) = omega arith

-- a step has one call at most
of_step : (step : Step) (acceptor after : AcceptorRecord) (moment : ℕ) (random : List ℕ) (result : Result Accepted AcceptRefusal) (admitted : List PairRecord)
    → Takes step acceptor moment random result after → IsWindow acceptor.service.seen admitted
    → (run : IsRunBetween acceptor.service.seen after.service.seen admitted (begun_by step result)) × IsCallBy step moment random result run.calls run.answers
of_step (AskFor mechanism terms) acceptor after moment random result admitted (same, x) window =
    let none = between_none acceptor.service.seen after.service.seen admitted (ap (λ (a : AcceptorRecord). a.service.seen) same) window in (none.0, (none.1, none.2))
of_step (AdmitRequest message exchange) acceptor after moment random result admitted (made, (same_terms, inl (admission, admits, whole)), answered_so) window =
    let few = one_begun message exchange result in
    let one = between_one (fields_of acceptor.terms) acceptor.service after.service moment message random (Ok admission) admitted (begun_by (AdmitRequest message exchange) result) admits window few in
    (one.0, (one.1, Ok admission, one.2, one.3, one.4, one.5, one.6, few))
of_step (AdmitRequest message exchange) acceptor after moment random result admitted (made, (same_terms, inr (cause, admits, is)), answered_so) window =
    let few = none_begun message exchange made cause result is answered_so in
    let one = between_one (fields_of acceptor.terms) acceptor.service after.service moment message random (Err cause) admitted (begun_by (AdmitRequest message exchange) result) admits window few in
    (one.0, (one.1, Err cause, one.2, one.3, one.4, one.5, one.6, few))
of_step (VerifyMic unverified theirs) acceptor after moment random result admitted (same, x) window =
    let none = between_none acceptor.service.seen after.service.seen admitted (ap (λ (a : AcceptorRecord). a.service.seen) same) window in (none.0, (none.1, none.2))

-- so the steps have a run
of_steps : (acceptor after : AcceptorRecord) (steps : List TakenStep) (admitted : List PairRecord) → IsWindow acceptor.service.seen admitted → AreTaken acceptor steps after
    → (run : IsRunBetween acceptor.service.seen after.service.seen admitted (contexts_in steps)) × AreCallsOf steps run.calls run.answers
unfolding AreTaken AreCallsOf
of_steps acceptor after [] admitted window same =
    let none = between_none acceptor.service.seen after.service.seen admitted (ap (λ (a : AcceptorRecord). a.service.seen) same) window in (none.0, (none.1, none.2))
of_steps acceptor after (taken ∷ steps) admitted window (next, takes, rest) =
    let one = of_step taken.step (with_entries acceptor taken.entries) next taken.moment taken.random taken.result admitted takes window in
    let others = of_steps next after steps one.0.after one.0.window rest in
    let both = between_more acceptor.service.seen next.service.seen after.service.seen admitted (begun_by taken.step taken.result) (contexts_in steps) one.0 others.0 in
    (both.0, (one.0.calls, others.0.calls, one.0.answers, others.0.answers, both.1, both.2, one.1, others.1))

pub has_run : (acceptor after : AcceptorRecord) (steps : List TakenStep) (admitted : List PairRecord) → IsWindow acceptor.service.seen admitted → AreTaken acceptor steps after
    → (calls : List AdmissionCall) × (answers : List (Result AdmissionRecord AdmitRefusal)) × (all : List PairRecord)
    × IsRun acceptor.service.seen.skew acceptor.service.seen.greatest admitted calls answers all × IsWindow after.service.seen all × AreCallsOf steps calls answers
has_run acceptor after steps admitted window taken =
    let it = of_steps acceptor after steps admitted window taken in (it.0.calls, it.0.answers, it.0.after, it.0.run, it.0.window, it.1)

pub once : (acceptor after : AcceptorRecord) (steps : List TakenStep) (admitted : List PairRecord) → IsWindow acceptor.service.seen admitted → AreOnce admitted → AreTaken acceptor steps after
    → (all : List PairRecord) × IsWindow after.service.seen all × AreOnce all × (contexts_in steps + length admitted ≤ length all)
once acceptor after steps admitted window once_before taken =
    let it = (of_steps acceptor after steps admitted window taken).0 in
    let told = once_for_ever acceptor.service.seen.skew acceptor.service.seen.greatest admitted it.calls it.answers it.after once_before it.run in
    (it.after, it.window, told.0, omega (arith, told.1, it.enough))
