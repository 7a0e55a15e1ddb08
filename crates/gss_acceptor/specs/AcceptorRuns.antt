-- The steps that an acceptor's tokens ask, one after the other, and how many contexts they begin.
use Rattle.std.specs.Prelude.{◌≡◌, ◌≤◌, ◌+◌, ◌++◌, ℕ, List, [], ◌∷◌, Option, Result, Ok, Err}
use Rattle.picky_asn1.specs.Bytes.{Bytes}
use Rattle.krb_time.specs.Units.{Micros}
use Rattle.krb_messages.specs.RandomBytes.{Random}
use Rattle.krb_ap_requests.specs.Entry.{EntryRecord}
use Rattle.krb_ap_requests.specs.declared.refusal.AdmitRefusal.{AdmitRefusal}
use Rattle.krb_service.specs.Admission.{AdmissionRecord}
use Rattle.krb_service.specs.OnceForEver.{admissions_in}
use Rattle.krb_service.specs.Runs.{AdmissionCall}
use Rattle.gss_acceptor.specs.Accepting.{AcceptorRecord, AdmitRequest, AskFor, Step, Takes, VerifyMic}
use Rattle.gss_acceptor.specs.declared.accepted.Accepted.{Accepted}
use Rattle.gss_acceptor.specs.declared.refusal.AcceptRefusal.{AcceptRefusal}

-- a step that is taken: the entries that the service then has, the step, the moment and the random bytes of its token, and the result
pub record TakenStep : Type 0 where
  pub entries : List EntryRecord
  pub step : Step
  pub moment : Micros
  pub random : Random
  pub result : Result Accepted AcceptRefusal

-- the acceptor, whose service has these entries
abbrev pub with_entries : AcceptorRecord → List EntryRecord → AcceptorRecord
with_entries acceptor entries = record acceptor { service = record acceptor.service { entries = entries } }

-- The steps are taken in turn, each with its entries. A token that asks no step changes nothing (`Handles`), so it isn't among them.
unfoldable pub AreTaken : AcceptorRecord → List TakenStep → AcceptorRecord → Type 0
AreTaken acceptor [] after = after ≡ acceptor
AreTaken acceptor (taken ∷ steps) after =
    (next : AcceptorRecord) × Takes taken.step (with_entries acceptor taken.entries) taken.moment taken.random taken.result next
    × AreTaken next steps after

-- a request that is admitted begins a context, if what follows the admission isn't refused
abbrev pub begun_by : Step → Result Accepted AcceptRefusal → ℕ
begun_by (AskFor mechanism terms) result = 0
begun_by (AdmitRequest message exchange) (Ok accepted) = 1
begun_by (AdmitRequest message exchange) (Err refusal) = 0
begun_by (VerifyMic unverified theirs) result = 0

-- how many contexts the steps begin
abbrev pub contexts_in : List TakenStep → ℕ
contexts_in [] = 0
contexts_in (taken ∷ steps) = begun_by taken.step taken.result + contexts_in steps

-- the call of the service that a step makes, and its answer: an AP-REQ makes one, which is an admission if a context begins
abbrev pub IsCallBy : Step → Micros → Random → Result Accepted AcceptRefusal → List AdmissionCall → List (Result AdmissionRecord AdmitRefusal) → Type 0
IsCallBy (AskFor mechanism terms) moment random result calls answers = (calls ≡ []) × (answers ≡ [])
IsCallBy (AdmitRequest message exchange) moment random result calls answers =
    (call : AdmissionCall) × (answer : Result AdmissionRecord AdmitRefusal) × (calls ≡ call ∷ []) × (answers ≡ answer ∷ [])
    × (call.message ≡ message) × (call.moment ≡ moment) × (call.words ≡ random)
    × (begun_by (AdmitRequest message exchange) result ≤ admissions_in (answer ∷ []))
IsCallBy (VerifyMic unverified theirs) moment random result calls answers = (calls ≡ []) × (answers ≡ [])

-- The calls are those of the steps in turn, with their answers.
unfoldable pub AreCallsOf : List TakenStep → List AdmissionCall → List (Result AdmissionRecord AdmitRefusal) → Type 0
AreCallsOf [] calls answers = (calls ≡ []) × (answers ≡ [])
AreCallsOf (taken ∷ steps) calls answers =
    (first : List AdmissionCall) × (others : List AdmissionCall) × (told : List (Result AdmissionRecord AdmitRefusal)) × (rest : List (Result AdmissionRecord AdmitRefusal))
    × (calls ≡ first ++ others) × (answers ≡ told ++ rest)
    × IsCallBy taken.step taken.moment taken.random taken.result first told × AreCallsOf steps others rest
