-- An answered request adds one pair of client and time, which is new.
use Rattle.std.proofs.Common.{◌≡◌, ℕ, ◌+◌, max, List, [], ◌∷◌, length, Ok, refl, sym, subst, arith}
use Rattle.krb_account_texts.specs.declared.line.Line.{Line}
use Rattle.krb_ap_requests.specs.Entry.{EntryRecord}
use Rattle.krb_messages.specs.RandomBytes.{Random}
use Rattle.krb_service.proofs.KeytabLaws.{call_of_some}
use Rattle.krb_service.proofs.OnceForEver.{once_for_ever}
use Rattle.krb_service.proofs.Unasked.{unasked_admits, unasked_replies}
use Rattle.krb_ap_requests.specs.Presents.{Choice}
use Rattle.krb_service.specs.Admission.{AdmissionRecord, TellsOf}
use Rattle.krb_service.specs.ChosenEntry.{IsPresentedTo}
use Rattle.krb_service.specs.KeytabService.{remembering_by_keytab_with}
use Rattle.krb_service.specs.OnceForEver.{AreOnce}
use Rattle.krb_service.specs.Pair.{PairRecord}
use Rattle.krb_service.specs.RememberingService.{IsStep, remembering_by}
use Rattle.krb_service.specs.Runs.{AdmissionCall, IsRun, answer_to}
use Rattle.krb_service.specs.Seen.{IsWindow, SeenRecord}
use Rattle.krb_service.specs.Unasked.{IsRepliedTo}
use Rattle.krb_password_changes.specs.Frames.{IsFrame}
use Rattle.krb_password_changes.specs.declared.messages.version.Version.{Version}
use Rattle.krb_service.specs.declared.reply.ReplyFields.TheVariants.{TimeAlone}
use Rattle.picky_asn1.specs.Bytes.{Bytes}
use Rattle.krb_password_changes.specs.Answers.{Caller, IsAnswered}
use Rattle.krb_password_changes.specs.ChangeTable.{RulesRecord}
use Rattle.krb_password_changes.specs.declared.answer.Answer.{Answer}

max_same : (n : ℕ) → max n n ≡ n
max_same n = omega arith

-- the pairs after a request that is admitted by an entry
added : (skew moment : ℕ) (admitted : List PairRecord) (entry : EntryRecord) (request : Bytes) (words : Random) (admission : AdmissionRecord) (seen : SeenRecord) → AreOnce admitted
    → IsStep (remembering_by entry skew TimeAlone moment admitted request words).gives admitted (Ok admission) seen
    → (after : List PairRecord) × AreOnce after × (length after ≡ 1 + length admitted) × IsWindow seen after
unfolding IsStep IsRun
added skew moment admitted entry request words admission seen once (after, gives, window) =
    let call : AdmissionCall = record { entry = entry; fields = TimeAlone; message = request; moment = moment; words = words } in
    let answered : (answer_to skew (max moment moment) admitted call).gives (Ok admission, after) =
    subst (λ (n : ℕ). (answer_to skew n admitted call).gives (Ok admission, after)) (sym (max_same moment)) gives in
    let run : IsRun skew moment admitted (call ∷ []) (Ok admission ∷ []) after = (after, answered, refl) in
    let all = once_for_ever skew moment admitted (call ∷ []) (Ok admission ∷ []) after once run in
    (after, all.0, omega (arith, all.1), window)

pub answered_once : (caller : Caller) (rules : RulesRecord) (message : Bytes) (old new : List Line) (answer : Answer) (seen : SeenRecord)
    → AreOnce caller.admitted → IsAnswered caller rules message old (Ok answer) new seen
    → (after : List PairRecord) × AreOnce after × (length after ≡ 1 + length caller.admitted) × IsWindow seen after
unfolding IsAnswered IsStep
answered_once caller rules message old new answer seen once (version, krb_priv, after, is, window, changes) =
    let asked = unasked_admits TimeAlone caller.service caller.moment caller.admitted is.request caller.words answer.admission after is.admits in
    let admission : AdmissionRecord = record answer.admission { reply = asked.0 } in
    let step : IsStep (remembering_by_keytab_with TimeAlone caller.service caller.moment caller.admitted is.request caller.words).gives caller.admitted (Ok admission) seen =
    (after, asked.1, window) in
    let by = call_of_some caller.service TimeAlone caller.moment caller.admitted is.request caller.words (Ok admission) seen step in
    added caller.service.seen.skew caller.moment caller.admitted by.0 is.request caller.words admission seen once by.1

-- what is answered was presented
pub answered_as_presented : (caller : Caller) (rules : RulesRecord) (message : Bytes) (old new : List Line) (answer : Answer) (seen : SeenRecord)
    → IsAnswered caller rules message old (Ok answer) new seen
    → (version : Version) × (request : Bytes) × (krb_priv : Bytes) × (choice : Choice) × IsFrame version request krb_priv message
    × IsPresentedTo caller.service.entries choice request × TellsOf choice answer.admission × IsRepliedTo TimeAlone caller.words choice answer.admission
unfolding IsAnswered
answered_as_presented caller rules message old new answer seen (version, krb_priv, after, is, window, changes) =
    let by = unasked_replies TimeAlone caller.service caller.moment caller.admitted is.request caller.words answer.admission after is.admits in
    (version, is.request, krb_priv, by.0, is.frame, by.1, by.2, by.3)
