-- How a message is answered, by what the service answers to its AP-REQ.
use Rattle.std.proofs.Common.{◌≡◌, List, Result, Ok, Err, refl, inl, inr}
use Rattle.krb_account_texts.specs.declared.line.Line.{Line}
use Rattle.krb_ap_requests.specs.declared.refusal.AdmitRefusal.{AdmitRefusal}
use Rattle.krb_ap_requests.specs.declared.refusal.AdmitRefusal.TheVariants as admit
use Rattle.krb_service.specs.RememberingService.{IsStep}
use Rattle.krb_service.specs.Seen.{IsWindow, SeenRecord}
use Rattle.krb_password_changes.specs.Frames.{IsFrame, frame_table}
use Rattle.krb_password_changes.specs.declared.messages.result_code.ResultCode.{ResultCode}
use Rattle.krb_password_changes.specs.declared.messages.version.Version.{Version}
use Rattle.picky_asn1.specs.Bytes.{Bytes}
use Rattle.krb_password_changes.specs.Answers.{Caller, IsAdmitting, IsAnswered, admitting}
use Rattle.krb_password_changes.specs.declared.judge.Granted.{Granted}
use Rattle.krb_password_changes.specs.ChangeTable.{RulesRecord}
use Rattle.krb_password_changes.specs.NewPasswords.{Changes}
use Rattle.krb_password_changes.specs.Refusals.{refused_as}
use Rattle.krb_password_changes.specs.declared.answer.Admitted.{Admitted}
use Rattle.krb_password_changes.specs.declared.refusal.ChangeRefusal.{ChangeRefusal}
use Rattle.krb_password_changes.specs.declared.refusal.ChangeRefusal.TheVariants.{Refused, Memory}

-- a message that is no frame isn't admitted
pub no_frame : (caller : Caller) (message : Bytes) (code : ResultCode) (seen : SeenRecord) → (frame_table message).gives (Err code)
    → IsWindow seen caller.admitted → IsAdmitting caller message (Err (Refused code)) seen
unfolding IsAdmitting
no_frame caller message code seen given window = (caller.admitted, inl (given, refl), window)

-- one whose AP-REQ is admitted is
pub request_admitted : (caller : Caller) (message request : Bytes) (found : Admitted) (seen : SeenRecord)
    → IsFrame found.version request found.krb_priv.now message → IsStep (admitting caller request).gives caller.admitted (Ok found.admission) seen
    → IsAdmitting caller message (Ok found) seen
unfolding IsAdmitting IsStep
request_admitted caller message request found seen frame step =
    (step.0, record { request = request; frame = frame; admits = step.1 }, step.2)

-- one whose AP-REQ is refused isn't
pub request_refused : (caller : Caller) (message request krb_priv : Bytes) (version : Version) (refusal : AdmitRefusal) (seen : SeenRecord)
    → IsFrame version request krb_priv message → IsStep (admitting caller request).gives caller.admitted (Err refusal) seen
    → IsAdmitting caller message (Err (refused_as refusal)) seen
unfolding IsAdmitting IsStep
request_refused caller message request krb_priv version admit.Unreadable seen frame step =
    (step.0, inr (record { version = version; request = request; krb_priv = krb_priv; refusal = admit.Unreadable; frame = frame; refuses = step.1; by_code = refl }), step.2)
request_refused caller message request krb_priv version (admit.Krb code) seen frame step =
    (step.0, inr (record { version = version; request = request; krb_priv = krb_priv; refusal = admit.Krb code; frame = frame; refuses = step.1; by_code = refl }), step.2)
request_refused caller message request krb_priv version admit.Memory seen frame step = step

-- a message that isn't admitted changes no line
pub not_answered : (caller : Caller) (rules : RulesRecord) (message : Bytes) (old new : List Line) (refusal : ChangeRefusal) (seen : SeenRecord)
    → IsAdmitting caller message (Err refusal) seen → new ≡ old → IsAnswered caller rules message old (Err refusal) new seen
unfolding IsAdmitting IsAnswered
not_answered caller rules message old new (Refused code) seen (after, is, window) same = (after, is, window, same)
not_answered caller rules message old new Memory seen window same = (window, same)

-- one that is changes what it asks for
pub answered : (caller : Caller) (rules : RulesRecord) (message : Bytes) (old new : List Line) (found : Admitted) (outcome : Result Granted ChangeRefusal) (seen : SeenRecord)
    → IsAdmitting caller message (Ok found) seen → Changes rules found.version found.admission found.krb_priv.now old outcome new
    → IsAnswered caller rules message old (Ok (record { admission = found.admission; outcome = outcome })) new seen
unfolding IsAdmitting IsAnswered
answered caller rules message old new found outcome seen (after, is, window) changes = (found.version, found.krb_priv.now, after, is, window, changes)
