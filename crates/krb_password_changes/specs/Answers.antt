-- How a call is answered: by its frame, its AP-REQ and its KRB-PRIV. The first part that refuses it counts (RFC 3244, section 2).
use Rattle.std.specs.Prelude.{◌≡◌, ◌⊎◌, List, Result, Ok, Err}
use Rattle.decision_tables.specs.Tables.{Table}
use Rattle.krb_account_texts.specs.declared.line.Line.{Line}
use Rattle.krb_ap_requests.specs.declared.refusal.AdmitRefusal.{AdmitRefusal}
use Rattle.krb_messages.specs.RandomBytes.{Random}
use Rattle.krb_service.specs.Admission.{AdmissionRecord}
use Rattle.krb_service.specs.KeytabService.{KeytabServiceRecord}
use Rattle.krb_service.specs.Pair.{PairRecord}
use Rattle.krb_service.specs.RememberingService.{Outcome}
use Rattle.krb_service.specs.Seen.{IsWindow, SeenRecord}
use Rattle.krb_service.specs.Unasked.{remembering_unasked}
use Rattle.krb_service.specs.declared.reply.ReplyFields.TheVariants.{TimeAlone}
use Rattle.krb_time.specs.Units.{Micros}
use Rattle.krb_password_changes.specs.Frames.{IsFrame, frame_table}
use Rattle.krb_password_changes.specs.declared.messages.result_code.ResultCode.{ResultCode}
use Rattle.krb_password_changes.specs.declared.messages.version.Version.{Version}
use Rattle.picky_asn1.specs.Bytes.{Bytes}
use Rattle.krb_password_changes.specs.ChangeTable.{RulesRecord}
use Rattle.krb_password_changes.specs.NewPasswords.{Changes}
use Rattle.krb_password_changes.specs.Refusals.{refused_as}
use Rattle.krb_password_changes.specs.declared.answer.Admitted.{Admitted}
use Rattle.krb_password_changes.specs.declared.answer.Answer.{Answer}
use Rattle.krb_password_changes.specs.declared.refusal.ChangeRefusal.{ChangeRefusal}
use Rattle.krb_password_changes.specs.declared.refusal.ChangeRefusal.TheVariants.{Refused, Memory}

-- the call's service, which has admitted these pairs, the greatest moment, and the random bytes
pub record Caller : Type 0 where
  pub service : KeytabServiceRecord
  pub admitted : List PairRecord
  pub moment : Micros
  pub words : Random

-- What the service answers to an AP-REQ, with an AP-REP in any case (RFC 3244, section 2).
abbrev pub admitting : Caller → Bytes → Table Outcome
admitting caller request = remembering_unasked TimeAlone caller.service caller.moment caller.admitted request caller.words

-- The message is a frame of this version and this KRB-PRIV. The service admits its AP-REQ, and these pairs are admitted after it.
pub record IsAdmitted (caller : Caller) (message : Bytes) (version : Version) (admission : AdmissionRecord) (krb_priv : Bytes) (after : List PairRecord) : Type 0 where
  pub request : Bytes
  pub frame : IsFrame version request krb_priv message
  pub admits : (admitting caller request).gives (Ok admission, after)

-- The message is a frame, and the service refuses its AP-REQ.
pub record IsRefusedRequest (caller : Caller) (message : Bytes) (code : ResultCode) (after : List PairRecord) : Type 0 where
  pub version : Version
  pub request : Bytes
  pub krb_priv : Bytes
  pub refusal : AdmitRefusal
  pub frame : IsFrame version request krb_priv message
  pub refuses : (admitting caller request).gives (Err refusal, after)
  pub by_code : refused_as refusal ≡ Refused code

-- The message is no frame, or the service refuses its AP-REQ.
abbrev pub IsNotAdmitted : Caller → Bytes → ResultCode → List PairRecord → Type 0
IsNotAdmitted caller message code after =
    ((frame_table message).gives (Err code) × (after ≡ caller.admitted)) ⊎ IsRefusedRequest caller message code after

-- what the service has seen after a message that is admitted or isn't
unfoldable pub IsAdmitting : Caller → Bytes → Result Admitted ChangeRefusal → SeenRecord → Type 0
IsAdmitting caller message (Ok found) seen =
    (after : List PairRecord) × IsAdmitted caller message found.version found.admission found.krb_priv.now after × IsWindow seen after
IsAdmitting caller message (Err (Refused code)) seen = (after : List PairRecord) × IsNotAdmitted caller message code after × IsWindow seen after
IsAdmitting caller message (Err Memory) seen = IsWindow seen caller.admitted

-- What a message is answered, and the lines and what the service has seen after it. It is admitted, and what its KRB-PRIV asks for is
-- granted or refused; or it isn't admitted, and the lines stay. Test: `once`, `the same request again`, `the same authenticator, and
-- another password` of `password_changes.txt`.
unfoldable pub IsAnswered : Caller → RulesRecord → Bytes → List Line → Result Answer ChangeRefusal → List Line → SeenRecord → Type 0
IsAnswered caller rules message old (Ok answer) new seen =
    (version : Version) × (krb_priv : Bytes) × (after : List PairRecord) × IsAdmitted caller message version answer.admission krb_priv after
    × IsWindow seen after × Changes rules version answer.admission krb_priv old answer.outcome new
IsAnswered caller rules message old (Err (Refused code)) new seen =
    (after : List PairRecord) × IsNotAdmitted caller message code after × IsWindow seen after × (new ≡ old)
IsAnswered caller rules message old (Err Memory) new seen = IsWindow seen caller.admitted × (new ≡ old)
