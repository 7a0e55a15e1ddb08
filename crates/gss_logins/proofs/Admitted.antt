-- What is admissible and was presented is admitted: whatever a service answers, it answers that, or memory ran out.
use Rattle.std.proofs.Common.{◌≡◌, ◌⊎◌, List, Option, Result, Ok, Err, refl, ap, inl, inr}
use Rattle.picky_asn1.specs.Bytes.{Bytes}
use Rattle.krb_time.specs.Units.{Micros}
use Rattle.krb_messages.specs.RandomBytes.{Random}
use Rattle.krb_ap_requests.specs.Acceptable.{presented_choice}
use Rattle.krb_ap_requests.specs.Presents.{Choice, Presents}
use Rattle.krb_ap_requests.specs.declared.presented.Presented.{Presented}
use Rattle.krb_ap_requests.specs.declared.refusal.AdmitRefusal.{AdmitRefusal}
use Rattle.krb_ap_requests.specs.declared.refusal.AdmitRefusal.TheVariants.{Krb, Memory, Unreadable}
use Rattle.krb_service.specs.Pair.{PairRecord}
use Rattle.krb_service.specs.Seen.{SeenRecord}
use Rattle.krb_service.specs.Admission.{AdmissionRecord, admission_of}
use Rattle.krb_service.specs.ApReply.{IsReplyWith}
use Rattle.krb_service.specs.Admissible.{IsAdmissible}
use Rattle.krb_service.specs.RememberingService.{IsStep, Outcome, remembering_with}
use Rattle.krb_service.specs.Service.{ServiceRecord}
use Rattle.krb_service.specs.KeytabService.{keytab_service_of, remembering_by_keytab_with}
use Rattle.krb_service.proofs.KeytabLaws.{step_from_sole}
use Rattle.krb_service.specs.declared.reply.ReplyFields.{ReplyFields}
use Rattle.krb_logins.proofs.Outcomes.{admits_with}

module _ (fields : ReplyFields) (service : ServiceRecord) (moment : Micros) (admitted : List PairRecord) (bytes : Bytes) (words : Random) (choice : Choice) (x : IsAdmissible service moment admitted choice)
    (y : Presents service.entry.key choice bytes) where
  abbrev own_shown : Presented
  own_shown = presented_choice service.entry service.seen.skew moment choice x.acceptable

  -- the answer is an admission with the reply that is due
  abbrev pub IsOwn : Result AdmissionRecord AdmitRefusal → Type 0
  IsOwn answer = (reply : Option Bytes) × IsReplyWith fields own_shown words reply × (answer ≡ Ok (admission_of own_shown reply))

  own : (outcome : Outcome) → (remembering_with fields service moment admitted bytes words).gives outcome → IsOwn outcome.0
  own outcome given = let made = admits_with fields service moment admitted bytes words choice x y outcome given in (made.0, made.1, ap (λ (o : Outcome). o.0) made.2)

  own_answer : (answer : Result AdmissionRecord AdmitRefusal) (seen : SeenRecord) → IsStep (remembering_with fields service moment admitted bytes words).gives admitted answer seen
      → IsOwn answer ⊎ (answer ≡ Err Memory)
  unfolding IsStep
  own_answer (Ok admission) seen (after, given, window) = inl (own (Ok admission, after) given)
  own_answer (Err Unreadable) seen (after, given, window) = inl (own (Err Unreadable, after) given)
  own_answer (Err (Krb code)) seen (after, given, window) = inl (own (Err (Krb code), after) given)
  own_answer (Err Memory) seen window = inr refl

  pub own_step : (answer : Result AdmissionRecord AdmitRefusal) (seen : SeenRecord)
      → IsStep (remembering_by_keytab_with fields (keytab_service_of service) moment admitted bytes words).gives admitted answer seen → IsOwn answer ⊎ (answer ≡ Err Memory)
  own_step answer seen x = own_answer answer seen (step_from_sole service fields moment admitted bytes words answer seen x)
