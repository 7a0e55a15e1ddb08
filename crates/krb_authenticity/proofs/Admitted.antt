-- What a call admits was presented under the key of its entry.
use Rattle.std.proofs.Common.{ℕ, List, Ok, inl, inr, subst}
use Rattle.krb_messages.specs.Messages.{IsApReq, sole_ap_req}
use Rattle.krb_messages.specs.declared.messages.ap_req.ApReqInner.{ApReqInner}
use Rattle.krb_ap_requests.specs.ApTable.{enc_part_in}
use Rattle.krb_ap_requests.specs.Entry.{EntryRecord}
use Rattle.krb_service.specs.Admission.{AdmissionRecord}
use Rattle.krb_service.specs.ChosenEntry.{chosen}
use Rattle.krb_service.specs.KeytabService.{KeytabServiceRecord, remembering_by_keytab_with}
use Rattle.krb_service.specs.Pair.{PairRecord}
use Rattle.krb_service.specs.RememberingService.{remembering_by, remembering_with}
use Rattle.krb_service.specs.Service.{ServiceRecord}
use Rattle.krb_service.specs.declared.reply.ReplyFields.{ReplyFields}
use Rattle.krb_service.proofs.Admitting.{IsAdmittedOf, admissible_with}
use Rattle.krb_service.proofs.OnceForEver.{service_by}

pub admitted_by : (entry : EntryRecord) (skew : ℕ) (fields : ReplyFields) (moment : ℕ) (admitted : List PairRecord) (message words : List ℕ) (admission : AdmissionRecord) (after : List PairRecord)
    → (remembering_by entry skew fields moment admitted message words).gives (Ok admission, after) → IsAdmittedOf (service_by entry skew) moment admitted message admission after
unfolding remembering_by remembering_with
admitted_by entry skew fields moment admitted message words admission after given = admissible_with fields (service_by entry skew) moment admitted message words admission after given

-- what a service of one key admits is by its entry
pub by_one_key : (service : ServiceRecord) (fields : ReplyFields) (moment : ℕ) (admitted : List PairRecord) (message words : List ℕ) (admission : AdmissionRecord) (after : List PairRecord)
    → (remembering_with fields service moment admitted message words).gives (Ok admission, after)
    → (remembering_by service.entry service.seen.skew fields moment admitted message words).gives (Ok admission, after)
unfolding remembering_by remembering_with
by_one_key service fields moment admitted message words admission after given = given

-- what a service of a keytab admits is by the entry that judges the request
pub by_keytab : (service : KeytabServiceRecord) (fields : ReplyFields) (moment : ℕ) (admitted : List PairRecord) (message words : List ℕ) (request : ApReqInner) (admission : AdmissionRecord) (after : List PairRecord)
    → IsApReq message request → (remembering_by_keytab_with fields service moment admitted message words).gives (Ok admission, after)
    → (remembering_by (chosen service.entries (enc_part_in request)) service.seen.skew fields moment admitted message words).gives (Ok admission, after)
unfolding remembering_by_keytab_with
by_keytab service fields moment admitted message words request admission after read (inl (own, found, given)) =
    subst (λ r. (remembering_by (chosen service.entries (enc_part_in r)) service.seen.skew fields moment admitted message words).gives (Ok admission, after))
    (sole_ap_req message own request found read)
    (by_one_key (record { entry = chosen service.entries (enc_part_in own); seen = service.seen }) fields moment admitted message words admission after given)
by_keytab service fields moment admitted message words request admission after read (inr (none, e)) = absurd (none request read)
