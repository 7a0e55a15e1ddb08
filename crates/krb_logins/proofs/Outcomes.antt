-- What is admissible and was presented is admitted: whatever a service answers, it answers that.
use Rattle.std.proofs.Common.{◌≡◌, false, List, ◌∷◌, Option, Result, Ok, Err, refl, sym, ap, subst, ◌∙◌}
use Rattle.picky_asn1.specs.Bytes.{Bytes}
use Rattle.krb_time.specs.Skew.{is_far}
use Rattle.krb_time.specs.Units.{Micros}
use Rattle.krb_messages.specs.RandomBytes.{Random}
use Rattle.krb_messages.specs.Refusals.{Code}
use Rattle.krb_constants.specs.declared.error_codes.TheConstants.{KRB_AP_ERR_REPEAT, KRB_AP_ERR_SKEW}
use Rattle.krb_messages.specs.declared.messages.ap_req.ApReqInner.{ApReqInner}
use Rattle.krb_messages.specs.Messages.{IsApReq, sole_ap_req}
use Rattle.decision_tables.specs.Tables.{Table, and_then, as_made, done, make, refuse}
use Rattle.krb_service.specs.Pair.{PairRecord, is_among}
use Rattle.krb_ap_requests.proofs.Accepted.{presented_as_chosen}
use Rattle.krb_ap_requests.specs.Acceptable.{presented_choice}
use Rattle.krb_service.specs.Admission.{admission_of}
use Rattle.krb_service.specs.ApReply.{IsReplyTo, IsReplyWith, sole_reply_with}
use Rattle.krb_ap_requests.specs.ApTable.{presented}
use Rattle.krb_ap_requests.specs.Presents.{Choice, Presents, request_of}
use Rattle.krb_ap_requests.specs.declared.presented.Presented.{Presented}
use Rattle.krb_ap_requests.specs.declared.refusal.AdmitRefusal.TheVariants.{Unreadable}
use Rattle.krb_service.specs.Admissible.{IsAdmissible}
use Rattle.krb_service.specs.Once.{Admitted, fresh, once, once_with, pair_of}
use Rattle.krb_service.specs.RememberingService.{Outcome, judged_with, outcome_of, remembering, remembering_with}
use Rattle.krb_service.specs.Service.{ServiceRecord}
use Rattle.krb_service.specs.declared.reply.ReplyFields.{ReplyFields}
use Rattle.krb_service.specs.declared.reply.ReplyFields.TheVariants.{TimeAlone}
use Rattle.krb_logins.proofs.Passing.{past_ask, past_refuse, past_then}

abbrev admitted_by : Presented → Option Bytes → Admitted
admitted_by p reply = record { admission = admission_of p reply; pair = pair_of p }

abbrev replied : ReplyFields → Random → Presented → PairRecord → Table (Result Admitted Code)
replied fields words p pair = make (IsReplyWith fields p words) (sole_reply_with fields p words) (λ reply. done (Ok (record { admission = admission_of p reply; pair = pair })))

-- a fresh pair is that
own_pair : (admitted : List PairRecord) (p : Presented) → is_among (pair_of p) admitted ≡ false → (fresh admitted p).gives (Ok (pair_of p))
unfolding fresh
own_pair admitted p new = subst (λ b. (refuse {T = PairRecord} {E = Code} b KRB_AP_ERR_REPEAT (done (Ok (pair_of p)))).gives (Ok (pair_of p))) (sym new) refl

-- what is near and fresh is admitted, with the reply to it
admitted_once : (fields : ReplyFields) (skew moment : Micros) (admitted : List PairRecord) (words : Random) (p : Presented) (r : Result Admitted Code) → is_far skew moment p.time ≡ false → is_among (pair_of p) admitted ≡ false
    → (once_with fields skew moment admitted words p).gives r → (reply : Option Bytes) × IsReplyWith fields p words reply × (r ≡ Ok (admitted_by p reply))
unfolding once_with
admitted_once fields skew moment admitted words p r near new x =
    let past = past_refuse (is_far skew moment p.time) KRB_AP_ERR_SKEW (and_then (fresh admitted p) (replied fields words p)) r near x in
    past_then (fresh admitted p) (replied fields words p) (pair_of p) r (own_pair admitted p new) past

module _ (fields : ReplyFields) (service : ServiceRecord) (moment : Micros) (admitted : List PairRecord) (bytes : Bytes) (words : Random) (choice : Choice) (x : IsAdmissible service moment admitted choice)
    (y : Presents service.entry.key choice bytes) where
  abbrev own_shown : Presented
  own_shown = presented_choice service.entry service.seen.skew moment choice x.acceptable

  abbrev own_request : ApReqInner
  own_request = request_of choice.outer y.part_cipher y.cipher

  pub admits_with : (outcome : Outcome) → (remembering_with fields service moment admitted bytes words).gives outcome
      → (reply : Option Bytes) × IsReplyWith fields own_shown words reply × (outcome ≡ (Ok (admission_of own_shown reply), pair_of own_shown ∷ admitted))
  unfolding remembering_with
  admits_with outcome given =
      let read = past_ask (IsApReq bytes) (sole_ap_req bytes) (done (Err Unreadable, admitted)) (λ request. as_made (outcome_of admitted) (judged_with fields service moment admitted request words)) own_request outcome y.writes given in
      let shows = presented_as_chosen service.entry service.seen.skew moment choice y.part_cipher y.cipher x.acceptable y.part y.authenticator in
      let past = past_then (presented service.entry service.seen.skew moment own_request) (once_with fields service.seen.skew moment admitted words) own_shown read.0 shows read.1 in
      let made = admitted_once fields service.seen.skew moment admitted words own_shown read.0 x.near x.first past in
      (made.0, made.1, read.2 ∙ ap (outcome_of admitted) made.2)

-- so it is where the reply has the time alone
pub admits : (service : ServiceRecord) (moment : Micros) (admitted : List PairRecord) (bytes : Bytes) (words : Random) (choice : Choice) (x : IsAdmissible service moment admitted choice)
    (y : Presents service.entry.key choice bytes) (outcome : Outcome) → (remembering service moment admitted bytes words).gives outcome
    → (reply : Option Bytes) × IsReplyTo (presented_choice service.entry service.seen.skew moment choice x.acceptable) words reply
    × (outcome ≡ (Ok (admission_of (presented_choice service.entry service.seen.skew moment choice x.acceptable) reply), pair_of (presented_choice service.entry service.seen.skew moment choice x.acceptable) ∷ admitted))
unfolding once once_with remembering remembering_with
admits = admits_with TimeAlone
