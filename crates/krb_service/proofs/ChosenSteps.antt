-- A call's outcome is that of the remembering service with the entry by which the request is judged.
use Rattle.std.proofs.Common.{◌≡◌, ℕ, List, Result, Ok, Err, max, refl, inl, inr}
use Rattle.krb_messages.specs.Messages.{IsApReq}
use Rattle.krb_messages.specs.declared.messages.ap_req.ApReqInner.{ApReqInner}
use Rattle.krb_messages.specs.Refusals.{IsJudged}
use Rattle.krb_messages.specs.declared.refusal.Refusal.{Refusal}
use Rattle.krb_messages.specs.declared.refusal.Refusal.TheVariants as judging
use Rattle.krb_ap_requests.specs.ApTable.{enc_part_in, presented}
use Rattle.krb_ap_requests.specs.Entry.{EntryRecord}
use Rattle.krb_ap_requests.specs.Refusal.{refused_for}
use Rattle.krb_ap_requests.specs.declared.presented.Presented.{Presented}
use Rattle.krb_ap_requests.specs.declared.refusal.AdmitRefusal.{AdmitRefusal}
use Rattle.krb_ap_requests.specs.declared.refusal.AdmitRefusal.TheVariants.{Unreadable, Krb, Memory}
use Rattle.krb_ap_requests.proofs.Judged.{received, received_refused}
use Rattle.krb_service.specs.Admission.{AdmissionRecord}
use Rattle.krb_service.specs.ApReply.{HasSessionKey}
use Rattle.krb_service.specs.Once.{IsOnce, once_with, pair_of}
use Rattle.krb_service.specs.Pair.{PairRecord}
use Rattle.krb_service.specs.RememberingService.{IsStep, remembering_with}
use Rattle.krb_service.specs.Seen.{IsWindow, SeenRecord}
use Rattle.krb_service.proofs.SessionKeys.{received_keyed}
use Rattle.krb_service.proofs.Steps.{AreSettings, settings_of, step_held_with, step_refused_with}
use Rattle.krb_service.specs.ChosenEntry.{chosen}
use Rattle.krb_service.specs.KeytabService.{KeytabServiceRecord, ReceivesByKeytab, remembering_by_keytab_with, service_for}
use Rattle.krb_service.specs.declared.reply.ReplyFields.{ReplyFields}

-- what a request is judged to be by the entry that is chosen for it is received of its bytes
pub received_by : (entries : List EntryRecord) (skew moment : ℕ) (message : List ℕ) (request : ApReqInner) (p : Presented) → IsApReq message request
    → IsJudged {T = Presented} (presented (chosen entries (enc_part_in request)) skew moment request).gives (Ok p) → ReceivesByKeytab entries skew moment message (Ok p)
unfolding ReceivesByKeytab
received_by entries skew moment message request p found x = (request, found, x)

pub refused_by : (entries : List EntryRecord) (skew moment : ℕ) (message : List ℕ) (request : ApReqInner) (e : Refusal) → IsApReq message request
    → IsJudged {T = Presented} (presented (chosen entries (enc_part_in request)) skew moment request).gives (Err e)
    → ReceivesByKeytab entries skew moment message (Err (refused_for e))
unfolding ReceivesByKeytab
refused_by entries skew moment message request (judging.Krb code) found x = (request, found, x)
refused_by entries skew moment message request judging.Memory found x = tt

pub none_by : (entries : List EntryRecord) (skew moment : ℕ) (message : List ℕ) → ((request : ApReqInner) → IsApReq message request → ⊥)
    → ReceivesByKeytab entries skew moment message (Err Unreadable)
unfolding ReceivesByKeytab
none_by entries skew moment message none = none

pub wanting_by : (entries : List EntryRecord) (skew moment : ℕ) (message : List ℕ) → ReceivesByKeytab entries skew moment message (Err Memory)
unfolding ReceivesByKeytab
wanting_by entries skew moment message = tt

-- it has a session key
pub keyed_by : (entries : List EntryRecord) (skew moment : ℕ) (message : List ℕ) (request : ApReqInner) (p : Presented) → IsApReq message request
    → IsJudged {T = Presented} (presented (chosen entries (enc_part_in request)) skew moment request).gives (Ok p) → HasSessionKey p
keyed_by entries skew moment message request p found x =
    let entry = chosen entries (enc_part_in request) in received_keyed entry skew moment message p (received entry skew moment message request p found x)

-- what the service of one key does is done by that of the keytab
stepped : (fields : ReplyFields) (service : KeytabServiceRecord) (moment : ℕ) (admitted : List PairRecord) (message words : List ℕ) (request : ApReqInner)
    (answer : Result AdmissionRecord AdmitRefusal) (seen : SeenRecord) → IsApReq message request
    → IsStep (remembering_with fields (service_for service request) moment admitted message words).gives admitted answer seen
    → IsStep (remembering_by_keytab_with fields service moment admitted message words).gives admitted answer seen
unfolding IsStep remembering_by_keytab_with
stepped fields service moment admitted message words request (Ok a) seen found x = (x.0, inl (request, found, x.1), x.2)
stepped fields service moment admitted message words request (Err Unreadable) seen found x = (x.0, inl (request, found, x.1), x.2)
stepped fields service moment admitted message words request (Err (Krb code)) seen found x = (x.0, inl (request, found, x.1), x.2)
stepped fields service moment admitted message words request (Err Memory) seen found x = x

-- what was seen once the moment was raised, with its skew and its greatest moment
pub record IsRaised (service : KeytabServiceRecord) (moment : ℕ) (raised : SeenRecord) (skew now : ℕ) : Type 0 where
  pub greatest : raised.greatest ≡ max service.seen.greatest moment
  pub skew_kept : raised.skew ≡ service.seen.skew
  pub own_skew : skew ≡ raised.skew
  pub own_now : now ≡ raised.greatest

settings : (service : KeytabServiceRecord) (request : ApReqInner) (moment : ℕ) (raised : SeenRecord) (skew now : ℕ) → IsRaised service moment raised skew now
    → AreSettings (service_for service request) moment (chosen service.entries (enc_part_in request)) raised skew now
settings service request moment raised skew now same =
    let own = service_for service request in
    settings_of own own moment raised skew now refl same.greatest same.skew_kept same.own_skew same.own_now

-- a request that is refused for what it presents
pub by_refused : (fields : ReplyFields) (service : KeytabServiceRecord) (moment : ℕ) (raised : SeenRecord) (skew now : ℕ) (admitted : List PairRecord) (message words : List ℕ) (e : AdmitRefusal)
    → IsRaised service moment raised skew now → ReceivesByKeytab service.entries skew now message (Err e) → IsWindow raised admitted
    → IsStep (remembering_by_keytab_with fields service (max service.seen.greatest moment) admitted message words).gives admitted (Err e) raised
unfolding ReceivesByKeytab IsStep remembering_by_keytab_with
by_refused fields service moment raised skew now admitted message words (Krb code) same (request, found, x) w =
    let entry = chosen service.entries (enc_part_in request) in
    let at : ℕ = max service.seen.greatest moment in
    let own = step_refused_with fields (service_for service request) moment entry raised skew now admitted message words (Krb code) (settings service request moment raised skew now same)
    (received_refused entry skew now message request (judging.Krb code) found x) w in
    stepped fields service at admitted message words request (Err (Krb code)) raised found own
by_refused fields service moment raised skew now admitted message words Unreadable same x w = (admitted, inr (x, refl), w)
by_refused fields service moment raised skew now admitted message words Memory same x w = w

-- a request that presents this
pub by_held : (fields : ReplyFields) (service : KeytabServiceRecord) (moment : ℕ) (raised : SeenRecord) (skew now : ℕ) (admitted : List PairRecord) (message words : List ℕ) (p : Presented)
    (answer : Result AdmissionRecord AdmitRefusal) (after : SeenRecord)
    → IsRaised service moment raised skew now → ReceivesByKeytab service.entries skew now message (Ok p)
    → IsOnce (once_with fields raised.skew now admitted words p).gives admitted (pair_of p) answer after
    → IsStep (remembering_by_keytab_with fields service (max service.seen.greatest moment) admitted message words).gives admitted answer after
unfolding ReceivesByKeytab
by_held fields service moment raised skew now admitted message words p answer after same (request, found, x) y =
    let entry = chosen service.entries (enc_part_in request) in
    stepped fields service (max service.seen.greatest moment) admitted message words request answer after found
    (step_held_with fields (service_for service request) moment entry raised skew now admitted message words p answer after (settings service request moment raised skew now same)
    (received entry skew now message request p found x) y)
