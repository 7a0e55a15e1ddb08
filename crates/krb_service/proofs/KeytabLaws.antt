-- The laws of services of keytabs.
use Rattle.std.proofs.Common.{◌≡◌, ◌≤◌, ◌↔◌, ◌⊎◌, ℕ, Bool, true, false, cond, not, ◌&&◌, List, [], ◌∷◌, ◌++◌, length, Option, None, Some, Result, Ok, Err, inl, inr, refl, sym, ap, subst, ◌∙◌, arith}
use Rattle.std.specs.Prelude.{ℤ}
use Rattle.std.proofs.lemmas.Bool.{and_from, both_ways, or_left}
use Rattle.std.proofs.lemmas.List.Folds.{list_any-append}
use Rattle.std.specs.List.{All, find, list_any}
use Rattle.std.specs.Option.{option_map_or, unwrap_or}
use Rattle.block_ciphers.specs.Bytes.{IsBytes}
use Rattle.picky_asn1.specs.BitString.{bit_of}
use Rattle.picky_asn1.specs.Numbers.{is_number}
use Rattle.krb_crypto.specs.Suites.{cipher_number}
use Rattle.decision_tables.specs.Some.{HasSome}
use Rattle.decision_tables.specs.Tables.{Table, and_then, done, refuse}
use Rattle.decision_tables.proofs.Outcomes.{has_asked, has_done}
use Rattle.krb_messages.specs.Messages.{IsApReq, sole_ap_req}
use Rattle.krb_messages.specs.declared.messages.ap_req.ApReqInner.{ApReqInner}
use Rattle.krb_messages.specs.declared.data_types.encrypted_data.EncryptedData.{EncryptedData}
use Rattle.krb_ap_requests.specs.ApTable.{enc_part_in, is_for, is_version_5, kvno_fits, presented, ticket_in}
use Rattle.krb_ap_requests.specs.Entry.{EntryRecord}
use Rattle.krb_ap_requests.specs.Presents.{Choice, Presents, encrypted as encrypted_data, request_of}
use Rattle.krb_ap_requests.specs.declared.refusal.AdmitRefusal.{AdmitRefusal}
use Rattle.krb_ap_requests.specs.declared.refusal.AdmitRefusal.TheVariants.{Unreadable, Krb, Memory}
use Rattle.krb_service.specs.Admissible.{IsAdmissible}
use Rattle.krb_service.specs.Admission.{AdmissionRecord, TellsOf}
use Rattle.krb_service.specs.Pair.{PairRecord}
use Rattle.krb_service.specs.RememberingService.{IsStep, Outcome, remembering, remembering_by, remembering_with}
use Rattle.krb_service.specs.Seen.{SeenRecord}
use Rattle.krb_service.specs.Service.{ServiceRecord}
use Rattle.krb_service.specs.declared.reply.ReplyFields.{ReplyFields}
use Rattle.krb_service.proofs.Admitting as single
use Rattle.krb_service.proofs.Running.{step_by}
use Rattle.krb_service.specs.ChosenEntry.{IsOtherwiseFor, IsPresentedTo, chosen, has_kvno_of, is_fitted, is_fitting, no_entry, unfit_code_of}
use Rattle.krb_service.specs.KeytabRuns.{AnswerAlike, JudgesOf}
use Rattle.krb_service.specs.KeytabService.{AreOwnEntries, IsOwnEntry, KeytabServiceRecord, keytab_service_of, remembering_by_keytab, remembering_by_keytab_with, service_for}
use Rattle.krb_service.proofs.Finding.{first_fails, first_has, found, found_earlier, found_without, same_first, second_test}

abbrev with_entry : EntryRecord → SeenRecord → ServiceRecord
with_entry entry seen = record { entry = entry; seen = seen }

-- the request that bytes encode is this one
as_requested : (service : KeytabServiceRecord) (moment : ℕ) (admitted : List PairRecord) (message words : List ℕ) (request : ApReqInner) (outcome : Outcome) → IsApReq message request
    → (remembering_by_keytab service moment admitted message words).gives outcome → (remembering (service_for service request) moment admitted message words).gives outcome
unfolding remembering_by_keytab
as_requested service moment admitted message words request outcome found (inl (other, is, x)) =
    subst (λ (r : ApReqInner). (remembering (service_for service r) moment admitted message words).gives outcome) (sole_ap_req message other request is found) x
as_requested service moment admitted message words request outcome found (inr (none, e)) = absurd (none request found)

to_keytab : (service : KeytabServiceRecord) (moment : ℕ) (admitted : List PairRecord) (message words : List ℕ) (request : ApReqInner) (outcome : Outcome) → IsApReq message request
    → (remembering (service_for service request) moment admitted message words).gives outcome → (remembering_by_keytab service moment admitted message words).gives outcome
unfolding remembering_by_keytab
to_keytab service moment admitted message words request outcome found x = inl (request, found, x)

pub as_one_key : (service : KeytabServiceRecord) (moment : ℕ) (admitted : List PairRecord) (message words : List ℕ) (request : ApReqInner) (outcome : Outcome) → IsApReq message request
    → (remembering_by_keytab service moment admitted message words).gives outcome ↔ (remembering (service_for service request) moment admitted message words).gives outcome
as_one_key service moment admitted message words request outcome found =
    (as_requested service moment admitted message words request outcome found, to_keytab service moment admitted message words request outcome found)

-- what is admitted was presented by the key of the service of one key
pub admitted_as_presented : (service : KeytabServiceRecord) (moment : ℕ) (admitted : List PairRecord) (message words : List ℕ) (admission : AdmissionRecord) (after : List PairRecord)
    → (remembering_by_keytab service moment admitted message words).gives (Ok admission, after) → (choice : Choice) × IsPresentedTo service.entries choice message × TellsOf choice admission
unfolding remembering_by_keytab
admitted_as_presented service moment admitted message words admission after (inl (request, is, x)) =
    let by = single.admitted_as_presented (service_for service request) moment admitted message words admission after x in (by.0, (request, is, by.1), by.2)
admitted_as_presented service moment admitted message words admission after (inr (none, never)) =
    absurd (let refused = ap (λ (outcome : Outcome). outcome.0) never in cc (refused))

pub has_outcome : (service : KeytabServiceRecord) (moment : ℕ) (admitted : List PairRecord) (message words : List ℕ) → 16 ≤ length words → IsBytes words
    → HasSome (remembering_by_keytab service moment admitted message words).gives
unfolding remembering_by_keytab
has_outcome service moment admitted message words long words_bytes =
    let none : Outcome = (Err Unreadable, admitted) in
    has_asked (IsApReq message) (sole_ap_req message) (done none) (λ request. remembering (service_for service request) moment admitted message words) (has_done none)
    (λ request found. single.has_outcome (service_for service request) moment admitted message words long words_bytes)

-- each outcome is one of some entry, and of each that judges the bytes
of_entry : (service : KeytabServiceRecord) (fields : ReplyFields) (moment : ℕ) (admitted : List PairRecord) (message words : List ℕ) (outcome : Outcome)
    → (remembering_by_keytab_with fields service moment admitted message words).gives outcome
    → (entry : EntryRecord) × (remembering_by entry service.seen.skew fields moment admitted message words).gives outcome
unfolding remembering_by_keytab_with remembering_with remembering_by
of_entry service fields moment admitted message words outcome (inl (request, found, x)) = (chosen service.entries (enc_part_in request), x)
of_entry service fields moment admitted message words outcome (inr (none, e)) = (no_entry, inr (none, e))

-- what the service of one key answers that has an entry
by_service : (entry : EntryRecord) (seen : SeenRecord) (fields : ReplyFields) (moment : ℕ) (admitted : List PairRecord) (message words : List ℕ) (outcome : Outcome)
    → (remembering_with fields (with_entry entry seen) moment admitted message words).gives outcome → (remembering_by entry seen.skew fields moment admitted message words).gives outcome
unfolding remembering_with remembering_by
by_service entry seen fields moment admitted message words outcome x = x

no_request : (entry : EntryRecord) (skew : ℕ) (fields : ReplyFields) (moment : ℕ) (admitted : List PairRecord) (message words : List ℕ) (outcome : Outcome)
    → ((request : ApReqInner) → IsApReq message request → ⊥) → outcome ≡ (Err Unreadable, admitted) → (remembering_by entry skew fields moment admitted message words).gives outcome
unfolding remembering_by
no_request entry skew fields moment admitted message words outcome none e = inr (none, e)

by_judging : (service : KeytabServiceRecord) (fields : ReplyFields) (moment : ℕ) (admitted : List PairRecord) (message words : List ℕ) (entry : EntryRecord) → JudgesOf service.entries message entry
    → (outcome : Outcome) → (remembering_by_keytab_with fields service moment admitted message words).gives outcome
    → (remembering_by entry service.seen.skew fields moment admitted message words).gives outcome
unfolding remembering_by_keytab_with
by_judging service fields moment admitted message words entry judges outcome (inl (request, found, x)) =
    subst (λ (e : EntryRecord). (remembering_by e service.seen.skew fields moment admitted message words).gives outcome) (sym (judges request found))
    (by_service (chosen service.entries (enc_part_in request)) service.seen fields moment admitted message words outcome x)
by_judging service fields moment admitted message words entry judges outcome (inr (none, e)) =
    no_request entry service.seen.skew fields moment admitted message words outcome none e

-- so is each call
pub call_of_some : (service : KeytabServiceRecord) (fields : ReplyFields) (moment : ℕ) (admitted : List PairRecord) (message words : List ℕ) (answer : Result AdmissionRecord AdmitRefusal) (seen : SeenRecord)
    → IsStep (remembering_by_keytab_with fields service moment admitted message words).gives admitted answer seen
    → (entry : EntryRecord) × IsStep (remembering_by entry service.seen.skew fields moment admitted message words).gives admitted answer seen
unfolding IsStep
call_of_some service fields moment admitted message words (Ok a) seen (after, given, window) =
    let by = of_entry service fields moment admitted message words (Ok a, after) given in (by.0, (after, by.1, window))
call_of_some service fields moment admitted message words (Err Unreadable) seen (after, given, window) =
    let by = of_entry service fields moment admitted message words (Err Unreadable, after) given in (by.0, (after, by.1, window))
call_of_some service fields moment admitted message words (Err (Krb code)) seen (after, given, window) =
    let by = of_entry service fields moment admitted message words (Err (Krb code), after) given in (by.0, (after, by.1, window))
call_of_some service fields moment admitted message words (Err Memory) seen window = (no_entry, window)

pub call_of_each : (service : KeytabServiceRecord) (fields : ReplyFields) (moment : ℕ) (admitted : List PairRecord) (message words : List ℕ) (answer : Result AdmissionRecord AdmitRefusal) (seen : SeenRecord)
    (entry : EntryRecord) → JudgesOf service.entries message entry
    → IsStep (remembering_by_keytab_with fields service moment admitted message words).gives admitted answer seen
    → IsStep (remembering_by entry service.seen.skew fields moment admitted message words).gives admitted answer seen
call_of_each service fields moment admitted message words answer seen entry judges x =
    step_by (remembering_by_keytab_with fields service moment admitted message words).gives (remembering_by entry service.seen.skew fields moment admitted message words).gives admitted answer seen
    (by_judging service fields moment admitted message words entry judges) x

-- the one entry of a keytab judges each request
sole : (p q : Bool) (entry : EntryRecord) → unwrap_or (cond p (Some entry) None) (unwrap_or (cond q (Some entry) None) entry) ≡ entry
sole true q entry = refl
sole false true entry = refl
sole false false entry = refl

chosen_sole : (entry : EntryRecord) (encrypted : EncryptedData) → chosen (entry ∷ []) encrypted ≡ entry
unfolding chosen
chosen_sole entry encrypted = sole (is_fitting encrypted entry) (has_kvno_of encrypted entry) entry

unread : (service : ServiceRecord) (fields : ReplyFields) (moment : ℕ) (admitted : List PairRecord) (message words : List ℕ) (outcome : Outcome)
    → ((request : ApReqInner) → IsApReq message request → ⊥) → outcome ≡ (Err Unreadable, admitted) → (remembering_with fields service moment admitted message words).gives outcome
unfolding remembering_with
unread service fields moment admitted message words outcome none e = inr (none, e)

pub from_sole : (service : ServiceRecord) (fields : ReplyFields) (moment : ℕ) (admitted : List PairRecord) (message words : List ℕ) (outcome : Outcome)
    → (remembering_by_keytab_with fields (keytab_service_of service) moment admitted message words).gives outcome → (remembering_with fields service moment admitted message words).gives outcome
unfolding remembering_by_keytab_with remembering_with
from_sole service fields moment admitted message words outcome (inl (request, found, x)) =
    subst (λ (e : EntryRecord). (remembering_with fields (with_entry e service.seen) moment admitted message words).gives outcome) (chosen_sole service.entry (enc_part_in request)) x
from_sole service fields moment admitted message words outcome (inr (none, e)) = unread service fields moment admitted message words outcome none e

-- what a service of one key answers to bytes is answered to their request, or they are none
read_or_none : (service : ServiceRecord) (fields : ReplyFields) (moment : ℕ) (admitted : List PairRecord) (message words : List ℕ) (outcome : Outcome)
    → (remembering_with fields service moment admitted message words).gives outcome
    → ((request : ApReqInner) × IsApReq message request) ⊎ (((request : ApReqInner) → IsApReq message request → ⊥) × (outcome ≡ (Err Unreadable, admitted)))
unfolding remembering_with
read_or_none service fields moment admitted message words outcome (inl (request, found, x)) = inl (request, found)
read_or_none service fields moment admitted message words outcome (inr (none, e)) = inr (none, e)

to_sole_by : (service : ServiceRecord) (fields : ReplyFields) (moment : ℕ) (admitted : List PairRecord) (message words : List ℕ) (outcome : Outcome)
    → ((request : ApReqInner) × IsApReq message request) ⊎ (((request : ApReqInner) → IsApReq message request → ⊥) × (outcome ≡ (Err Unreadable, admitted)))
    → (remembering_with fields service moment admitted message words).gives outcome → (remembering_by_keytab_with fields (keytab_service_of service) moment admitted message words).gives outcome
unfolding remembering_by_keytab_with remembering_with
to_sole_by service fields moment admitted message words outcome (inl (request, found)) x =
    inl (
      request,
      found,
      subst (λ (e : EntryRecord). (remembering_with fields (with_entry e service.seen) moment admitted message words).gives outcome) (sym (chosen_sole service.entry (enc_part_in request))) x,
    )
to_sole_by service fields moment admitted message words outcome (inr (none, e)) x = inr (none, e)

pub to_sole : (service : ServiceRecord) (fields : ReplyFields) (moment : ℕ) (admitted : List PairRecord) (message words : List ℕ) (outcome : Outcome)
    → (remembering_with fields service moment admitted message words).gives outcome → (remembering_by_keytab_with fields (keytab_service_of service) moment admitted message words).gives outcome
to_sole service fields moment admitted message words outcome x =
    to_sole_by service fields moment admitted message words outcome (read_or_none service fields moment admitted message words outcome x) x

pub sole_answers : (service : ServiceRecord) (fields : ReplyFields) (moment : ℕ) (admitted : List PairRecord) (message words : List ℕ) (outcome : Outcome)
    → (remembering_by_keytab_with fields (keytab_service_of service) moment admitted message words).gives outcome ↔ (remembering_with fields service moment admitted message words).gives outcome
sole_answers service fields moment admitted message words outcome =
    (from_sole service fields moment admitted message words outcome, to_sole service fields moment admitted message words outcome)

pub step_from_sole : (service : ServiceRecord) (fields : ReplyFields) (moment : ℕ) (admitted : List PairRecord) (message words : List ℕ) (answer : Result AdmissionRecord AdmitRefusal) (seen : SeenRecord)
    → IsStep (remembering_by_keytab_with fields (keytab_service_of service) moment admitted message words).gives admitted answer seen
    → IsStep (remembering_with fields service moment admitted message words).gives admitted answer seen
step_from_sole service fields moment admitted message words answer seen x =
    step_by (remembering_by_keytab_with fields (keytab_service_of service) moment admitted message words).gives (remembering_with fields service moment admitted message words).gives admitted answer seen
    (from_sole service fields moment admitted message words) x

pub sole_presents : (entry : EntryRecord) (choice : Choice) (message : List ℕ) → IsPresentedTo (entry ∷ []) choice message ↔ Presents entry.key choice message
sole_presents entry choice message = (
  λ x. subst (λ (e : EntryRecord). Presents e.key choice message) (chosen_sole entry (enc_part_in x.0)) x.2,
  λ y. let made = request_of choice.outer y.part_cipher y.cipher in
      (made, y.writes, subst (λ (e : EntryRecord). Presents e.key choice message) (sym (chosen_sole entry (enc_part_in made))) y),
)

-- what is admitted with any fields was presented to the entries
pub presented_to : (service : KeytabServiceRecord) (fields : ReplyFields) (moment : ℕ) (admitted : List PairRecord) (message words : List ℕ) (admission : AdmissionRecord) (after : List PairRecord)
    → (remembering_by_keytab_with fields service moment admitted message words).gives (Ok admission, after) → (choice : Choice) × IsPresentedTo service.entries choice message × TellsOf choice admission
unfolding remembering_by_keytab_with
presented_to service fields moment admitted message words admission after (inl (request, is, x)) =
    let by = single.presented_with fields (service_for service request) moment admitted message words admission after x in (by.0, (request, is, by.1), by.2)
presented_to service fields moment admitted message words admission after (inr (none, never)) =
    absurd (let refused = ap (λ (outcome : Outcome). outcome.0) never in cc (refused))

-- lists of entries by which a request is judged by the same entry answer alike
alike : (service : KeytabServiceRecord) (entries others : List EntryRecord) (message : List ℕ) (request : ApReqInner) → IsApReq message request
    → chosen entries (enc_part_in request) ≡ chosen others (enc_part_in request) → AnswerAlike service entries others message
alike service entries others message request found same moment admitted words outcome =
    let one : KeytabServiceRecord = record service { entries = entries } in
    let other : KeytabServiceRecord = record service { entries = others } in
    let move : (a b : EntryRecord) → a ≡ b → (remembering (with_entry a service.seen) moment admitted message words).gives outcome
    → (remembering (with_entry b service.seen) moment admitted message words).gives outcome
    = λ a b e x. subst (λ (c : EntryRecord). (remembering (with_entry c service.seen) moment admitted message words).gives outcome) e x in (
      λ x. to_keytab other moment admitted message words request outcome found (move _ _ same (as_requested one moment admitted message words request outcome found x)),
      λ x. to_keytab one moment admitted message words request outcome found (move _ _ (sym same) (as_requested other moment admitted message words request outcome found x)),
    )

same_chosen : (entries others : List EntryRecord) (encrypted : EncryptedData) → is_fitted others encrypted ≡ true
    → find (is_fitting encrypted) entries ≡ find (is_fitting encrypted) others → chosen entries encrypted ≡ chosen others encrypted
unfolding chosen
same_chosen entries others encrypted fitted same = same_first (is_fitting encrypted) (has_kvno_of encrypted) entries others no_entry fitted same

pub earlier_alone : (service : KeytabServiceRecord) (before behind : List EntryRecord) (entry : EntryRecord) (message : List ℕ) (request : ApReqInner) → IsApReq message request
    → is_fitted before (enc_part_in request) ≡ true → AnswerAlike service (before ++ entry ∷ behind) (before ++ behind) message
earlier_alone service before behind entry message request found_request fitted =
    let fits : EntryRecord → Bool = is_fitting (enc_part_in request) in
    let one = found fits before fitted in
    alike service (before ++ entry ∷ behind) (before ++ behind) message request found_request
    (same_chosen (before ++ entry ∷ behind) (before ++ behind) (enc_part_in request) (rw list_any-append (or_left (is_fitted before (enc_part_in request)) (is_fitted behind (enc_part_in request)) fitted))
    (found_earlier fits before (entry ∷ behind) one.0 one.1 ∙ sym (found_earlier fits before behind one.0 one.1)))

pub unfit_alone : (service : KeytabServiceRecord) (before behind : List EntryRecord) (entry : EntryRecord) (message : List ℕ) (request : ApReqInner) → IsApReq message request
    → is_fitting (enc_part_in request) entry ≡ false → is_fitted (before ++ behind) (enc_part_in request) ≡ true
    → AnswerAlike service (before ++ entry ∷ behind) (before ++ behind) message
unfit_alone service before behind entry message request found_request unfit fitted =
    alike service (before ++ entry ∷ behind) (before ++ behind) message request found_request
    (same_chosen (before ++ entry ∷ behind) (before ++ behind) (enc_part_in request) fitted (found_without (is_fitting (enc_part_in request)) before behind entry unfit))

-- what no entry fits is judged by one that doesn't fit, by whose kvno is seen whether some entry has the ticket's
chosen_unfit : (entries : List EntryRecord) (encrypted : EncryptedData) → 1 ≤ length entries → is_fitted entries encrypted ≡ false → is_fitting encrypted (chosen entries encrypted) ≡ false
unfolding chosen
chosen_unfit entries encrypted few none = first_fails (is_fitting encrypted) (has_kvno_of encrypted) entries no_entry few none

chosen_kvno : (entries : List EntryRecord) (encrypted : EncryptedData) → 1 ≤ length entries → is_fitted entries encrypted ≡ false
    → has_kvno_of encrypted (chosen entries encrypted) ≡ list_any (has_kvno_of encrypted) entries
unfolding chosen
chosen_kvno entries encrypted few none = second_test (is_fitting encrypted) (has_kvno_of encrypted) entries no_entry few none

chosen_own : (realm : List ℕ) (components : List (List ℕ)) (entries : List EntryRecord) (encrypted : EncryptedData) → 1 ≤ length entries → All (IsOwnEntry realm components) entries
    → IsOwnEntry realm components (chosen entries encrypted)
unfolding chosen
chosen_own realm components entries encrypted few all = first_has (IsOwnEntry realm components) (is_fitting encrypted) (has_kvno_of encrypted) entries no_entry few all

-- the rows before the ticket is opened, by their tests
abbrev rows : Bool → Bool → Bool → Bool → Bool → Bool → Table (Result (Unit {0}) ℕ)
rows method version kind own kvno etype =
    refuse method 48
    (and_then {A = Unit {0}} (refuse (not version) 39 (refuse (not kind) 40 (refuse (not own) 35 (refuse (not kvno) 44 (done (Ok tt)))))) (λ _.
    refuse (not etype) 45 (done (Ok tt))))

unfit_at : (kvno etype : Bool) → (kvno && etype) ≡ false → (rows false true true true kvno etype).gives (Err (cond kvno 45 44))
unfit_at true true unfit = absurd (cc (unfit))
unfit_at true false unfit = inl (tt, refl, refl)
unfit_at false etype unfit = inr (44, refl, refl)

unfit_rows : (method version kind own kvno etype : Bool) → method ≡ false → version ≡ true → kind ≡ true → own ≡ true → (kvno && etype) ≡ false
    → (rows method version kind own kvno etype).gives (Err (cond kvno 45 44))
unfit_rows method version kind own kvno etype m v k o unfit = rw (m, v, k, o) (unfit_at kvno etype unfit)

unfit_presented : (entry : EntryRecord) (skew moment : ℕ) (request : ApReqInner) → IsOtherwiseFor entry.realm entry.components request → is_fitting (enc_part_in request) entry ≡ false
    → (presented entry skew moment request).gives (Err (cond (has_kvno_of (enc_part_in request) entry) 45 44))
unfolding presented
unfit_presented entry skew moment request for unfit =
    let kvno = has_kvno_of (enc_part_in request) entry in
    inr (
      cond kvno 45 44,
      unfit_rows (bit_of request.ap_options.0 1) (is_version_5 request) (is_number 14 request.msg_type.0) (is_for entry.realm entry.components (ticket_in request)) kvno
          (is_number (cipher_number entry.suite) (enc_part_in request).etype.0) for.method for.version for.kind for.service unfit,
      refl,
    )

refused_by_code : (service : ServiceRecord) (moment : ℕ) (admitted : List PairRecord) (message words : List ℕ) (request : ApReqInner) (code : ℕ) → IsApReq message request
    → (presented service.entry service.seen.skew moment request).gives (Err code) → (remembering service moment admitted message words).gives (Err (Krb code), admitted)
unfolding remembering
refused_by_code service moment admitted message words request code found x = inl (request, found, (Err code, inr (code, x, refl), refl))

pub unfit_code : (service : KeytabServiceRecord) (moment : ℕ) (admitted : List PairRecord) (message words : List ℕ) (request : ApReqInner) → IsApReq message request
    → AreOwnEntries service.realm service.components service.entries → IsOtherwiseFor service.realm service.components request
    → is_fitted service.entries (enc_part_in request) ≡ false
    → (remembering_by_keytab service moment admitted message words).gives (Err (Krb (unfit_code_of service.entries (enc_part_in request))), admitted)
unfit_code service moment admitted message words request found own for none =
    let encrypted = enc_part_in request in
    let entry = chosen service.entries encrypted in
    let entry_own = chosen_own service.realm service.components service.entries encrypted own.2 own.3 in
    let named = subst (λ r. IsOtherwiseFor r entry.components request) (sym entry_own.1) (subst (λ cs. IsOtherwiseFor service.realm cs request) (sym entry_own.2) for) in
    let refused = unfit_presented entry service.seen.skew moment request named (chosen_unfit service.entries encrypted own.2 none) in
    let code = subst (λ (b : Bool). (presented entry service.seen.skew moment request).gives (Err (cond b 45 44))) (chosen_kvno service.entries encrypted own.2 none) refused in
    to_keytab service moment admitted message words request (Err (Krb (unfit_code_of service.entries encrypted)), admitted) found
    (refused_by_code (service_for service request) moment admitted message words request (unfit_code_of service.entries encrypted) found code)

-- what is admitted was chosen under an entry that fits its ticket
kvno_fitting : (kvno : ℕ) (etype : ℤ) (number : Option ℤ) (cipher : List ℕ) → option_map_or (is_number kvno) number true ≡ true → kvno_fits kvno (encrypted_data etype number cipher) ≡ true
kvno_fitting kvno etype None cipher fits = refl
kvno_fitting kvno etype (Some told) cipher fits = fits

presented_fits : (service : ServiceRecord) (moment : ℕ) (admitted : List PairRecord) (message : List ℕ) (request : ApReqInner) (choice : Choice) → IsApReq message request
    → IsAdmissible service moment admitted choice → Presents service.entry.key choice message → is_fitting (enc_part_in request) service.entry ≡ true
presented_fits service moment admitted message request choice found x presents =
    let outer = choice.outer in
    let entry = service.entry in
    let made = request_of outer presents.part_cipher presents.cipher in
    let fits : is_fitting (enc_part_in made) entry ≡ true =
    and_from _ _ (kvno_fitting entry.kvno outer.part_etype outer.part_kvno presents.part_cipher x.acceptable.kvno) x.acceptable.part_etype in
    subst (λ (r : ApReqInner). is_fitting (enc_part_in r) entry ≡ true) (sole_ap_req message made request presents.writes found) fits

pub unfit_refused : (service : KeytabServiceRecord) (moment : ℕ) (admitted : List PairRecord) (message words : List ℕ) (request : ApReqInner) (admission : AdmissionRecord) (after : List PairRecord)
    → IsApReq message request → 1 ≤ length service.entries → is_fitted service.entries (enc_part_in request) ≡ false
    → (remembering_by_keytab service moment admitted message words).gives (Ok admission, after) → ⊥
unfit_refused service moment admitted message words request admission after found few none x =
    let own = service_for service request in
    let by = single.admissible_if_admitted own moment admitted message words admission after (as_requested service moment admitted message words request (Ok admission, after) found x) in
    both_ways (is_fitting (enc_part_in request) own.entry) (chosen_unfit service.entries (enc_part_in request) few none)
    (presented_fits own moment admitted message request by.0 found by.1 by.2)
