-- The AP exchange of a login, and the login, by the steps of one call.
use Rattle.std.proofs.Common.{◌≡◌, ℕ, max, List, Result, Ok, Err, inl, inr, subst, sym, ap, refl, ◌∙◌}
use Rattle.picky_asn1.specs.Bytes.{Bytes}
use Rattle.krb_messages.specs.declared.data_types.encryption_key.EncryptionKey.{EncryptionKey}
use Rattle.krb_tickets.specs.Sealing.{encryption_key}
use Rattle.krb_service.specs.Pair.{PairRecord}
use Rattle.krb_service.specs.Seen.{SeenRecord, IsWindow}
use Rattle.krb_service.specs.Admission.{AdmissionRecord}
use Rattle.krb_ap_requests.specs.declared.refusal.AdmitRefusal.{AdmitRefusal}
use Rattle.krb_ap_requests.specs.declared.refusal.AdmitRefusal.TheVariants as admit_refusal
use Rattle.krb_client.specs.Asked.{ApAskedRecord}
use Rattle.krb_client.specs.ApReply.{takes_ap_reply}
use Rattle.krb_client.specs.Client.{ClientRecord, CredentialRecord}
use Rattle.krb_client.specs.Refusals.{IsTaken}
use Rattle.krb_client.specs.declared.refusal.TakeRefusal.{TakeRefusal}
use Rattle.krb_client.specs.declared.refusal.TakeRefusal.TheVariants as take_refusal
use Rattle.krb_service.specs.RememberingService.{IsStep, remembering}
use Rattle.krb_service.specs.Service.{ServiceRecord}
use Rattle.krb_logins.specs.LoginRun.{ApExchange, IsAdmitted, Login, after_admission}
use Rattle.krb_logins.specs.Parties.{LoginRecord, RememberedRecord}
use Rattle.krb_logins.specs.Steps.{reply_bytes}
use Rattle.krb_logins.specs.declared.refusal.LoginRefusal.{LoginRefusal}
use Rattle.krb_logins.specs.declared.refusal.LoginRefusal.TheVariants.{Admitted, Taken}
use Rattle.krb_logins.specs.ApExchanges.{Admit, ApAsk, Keyed, Made, Remembers, Show, remembered}

-- the service's step
module _ (service : ServiceRecord) (login : LoginRecord) (request : Bytes) (admitted : List PairRecord) (seen : SeenRecord) (raised : seen.greatest ≡ max service.seen.greatest login.service_ap) where
  abbrev clock : ℕ
  clock = max service.seen.greatest login.service_ap

  abbrev DidStep : Result AdmissionRecord AdmitRefusal → Type 0
  DidStep answer = IsStep (remembering service clock admitted request login.service_words).gives admitted answer seen

  abbrev after_of : List PairRecord → RememberedRecord
  after_of pairs = record { admitted = pairs; greatest = clock }

  step_remembered : (answer : Result AdmissionRecord AdmitRefusal) → DidStep answer → Remembers seen (IsAdmitted service login request (remembered service admitted) answer)
  unfolding IsStep IsAdmitted
  step_remembered (Ok admission) x = (after_of x.0, (refl, x.1), x.2, raised)
  step_remembered (Err admit_refusal.Unreadable) x = (after_of x.0, (refl, x.1), x.2, raised)
  step_remembered (Err (admit_refusal.Krb code)) x = (after_of x.0, (refl, x.1), x.2, raised)
  step_remembered (Err admit_refusal.Memory) x = (after_of admitted, (refl, refl), x, raised)

  pub did_admit : (admission : AdmissionRecord) → DidStep (Ok admission) → Admit service login request (remembered service admitted) (Ok admission) seen
  unfolding Admit
  did_admit admission = step_remembered (Ok admission)

  pub did_refuse : (refusal : AdmitRefusal) → DidStep (Err refusal) → Admit service login request (remembered service admitted) (Err (Admitted refusal)) seen
  unfolding Admit
  did_refuse refusal x = (refusal, step_remembered (Err refusal) x, refl)

-- the client's last step
pub no_room : (asked : ApAskedRecord) (admission : AdmissionRecord) → Show asked admission (Err (Taken take_refusal.Memory))
unfolding Show
no_room asked admission = (take_refusal.Memory, tt, refl)

module _ (asked : ApAskedRecord) (admission : AdmissionRecord) (reply : Bytes) (replied : reply ≡ reply_bytes admission.reply) where
  pub not_shown : (refusal : TakeRefusal) → IsTaken (takes_ap_reply asked reply) (Err refusal) → Show asked admission (Err (Taken refusal))
  unfolding Show
  not_shown refusal x = (refusal, subst (λ bytes. IsTaken (takes_ap_reply asked bytes) (Err refusal)) replied x, refl)

  pub was_shown : (key : EncryptionKey) → IsTaken (takes_ap_reply asked reply) (Ok tt) → key ≡ encryption_key asked.suite asked.key → Show asked admission (Ok key)
  unfolding Show
  was_shown key x same = (subst (λ bytes. IsTaken (takes_ap_reply asked bytes) (Ok tt)) replied x, same)

-- with what the service was told
pub no_key : (asked : ApAskedRecord) (admission : AdmissionRecord) (result : Result Login LoginRefusal) (refusal : LoginRefusal) → Show asked admission (Err refusal) → result ≡ Err refusal
    → Keyed asked admission result
unfolding Keyed
no_key asked admission result refusal x same = subst (Keyed asked admission) (sym same) x

pub key_told : (asked : ApAskedRecord) (admission : AdmissionRecord) (key : EncryptionKey) → Show asked admission (Ok key) → Keyed asked admission (Ok (key, admission))
unfolding Keyed
key_told asked admission key x = (x, refl)

-- the AP exchange
module _ (client : ClientRecord) (service : ServiceRecord) (login : LoginRecord) (credential : CredentialRecord) (before : RememberedRecord) (seen : SeenRecord) where
  abbrev HasExchanged : Result Login LoginRefusal → Type 0
  HasExchanged result = Remembers seen (ApExchange client service login credential before result)

  pub ap_unasked : (result : Result Login LoginRefusal) (refusal : LoginRefusal) → ApAsk client login credential (Err refusal) → result ≡ Err refusal
      → IsWindow seen before.admitted → seen.greatest ≡ before.greatest → HasExchanged result
  unfolding ApAsk ApExchange
  ap_unasked result refusal x same window greatest = (before, inr (x.0, x.1, same ∙ ap Err x.2, refl), window, greatest)

  module _ (request : Made) (asked : ApAskedRecord) (lent : Bytes) (asks : ApAsk client login credential (Ok (request, asked))) (is_sent : lent ≡ request.items) where
    pub ap_refused : (result : Result Login LoginRefusal) (refusal : LoginRefusal) → Admit service login lent before (Err refusal) seen → result ≡ Err refusal → HasExchanged result
    unfolding ApAsk Admit ApExchange
    ap_refused result refusal x same =
        (x.1.0, inl ((request.items, asked), asks, (Err x.0, subst (λ bytes. IsAdmitted service login bytes before (Err x.0) x.1.0) is_sent x.1.1, same ∙ ap Err x.2)), x.1.2, x.1.3)

    module _ (admission : AdmissionRecord) (admits : Admit service login lent before (Ok admission) seen) where
      ap_taken : (result : Result Login LoginRefusal) → after_admission asked (Ok admission) result → HasExchanged result
      unfolding ApAsk Admit ApExchange
      ap_taken result x =
          (admits.0, inl ((request.items, asked), asks, (Ok admission, subst (λ bytes. IsAdmitted service login bytes before (Ok admission) admits.0) is_sent admits.1, x)), admits.2, admits.3)

      pub ap_keyed : (result : Result Login LoginRefusal) → Keyed asked admission result → HasExchanged result
      unfolding Keyed Show
      ap_keyed (Ok made) x = ap_taken (Ok made) (inl (tt, x.0.0, λ i. Ok (x.0.1 i, x.1 i)))
      ap_keyed (Err refusal) x = ap_taken (Err refusal) (inr (x.0, x.1, ap Err x.2))
