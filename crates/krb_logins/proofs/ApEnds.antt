-- How an AP exchange ends where the service admits what the client presents: both have one key, or memory is wanting.
use Rattle.std.proofs.Common.{◌≡◌, ◌⊎◌, ℕ, true, false, ◌∷◌, Result, Ok, Err, inl, inr, refl, sym, subst, ap, ◌∙◌}
use Rattle.picky_asn1.specs.Bytes.{Bytes}
use Rattle.krb_messages.specs.Names.{components}
use Rattle.krb_tickets.specs.Sealing.{encryption_key}
use Rattle.krb_service.specs.Admission.{AdmissionRecord}
use Rattle.krb_ap_requests.specs.declared.refusal.AdmitRefusal.{AdmitRefusal}
use Rattle.krb_ap_requests.specs.declared.refusal.AdmitRefusal.TheVariants as admit_refusal
use Rattle.krb_client.specs.Asked.{ApAskedRecord}
use Rattle.krb_client.specs.ApReply.{takes_ap_reply}
use Rattle.krb_client.specs.ApRequest.{AsksAp, ap_asked}
use Rattle.krb_client.specs.Client.{ClientRecord, CredentialRecord}
use Rattle.krb_client.specs.Refusals.{IsTaken}
use Rattle.krb_client.specs.declared.refusal.AskRefusal.{AskRefusal}
use Rattle.krb_client.specs.declared.refusal.AskRefusal.TheVariants as ask_refusal
use Rattle.krb_client.specs.declared.refusal.TakeRefusal.{TakeRefusal}
use Rattle.krb_service.specs.RememberingService.{Outcome, remembering}
use Rattle.krb_service.specs.Service.{ServiceRecord}
use Rattle.krb_logins.specs.Honest.{Ends, IsOneKey, clock_of, login_pair}
use Rattle.krb_logins.specs.LoginRun.{ApExchange, IsAdmitted, Login, after_admission, ended}
use Rattle.krb_logins.specs.Parties.{LoginRecord, RememberedRecord}
use Rattle.krb_logins.specs.Steps.{IsApAsked, reply_bytes}
use Rattle.krb_logins.specs.declared.refusal.LoginRefusal.{LoginRefusal}
use Rattle.krb_logins.specs.declared.refusal.LoginRefusal.TheVariants.{Taken}
use Rattle.krb_logins.proofs.ExchangeEnds.{followed_ends, no_refusal, one_value, taken_memory}

-- what the service may remember after the AP exchange
pub record IsAfter (client : ClientRecord) (before : RememberedRecord) (login : LoginRecord) (after : RememberedRecord) : Type 0 where
  pub greatest : (after.greatest ≡ clock_of before login) ⊎ (after.greatest ≡ before.greatest)
  pub admitted : (after.admitted ≡ login_pair client login ∷ before.admitted) ⊎ (after.admitted ≡ before.admitted)

-- the outcome is that the client is admitted with this session key, and takes the reply
abbrev pub IsIn : ClientRecord → RememberedRecord → LoginRecord → CredentialRecord → Bytes → Outcome → AdmissionRecord → Type 0
IsIn client before login credential key outcome admission =
    (outcome ≡ (Ok admission, login_pair client login ∷ before.admitted))
    × (admission.session ≡ encryption_key client.suite key)
    × (admission.realm ≡ client.realm) × (components admission.client ≡ client.components)
    × ((taken : Result (Unit {0}) TakeRefusal) → (takes_ap_reply (ap_asked credential false login.client_ap login.words_ap) (reply_bytes admission.reply)).gives taken → taken ≡ Ok tt)

-- by the credential, which has this session key, the client is admitted
pub record IsAdmittedBy (client : ClientRecord) (service : ServiceRecord) (before : RememberedRecord) (login : LoginRecord) (credential : CredentialRecord) (key : Bytes) : Type 0 where
  pub suite : credential.suite ≡ client.suite
  pub key_is : credential.key ≡ key
  pub admits : (request : Bytes) (outcome : Outcome) → AsksAp client credential true false login.client_ap login.words_ap request
      → (remembering service (clock_of before login) before.admitted request login.service_words).gives outcome
      → (admission : AdmissionRecord) × IsIn client before login credential key outcome admission

-- client and service have one key, and the service was told the client's name
abbrev HaveOneKey : ClientRecord → Login → Type 0
HaveOneKey client made = (made.0 ≡ made.1.session) × (made.1.realm ≡ client.realm) × (components made.1.client ≡ client.components)

pub is_one_key : (client : ClientRecord) (result : Result Login LoginRefusal) → Ends (HaveOneKey client) result → IsOneKey client result
is_one_key client (Ok made) x = x
is_one_key client (Err refusal) x = x

module _ (client : ClientRecord) (service : ServiceRecord) (before : RememberedRecord) (login : LoginRecord) (credential : CredentialRecord) (key : Bytes)
    (admitted : IsAdmittedBy client service before login credential key) where
  module _ (sent : Bytes × ApAskedRecord) (asked : IsApAsked client credential login.client_ap login.words_ap (Ok sent)) where
    abbrev IsIt : Outcome → AdmissionRecord → Type 0
    IsIt outcome admission = IsIn client before login credential key outcome admission

    outcome_is : (greatest : ℕ) (outcome : Outcome) → greatest ≡ clock_of before login → (remembering service greatest before.admitted sent.0 login.service_words).gives outcome
        → (admission : AdmissionRecord) × IsIt outcome admission
    unfolding IsApAsked
    outcome_is greatest outcome clock x =
        admitted.admits sent.0 outcome asked.0 (subst (λ g. (remembering service g before.admitted sent.0 login.service_words).gives outcome) clock x)

    -- the client's key is that of the admission
    one_key_of : (outcome : Outcome) (admission : AdmissionRecord) → IsIt outcome admission → encryption_key sent.1.suite sent.1.key ≡ admission.session
    unfolding IsApAsked
    one_key_of outcome admission is =
        let suited = ap (λ a. a.suite) asked.1 ∙ admitted.suite in
        let keyed = ap (λ a. a.key) asked.1 ∙ admitted.key_is in
        (λ i. encryption_key (suited i) (keyed i)) ∙ sym is.1

    admitted_so : (admission : AdmissionRecord) (outcome : Outcome) (result : Result Login LoginRefusal) → IsIt outcome admission → after_admission sent.1 (Ok admission) result → Ends (HaveOneKey client) result
    unfolding IsApAsked
    admitted_so admission outcome result is =
        followed_ends (IsTaken (takes_ap_reply sent.1 (reply_bytes admission.reply))) Taken (λ _. ended (encryption_key sent.1.suite sent.1.key, admission)) (HaveOneKey client) result
        (λ shown taken same. subst (Ends (HaveOneKey client)) (sym same) (one_key_of outcome admission is, is.2, is.3))
        (λ refusal. taken_memory (takes_ap_reply sent.1 (reply_bytes admission.reply)) refusal
        (λ taken x. (tt, is.4 taken (subst (λ a. (takes_ap_reply a (reply_bytes admission.reply)).gives taken) asked.1 x))))

    served : (answer : Result AdmissionRecord AdmitRefusal) (after : RememberedRecord) (result : Result Login LoginRefusal) → IsAdmitted service login sent.0 before answer after
        → after_admission sent.1 answer result → Ends (HaveOneKey client) result
    unfolding IsAdmitted
    served (Ok admission) after result x y =
        let it = outcome_is after.greatest (Ok admission, after.admitted) x.0 x.1 in
        let same = one_value admission it.0 (ap (λ o. o.0) it.1.0) in
        admitted_so admission (Ok admission, after.admitted) result (subst (IsIt (Ok admission, after.admitted)) (sym same) it.1) y
    served (Err admit_refusal.Memory) after result x y = subst (Ends (HaveOneKey client)) (sym y) refl
    served (Err admit_refusal.Unreadable) after result x y = absurd (no_refusal _ _ (ap (λ o. o.0) (outcome_is after.greatest (Err admit_refusal.Unreadable, after.admitted) x.0 x.1).1.0))
    served (Err (admit_refusal.Krb code)) after result x y = absurd (no_refusal _ _ (ap (λ o. o.0) (outcome_is after.greatest (Err (admit_refusal.Krb code), after.admitted) x.0 x.1).1.0))

    -- the service remembers one pair more, or as many
    served_after : (answer : Result AdmissionRecord AdmitRefusal) (after : RememberedRecord) → IsAdmitted service login sent.0 before answer after → IsAfter client before login after
    unfolding IsAdmitted
    served_after (Ok admission) after x = record {
      greatest = inl x.0;
      admitted = inl (ap (λ o. o.1) (outcome_is after.greatest (Ok admission, after.admitted) x.0 x.1).1.0);
    }
    served_after (Err admit_refusal.Memory) after x = record { greatest = inl x.0; admitted = inr x.1 }
    served_after (Err admit_refusal.Unreadable) after x = absurd (no_refusal _ _ (ap (λ o. o.0) (outcome_is after.greatest (Err admit_refusal.Unreadable, after.admitted) x.0 x.1).1.0))
    served_after (Err (admit_refusal.Krb code)) after x = absurd (no_refusal _ _ (ap (λ o. o.0) (outcome_is after.greatest (Err (admit_refusal.Krb code), after.admitted) x.0 x.1).1.0))

  pub exchanged_after : (result : Result Login LoginRefusal) (after : RememberedRecord) → ApExchange client service login credential before result after → IsAfter client before login after
  unfolding ApExchange
  exchanged_after result after (inl x) = served_after x.0 x.1 x.2.0 after x.2.1
  exchanged_after result after (inr x) = record { greatest = inr (ap (λ (r : RememberedRecord). r.greatest) x.3); admitted = inr (ap (λ (r : RememberedRecord). r.admitted) x.3) }

  unasked : (refusal : AskRefusal) → IsApAsked client credential login.client_ap login.words_ap (Err refusal) → refusal ≡ ask_refusal.Memory
  unfolding IsApAsked
  unasked refusal x = x

  exchanged : (result : Result Login LoginRefusal) (after : RememberedRecord) → ApExchange client service login credential before result after → Ends (HaveOneKey client) result
  unfolding ApExchange
  exchanged result after (inl x) = served x.0 x.1 x.2.0 after result x.2.1 x.2.2
  exchanged result after (inr x) = subst (Ends (HaveOneKey client)) (sym x.2) (unasked x.0 x.1)

  pub exchanged_key : (result : Result Login LoginRefusal) (after : RememberedRecord) → ApExchange client service login credential before result after → IsOneKey client result
  exchanged_key result after run = is_one_key client result (exchanged result after run)
