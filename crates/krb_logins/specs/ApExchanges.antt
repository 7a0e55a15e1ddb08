-- The AP exchange of a login as client and service are held: what each step makes, or why the login ends there.
use Rattle.std.specs.Prelude.{◌≡◌, ℕ, Vec, List, Result, Ok, Err}
use Rattle.std.specs.Global.{Global}
use Rattle.picky_asn1.specs.Bytes.{Bytes}
use Rattle.krb_messages.specs.declared.data_types.encryption_key.EncryptionKey.{EncryptionKey}
use Rattle.krb_tickets.specs.Sealing.{encryption_key}
use Rattle.krb_service.specs.Pair.{PairRecord}
use Rattle.krb_service.specs.Seen.{SeenRecord, IsWindow}
use Rattle.krb_service.specs.Admission.{AdmissionRecord}
use Rattle.krb_ap_requests.specs.declared.refusal.AdmitRefusal.{AdmitRefusal}
use Rattle.krb_client.specs.Asked.{ApAskedRecord}
use Rattle.krb_client.specs.ApReply.{takes_ap_reply}
use Rattle.krb_client.specs.Client.{ClientRecord, CredentialRecord}
use Rattle.krb_client.specs.Refusals.{IsTaken}
use Rattle.krb_client.specs.declared.refusal.TakeRefusal.{TakeRefusal}
use Rattle.krb_service.specs.Service.{ServiceRecord}
use Rattle.krb_logins.specs.LoginRun.{IsAdmitted, Login}
use Rattle.krb_logins.specs.Parties.{LoginRecord, RememberedRecord}
use Rattle.krb_logins.specs.Steps.{IsApAsked, reply_bytes}
use Rattle.krb_logins.specs.declared.refusal.LoginRefusal.{LoginRefusal}
use Rattle.krb_logins.specs.declared.refusal.LoginRefusal.TheVariants.{Admitted, Asked, Taken}

-- bytes as a call makes them
abbrev pub Made : Type 0
Made = Vec ℕ Global

-- what a step makes, as definitions see it; or its refusal, told as the login's
abbrev pub IsStep : {V A E : Type 0} → (V → A) → (Result A E → Type 0) → (E → LoginRefusal) → Result V LoginRefusal → Type 0
IsStep seen does own (Ok made) = does (Ok (seen made))
IsStep {E = E} seen does own (Err refusal) = (cause : E) × does (Err cause) × (refusal ≡ own cause)

-- a request, with what the client remembers of it
abbrev pub sent_as : {A : Type 0} → Made × A → Bytes × A
sent_as sent = (sent.0.items, sent.1)

-- the client's AP request of a login and what it then remembers, or why the login ends there (RFC 4120, section 3.2.2)
unfoldable pub ApAsk : ClientRecord → LoginRecord → CredentialRecord → Result (Made × ApAskedRecord) LoginRefusal → Type 0
ApAsk client login credential = IsStep sent_as (IsApAsked client credential login.client_ap login.words_ap) Asked

-- what a service that admitted these pairs remembers
abbrev pub remembered : ServiceRecord → List PairRecord → RememberedRecord
remembered service admitted = record { admitted = admitted; greatest = service.seen.greatest }

-- the service did this, and what it has seen is what it then remembers
abbrev pub Remembers : SeenRecord → (RememberedRecord → Type 0) → Type 0
Remembers seen did = (after : RememberedRecord) × did after × IsWindow seen after.admitted × (seen.greatest ≡ after.greatest)

-- the service admits the client by its AP request, or refuses it
unfoldable pub Admit : ServiceRecord → LoginRecord → Bytes → RememberedRecord → Result AdmissionRecord LoginRefusal → SeenRecord → Type 0
Admit service login request before (Ok admission) seen = Remembers seen (IsAdmitted service login request before (Ok admission))
Admit service login request before (Err refusal) seen =
    (cause : AdmitRefusal) × Remembers seen (IsAdmitted service login request before (Err cause)) × (refusal ≡ Admitted cause)

-- the client takes the AP reply, and has its session key
unfoldable pub Show : ApAskedRecord → AdmissionRecord → Result EncryptionKey LoginRefusal → Type 0
Show asked admission (Ok key) = IsTaken (takes_ap_reply asked (reply_bytes admission.reply)) (Ok tt) × (key ≡ encryption_key asked.suite asked.key)
Show asked admission (Err refusal) =
    (cause : TakeRefusal) × IsTaken (takes_ap_reply asked (reply_bytes admission.reply)) (Err cause) × (refusal ≡ Taken cause)

-- the client's session key, with the service's admission
unfoldable pub Keyed : ApAskedRecord → AdmissionRecord → Result Login LoginRefusal → Type 0
Keyed asked admission (Ok login) = Show asked admission (Ok login.0) × (login.1 ≡ admission)
Keyed asked admission (Err refusal) = Show asked admission (Err refusal)
