-- A whole login (RFC 4120, sections 3.1, 3.3, 3.2): a ticket for the ticket-granting service, by it a ticket for the service, and
-- by that one admission. Each step takes the bytes of the one before it, and the first refusal ends the login.
use Rattle.std.specs.Prelude.{◌≡◌, ◌⊎◌, max, Result, Ok, Err}
use Rattle.picky_asn1.specs.Bytes.{Bytes}
use Rattle.krb_messages.specs.declared.data_types.encryption_key.EncryptionKey.{EncryptionKey}
use Rattle.krb_tickets.specs.Sealing.{encryption_key}
use Rattle.krb_kdc_exchanges.specs.Rows.{PkinitRows}
use Rattle.krb_messages.specs.TicketGranting.{krbtgt_of}
use Rattle.krb_service.specs.Admission.{AdmissionRecord}
use Rattle.krb_ap_requests.specs.declared.refusal.AdmitRefusal.{AdmitRefusal}
use Rattle.krb_client.specs.Asked.{ApAskedRecord}
use Rattle.krb_client.specs.ApReply.{takes_ap_reply}
use Rattle.krb_client.specs.AsReply.{takes_as_reply}
use Rattle.krb_client.specs.Client.{ClientRecord, CredentialRecord}
use Rattle.krb_client.specs.Means.{MeansRecord}
use Rattle.krb_client.specs.Refusals.{IsTaken}
use Rattle.krb_client.specs.TgsReply.{takes_tgs_reply}
use Rattle.krb_client.specs.declared.options.TicketOptions.{TicketOptions}
use Rattle.krb_client.specs.declared.refusal.AskRefusal.{AskRefusal}
use Rattle.krb_service.specs.RememberingService.{remembering}
use Rattle.krb_service.specs.Runs as runs
use Rattle.krb_service.specs.Service.{ServiceRecord}
use Rattle.krb_logins.specs.Parties.{LoginRecord, RealmRecord, RememberedRecord, TgsRecord, call_at}
use Rattle.krb_logins.specs.Steps.{IsApAsked, IsAsAsked, IsAsAskedWith, IsKdcAnswered, IsTgsAsked, IsTgsAskedWith, reply_bytes}
use Rattle.krb_logins.specs.declared.refusal.LoginRefusal.{LoginRefusal}
use Rattle.krb_logins.specs.declared.refusal.LoginRefusal.TheVariants.{Admitted, Answered, Asked, Taken}

-- what a step makes, which the steps behind it take, or its refusal, told as this one, which ends the login
abbrev pub followed : {A E T : Type 0} → (Result A E → Type 0) → (E → LoginRefusal) → (A → Result T LoginRefusal → Type 0) → Result T LoginRefusal → Type 0
followed {A} {E} does told rest result =
    ((made : A) × does (Ok made) × rest made result)
    ⊎ ((refusal : E) × does (Err refusal) × (result ≡ Err (told refusal)))

-- what the last step makes
abbrev pub ended : {A : Type 0} → A → Result A LoginRefusal → Type 0
ended made result = result ≡ Ok made

-- the AS exchange, by the client's means: a ticket for the ticket-granting service of its realm
unfoldable pub AsExchange : ClientRecord → MeansRecord → RealmRecord → PkinitRows → LoginRecord → Result CredentialRecord LoginRefusal → Type 0
AsExchange client means realm rows login =
    followed (IsAsAsked client means (krbtgt_of client.realm) login.till login.client_as login.words_as) Asked (λ sent.
    followed (IsKdcAnswered (call_at realm login.realm_as login.realm_words_as) rows sent.0) Answered (λ reply.
    followed (IsTaken (takes_as_reply client means sent.1 reply)) Taken ended))

-- the TGS exchange: by that ticket one for the service
unfoldable pub TgsExchange : ClientRecord → RealmRecord → PkinitRows → LoginRecord → CredentialRecord → Result CredentialRecord LoginRefusal → Type 0
TgsExchange client realm rows login granting =
    followed (IsTgsAsked client granting login.service login.till login.client_tgs login.words_tgs) Asked (λ sent.
    followed (IsKdcAnswered (call_at realm login.realm_tgs login.realm_words_tgs) rows sent.0) Answered (λ reply.
    followed (IsTaken (takes_tgs_reply client sent.1 reply)) Taken ended))

-- the AS exchange by a request with options
unfoldable pub AsExchangeWith : ClientRecord → TicketOptions → MeansRecord → RealmRecord → PkinitRows → LoginRecord → Result CredentialRecord LoginRefusal → Type 0
AsExchangeWith client options means realm rows login =
    followed (IsAsAskedWith client options means (krbtgt_of client.realm) login.till login.client_as login.words_as) Asked (λ sent.
    followed (IsKdcAnswered (call_at realm login.realm_as login.realm_words_as) rows sent.0) Answered (λ reply.
    followed (IsTaken (takes_as_reply client means sent.1 reply)) Taken ended))

-- a TGS exchange by a request with options: a further ticket, or the presented one renewed
unfoldable pub TgsExchangeWith : ClientRecord → RealmRecord → PkinitRows → TgsRecord → CredentialRecord → Result CredentialRecord LoginRefusal → Type 0
TgsExchangeWith client realm rows exchange granting =
    followed (IsTgsAskedWith client exchange granting) Asked (λ sent.
    followed (IsKdcAnswered (call_at realm exchange.realm_at exchange.realm_words) rows sent.0) Answered (λ reply.
    followed (IsTaken (takes_tgs_reply client sent.1 reply)) Taken ended))

-- both: the ticket for the service, with its session key
unfoldable pub Exchanges : ClientRecord → MeansRecord → RealmRecord → PkinitRows → LoginRecord → Result CredentialRecord LoginRefusal → Type 0
Exchanges client means realm rows login result =
    ((granting : CredentialRecord) × AsExchange client means realm rows login (Ok granting) × TgsExchange client realm rows login granting result)
    ⊎ ((refusal : LoginRefusal) × AsExchange client means realm rows login (Err refusal) × (result ≡ Err refusal))

-- the client's session key, and the service's admission of the client
abbrev pub Login : Type 0
Login = EncryptionKey × AdmissionRecord

-- the client takes the service's reply
abbrev pub after_admission : ApAskedRecord → Result AdmissionRecord AdmitRefusal → Result Login LoginRefusal → Type 0
after_admission asked (Ok admission) = followed (IsTaken (takes_ap_reply asked (reply_bytes admission.reply))) Taken (λ _. ended (encryption_key asked.suite asked.key, admission))
after_admission asked (Err refusal) = λ result. result ≡ Err (Admitted refusal)

-- a service that remembered the one remembers the other after a call that is answered so (RFC 4120, section 3.2.3)
unfoldable pub IsAdmitted : ServiceRecord → LoginRecord → Bytes → RememberedRecord → Result AdmissionRecord AdmitRefusal → RememberedRecord → Type 0
IsAdmitted service login request before answer after =
    (after.greatest ≡ max before.greatest login.service_ap)
    × runs.IsAdmissionAnswer (remembering service after.greatest before.admitted request login.service_words).gives before.admitted answer after.admitted

-- the AP exchange: by the ticket for the service the client is admitted, and the service shows that it could open the ticket
unfoldable pub ApExchange : ClientRecord → ServiceRecord → LoginRecord → CredentialRecord → RememberedRecord → Result Login LoginRefusal → RememberedRecord → Type 0
ApExchange client service login credential before result after =
    ((sent : Bytes × ApAskedRecord) × IsApAsked client credential login.client_ap login.words_ap (Ok sent)
    × ((answer : Result AdmissionRecord AdmitRefusal) × IsAdmitted service login sent.0 before answer after × after_admission sent.1 answer result))
    ⊎ ((refusal : AskRefusal) × IsApAsked client credential login.client_ap login.words_ap (Err refusal) × (result ≡ Err (Asked refusal)) × (after ≡ before))

-- what a login by the client's means answers at a realm that judges PA-PK-AS-REQ by these rows, and what the service remembers after
-- it; a login that is refused before the service is asked leaves what it remembers
unfoldable pub LoginRun : ClientRecord → MeansRecord → RealmRecord → PkinitRows → ServiceRecord → LoginRecord → RememberedRecord → Result Login LoginRefusal → RememberedRecord → Type 0
LoginRun client means realm rows service login before result after =
    ((credential : CredentialRecord) × Exchanges client means realm rows login (Ok credential) × ApExchange client service login credential before result after)
    ⊎ ((refusal : LoginRefusal) × Exchanges client means realm rows login (Err refusal) × (result ≡ Err refusal) × (after ≡ before))
