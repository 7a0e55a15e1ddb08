-- What a service tells of its clients.
use Rattle.std.specs.Prelude.{◌≡◌, max, List, Result, Ok, Err}
use Rattle.picky_asn1.specs.Bytes.{Bytes}
use Rattle.krb_messages.specs.RandomBytes.{Random}
use Rattle.krb_messages.specs.declared.data_types.principal_name.PrincipalName.{PrincipalName}
use Rattle.krb_time.specs.Units.{Micros}
use Rattle.krb_service.specs.Admission.{AdmissionRecord}
use Rattle.krb_ap_requests.specs.declared.refusal.AdmitRefusal.{AdmitRefusal}
use Rattle.krb_service.specs.Pair.{PairRecord}
use Rattle.krb_service.specs.RememberingService.{IsStep, remembering}
use Rattle.krb_service.specs.Seen.{IsWindow}
use Rattle.krb_service.specs.Service.{ServiceRecord}

-- the client's name where it was admitted, and the refusal where it wasn't
abbrev pub client_in : Result AdmissionRecord AdmitRefusal → Result PrincipalName AdmitRefusal
client_in (Ok admission) = Ok admission.client
client_in (Err refusal) = Err refusal

-- of whatever list of admitted pairs the service holds the window: the answer has the client of an answer of the service that
-- remembers all of them, and so none is admitted twice
abbrev pub IsClient : ServiceRecord → Bytes → Micros → Random → Result PrincipalName AdmitRefusal → ServiceRecord → Type 0
IsClient old request moment words result new = (admitted : List PairRecord) → IsWindow old.seen admitted
    → (answer : Result AdmissionRecord AdmitRefusal) × IsStep (remembering old (max old.seen.greatest moment) admitted request words).gives admitted answer new.seen
    × (result ≡ client_in answer)
