-- What a service ensures of a call, whether it has one key or a keytab's keys (RFC 4120, section 3.2.3).
use Rattle.std.specs.Prelude.{◌≡◌, List, max, Result}
use Rattle.krb_messages.specs.RandomBytes.{Random}
use Rattle.krb_time.specs.Units.{Micros}
use Rattle.picky_asn1.specs.Bytes.{Bytes}
use Rattle.krb_ap_requests.specs.declared.refusal.AdmitRefusal.{AdmitRefusal}
use Rattle.krb_service.specs.Admission.{AdmissionRecord}
use Rattle.krb_service.specs.KeytabService.{KeytabServiceRecord, remembering_by_keytab_with}
use Rattle.krb_service.specs.Pair.{PairRecord}
use Rattle.krb_service.specs.RememberingService.{IsStep}
use Rattle.krb_service.specs.Seen.{IsWindow}
use Rattle.krb_service.specs.declared.reply.ReplyFields.{ReplyFields}

-- the service answers as one that remembers each pair of client and time, and nothing of it changes but what it has seen
pub record Admits (fields : ReplyFields) (service : KeytabServiceRecord) (moment : Micros) (message : Bytes) (random : Random) (answer : Result AdmissionRecord AdmitRefusal) (after : KeytabServiceRecord) : Type 0 where
  pub greatest : after.seen.greatest ≡ max service.seen.greatest moment
  pub skew : after.seen.skew ≡ service.seen.skew
  pub rest : after ≡ record service { seen = after.seen }
  pub remembers : (admitted : List PairRecord) → IsWindow service.seen admitted
      → IsStep (remembering_by_keytab_with fields service (max service.seen.greatest moment) admitted message random).gives admitted answer after.seen
