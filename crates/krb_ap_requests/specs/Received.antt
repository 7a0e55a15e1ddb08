-- What bytes present to a service (RFC 4120, section 3.2.3).
use Rattle.std.specs.Prelude.{Result, Ok, Err}
use Rattle.krb_time.specs.Units.{Micros}
use Rattle.picky_asn1.specs.Bytes.{Bytes}
use Rattle.krb_messages.specs.declared.messages.ap_req.ApReqInner.{ApReqInner}
use Rattle.krb_ap_requests.specs.ApTable.{presented}
use Rattle.krb_ap_requests.specs.Entry.{EntryRecord}
use Rattle.krb_messages.specs.Messages.{IsApReq}
use Rattle.krb_ap_requests.specs.declared.presented.Presented.{Presented}
use Rattle.krb_ap_requests.specs.declared.refusal.AdmitRefusal.{AdmitRefusal}
use Rattle.krb_ap_requests.specs.declared.refusal.AdmitRefusal.TheVariants.{Unreadable, Krb, Memory}

-- the bytes are the one encoding of a request, which presents this or is refused for that, or they are of none; or memory
-- was wanting
unfoldable pub Receives : EntryRecord → Micros → Micros → Bytes → Result Presented AdmitRefusal → Type 0
Receives entry skew moment message (Ok p) = (request : ApReqInner) × IsApReq message request × (presented entry skew moment request).gives (Ok p)
Receives entry skew moment message (Err (Krb code)) = (request : ApReqInner) × IsApReq message request × (presented entry skew moment request).gives (Err code)
Receives entry skew moment message (Err Unreadable) = (request : ApReqInner) → IsApReq message request → ⊥
Receives entry skew moment message (Err Memory) = Unit {0}
