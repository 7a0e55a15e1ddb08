-- Bytes that begin a request, and bytes that are none.
use Rattle.std.specs.Prelude.{ℕ, Bool, false, ◌==◌, ◌||◌, ◌+◌, slice_get, IsTrue}
use Rattle.std.specs.Option.{option_map_or}
use Rattle.picky_asn1.specs.Bytes.{Bytes}
use Rattle.krb_constants.specs.declared.types.TheConstants.{APPLICATION, AS_REQ_MSG_TYPE, TGS_REQ_MSG_TYPE}
use Rattle.krb_messages.specs.Messages.{IsAsReq, IsTgsReq}
use Rattle.krb_messages.specs.declared.messages.kdc_req.KdcReq.{KdcReq}

-- the identifier octet of an AS request or of a TGS request, `[APPLICATION 10]` or `[APPLICATION 12]` (RFC 4120, section 5.4.1)
abbrev pub is_request_octet : ℕ → Bool
is_request_octet octet = octet == (APPLICATION + AS_REQ_MSG_TYPE) || octet == (APPLICATION + TGS_REQ_MSG_TYPE)

-- The bytes begin with the identifier octet of an AS request or of a TGS request. Other bytes are refused unread, however little
-- memory there is.
abbrev pub BeginsRequest : Bytes → Type 0
BeginsRequest bytes = IsTrue (option_map_or is_request_octet (slice_get bytes 0) false)

-- The bytes are the one encoding of no AS request and of no TGS request.
abbrev pub IsNoRequest : Bytes → Type 0
IsNoRequest message = ((request : KdcReq) → IsAsReq message request → ⊥) × ((request : KdcReq) → IsTgsReq message request → ⊥)
