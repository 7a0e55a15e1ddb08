-- What messages are: their trees with the application tags (RFC 4120, section 5.10), and which bytes are one (sections 5.4 to
-- 5.9). What is sealed in messages is at the end.
use Rattle.std.specs.Prelude.{◌+◌}
use Rattle.std.proofs.Common.{sym, ◌∙◌}
use Rattle.picky_asn1.specs.Bytes.{Bytes}
use Rattle.asn1_der.specs.Tree.{Tree, Writes, wrapped}
use Rattle.asn1_der.proofs.Spelling.{IsInjective, wrapped-injective}
use Rattle.decision_tables.specs.One.{IsSole}
use Rattle.krb_constants.specs.declared.types.TheConstants.{APPLICATION, AP_REP_MSG_TYPE, AP_REQ_MSG_TYPE, AS_REP_MSG_TYPE, AS_REQ_MSG_TYPE, AUTHENTICATOR_TYPE, ENC_AP_REP_PART_TYPE, ENC_AS_REP_PART_TYPE, ENC_TGS_REP_PART_TYPE, ENC_TICKET_PART_TYPE, KRB_ERROR_MSG_TYPE, TGS_REP_MSG_TYPE, TGS_REQ_MSG_TYPE}
use Rattle.krb_messages.specs.declared.data_types.authenticator.AuthenticatorInner.{AuthenticatorInner}
use Rattle.krb_messages.specs.declared.data_types.enc_ap_rep_part.EncApRepPartInner.{EncApRepPartInner}
use Rattle.krb_messages.specs.declared.data_types.enc_ticket_part.EncTicketPartInner.{EncTicketPartInner}
use Rattle.krb_messages.specs.Trees as held
use Rattle.krb_messages.specs.declared.messages.ap_rep.ApRepInner.{ApRepInner}
use Rattle.krb_messages.specs.declared.messages.ap_req.ApReqInner.{ApReqInner}
use Rattle.krb_messages.specs.declared.messages.enc_kdc_rep_part.EncKdcRepPart.{EncKdcRepPart}
use Rattle.krb_messages.specs.declared.messages.kdc_rep.KdcRep.{KdcRep}
use Rattle.krb_messages.specs.declared.messages.kdc_req.KdcReq.{KdcReq}
use Rattle.krb_messages.specs.declared.messages.krb_error.KrbErrorInner.{KrbErrorInner}
use Rattle.krb_messages.specs.MessageTrees as messages

-- [APPLICATION 10]
abbrev pub as_req_tree : KdcReq → Tree
as_req_tree request = wrapped (APPLICATION + AS_REQ_MSG_TYPE) (messages.kdc_req_inner_tree request)

-- the bytes are the one encoding of the AS request
abbrev pub IsAsReq : Bytes → KdcReq → Type 0
IsAsReq bytes request = Writes as_req_tree request bytes

pub sole_as_req : (bytes : Bytes) → IsSole (IsAsReq bytes)
sole_as_req bytes v w p q = wrapped-injective (APPLICATION + AS_REQ_MSG_TYPE) messages.kdc_req_inner_tree messages.kdc_req_inner-injective v w p.0 q.0 (sym p.1 ∙ q.1)

-- [APPLICATION 12]
abbrev pub tgs_req_tree : KdcReq → Tree
tgs_req_tree request = wrapped (APPLICATION + TGS_REQ_MSG_TYPE) (messages.kdc_req_inner_tree request)

-- the bytes are the one encoding of the TGS request
abbrev pub IsTgsReq : Bytes → KdcReq → Type 0
IsTgsReq bytes request = Writes tgs_req_tree request bytes

pub sole_tgs_req : (bytes : Bytes) → IsSole (IsTgsReq bytes)
sole_tgs_req bytes v w p q = wrapped-injective (APPLICATION + TGS_REQ_MSG_TYPE) messages.kdc_req_inner_tree messages.kdc_req_inner-injective v w p.0 q.0 (sym p.1 ∙ q.1)

-- [APPLICATION 11]
abbrev pub as_rep_tree : KdcRep → Tree
as_rep_tree reply = wrapped (APPLICATION + AS_REP_MSG_TYPE) (messages.kdc_rep_inner_tree reply)

-- the bytes are the one encoding of the AS reply
abbrev pub IsAsRep : Bytes → KdcRep → Type 0
IsAsRep bytes reply = Writes as_rep_tree reply bytes

pub sole_as_rep : (bytes : Bytes) → IsSole (IsAsRep bytes)
sole_as_rep bytes v w p q = wrapped-injective (APPLICATION + AS_REP_MSG_TYPE) messages.kdc_rep_inner_tree messages.kdc_rep_inner-injective v w p.0 q.0 (sym p.1 ∙ q.1)

-- [APPLICATION 13]
abbrev pub tgs_rep_tree : KdcRep → Tree
tgs_rep_tree reply = wrapped (APPLICATION + TGS_REP_MSG_TYPE) (messages.kdc_rep_inner_tree reply)

-- the bytes are the one encoding of the TGS reply
abbrev pub IsTgsRep : Bytes → KdcRep → Type 0
IsTgsRep bytes reply = Writes tgs_rep_tree reply bytes

pub sole_tgs_rep : (bytes : Bytes) → IsSole (IsTgsRep bytes)
sole_tgs_rep bytes v w p q = wrapped-injective (APPLICATION + TGS_REP_MSG_TYPE) messages.kdc_rep_inner_tree messages.kdc_rep_inner-injective v w p.0 q.0 (sym p.1 ∙ q.1)

-- [APPLICATION 14]
abbrev pub ap_req_tree : ApReqInner → Tree
ap_req_tree request = wrapped (APPLICATION + AP_REQ_MSG_TYPE) (messages.ap_req_inner_tree request)

-- the bytes are the one encoding of the AP request
abbrev pub IsApReq : Bytes → ApReqInner → Type 0
IsApReq bytes request = Writes ap_req_tree request bytes

pub sole_ap_req : (bytes : Bytes) → IsSole (IsApReq bytes)
sole_ap_req bytes v w p q = wrapped-injective (APPLICATION + AP_REQ_MSG_TYPE) messages.ap_req_inner_tree messages.ap_req_inner-injective v w p.0 q.0 (sym p.1 ∙ q.1)

-- [APPLICATION 15]
abbrev pub ap_rep_tree : ApRepInner → Tree
ap_rep_tree reply = wrapped (APPLICATION + AP_REP_MSG_TYPE) (messages.ap_rep_inner_tree reply)

-- the bytes are the one encoding of the AP reply
abbrev pub IsApRep : Bytes → ApRepInner → Type 0
IsApRep bytes reply = Writes ap_rep_tree reply bytes

pub sole_ap_rep : (bytes : Bytes) → IsSole (IsApRep bytes)
sole_ap_rep bytes v w p q = wrapped-injective (APPLICATION + AP_REP_MSG_TYPE) messages.ap_rep_inner_tree messages.ap_rep_inner-injective v w p.0 q.0 (sym p.1 ∙ q.1)

-- [APPLICATION 30]
abbrev pub krb_error_tree : KrbErrorInner → Tree
krb_error_tree error = wrapped (APPLICATION + KRB_ERROR_MSG_TYPE) (messages.krb_error_inner_tree error)

-- the bytes are the one encoding of the error
abbrev pub IsKrbError : Bytes → KrbErrorInner → Type 0
IsKrbError bytes error = Writes krb_error_tree error bytes

pub sole_krb_error : (bytes : Bytes) → IsSole (IsKrbError bytes)
sole_krb_error bytes v w p q = wrapped-injective (APPLICATION + KRB_ERROR_MSG_TYPE) messages.krb_error_inner_tree messages.krb_error_inner-injective v w p.0 q.0 (sym p.1 ∙ q.1)

-- an authenticator, [APPLICATION 2]
abbrev pub authenticator_tree : AuthenticatorInner → Tree
authenticator_tree part = wrapped (APPLICATION + AUTHENTICATOR_TYPE) (held.authenticator_inner_tree part)

pub authenticator-injective : IsInjective authenticator_tree
authenticator-injective = wrapped-injective (APPLICATION + AUTHENTICATOR_TYPE) held.authenticator_inner_tree held.authenticator_inner-injective

-- a ticket's part, [APPLICATION 3]
abbrev pub enc_ticket_part_tree : EncTicketPartInner → Tree
enc_ticket_part_tree part = wrapped (APPLICATION + ENC_TICKET_PART_TYPE) (held.enc_ticket_part_inner_tree part)

pub enc_ticket_part-injective : IsInjective enc_ticket_part_tree
enc_ticket_part-injective = wrapped-injective (APPLICATION + ENC_TICKET_PART_TYPE) held.enc_ticket_part_inner_tree held.enc_ticket_part_inner-injective

-- the part of an AS reply, [APPLICATION 25]
abbrev pub enc_as_rep_part_tree : EncKdcRepPart → Tree
enc_as_rep_part_tree part = wrapped (APPLICATION + ENC_AS_REP_PART_TYPE) (messages.enc_kdc_rep_part_inner_tree part)

pub enc_as_rep_part-injective : IsInjective enc_as_rep_part_tree
enc_as_rep_part-injective = wrapped-injective (APPLICATION + ENC_AS_REP_PART_TYPE) messages.enc_kdc_rep_part_inner_tree messages.enc_kdc_rep_part_inner-injective

-- the part of a TGS reply, and of some realms' AS replies (RFC 4120, section 5.4.2), [APPLICATION 26]
abbrev pub enc_tgs_rep_part_tree : EncKdcRepPart → Tree
enc_tgs_rep_part_tree part = wrapped (APPLICATION + ENC_TGS_REP_PART_TYPE) (messages.enc_kdc_rep_part_inner_tree part)

pub enc_tgs_rep_part-injective : IsInjective enc_tgs_rep_part_tree
enc_tgs_rep_part-injective = wrapped-injective (APPLICATION + ENC_TGS_REP_PART_TYPE) messages.enc_kdc_rep_part_inner_tree messages.enc_kdc_rep_part_inner-injective

-- the part of an AP reply, [APPLICATION 27]
abbrev pub enc_ap_rep_part_tree : EncApRepPartInner → Tree
enc_ap_rep_part_tree part = wrapped (APPLICATION + ENC_AP_REP_PART_TYPE) (held.enc_ap_rep_part_inner_tree part)

pub enc_ap_rep_part-injective : IsInjective enc_ap_rep_part_tree
enc_ap_rep_part-injective = wrapped-injective (APPLICATION + ENC_AP_REP_PART_TYPE) held.enc_ap_rep_part_inner_tree held.enc_ap_rep_part_inner-injective
