-- A copy of an AP-REQ or AP-REP, from copies of these two.
use Rattle.std.proofs.Common.{ap}
use Rattle.picky_asn1_der.specs.declared.application_tag.ApplicationTag.{ApplicationTag}
use Rattle.krb_messages.specs.declared.messages.ap_rep.ApRepInner.{ApRepInner}
use Rattle.krb_messages.specs.declared.messages.ap_req.ApReqInner.{ApReqInner}
use Rattle.microsoft_messages.specs.declared.ap_message.ApMessage.{ApMessage}
use Rattle.microsoft_messages.specs.declared.ap_message.ApMessage.TheVariants.{ApReq, ApRep}
use Rattle.equality_and_copies.specs.Copied.{IsCopied}

module _ (C : ApplicationTag ApReqInner 14 → ApplicationTag ApReqInner 14 → Type 0) (D : ApplicationTag ApRepInner 15 → ApplicationTag ApRepInner 15 → Type 0) where
  abbrev pub BothRequestsOrReplies : ApMessage → ApMessage → Type 0
  BothRequestsOrReplies (ApReq v) (ApReq w) = C v w
  BothRequestsOrReplies (ApReq v) (ApRep w) = ⊥
  BothRequestsOrReplies (ApRep v) (ApReq w) = ⊥
  BothRequestsOrReplies (ApRep v) (ApRep w) = D v w

pub ap_message : {C : ApplicationTag ApReqInner 14 → ApplicationTag ApReqInner 14 → Type 0} {D : ApplicationTag ApRepInner 15 → ApplicationTag ApRepInner 15 → Type 0} → IsCopied C → IsCopied D → IsCopied (BothRequestsOrReplies C D)
ap_message request reply (ApReq v) (ApReq w) c = ap ApReq (request v w c)
ap_message request reply (ApReq v) (ApRep w) c = absurd c
ap_message request reply (ApRep v) (ApReq w) c = absurd c
ap_message request reply (ApRep v) (ApRep w) c = ap ApRep (reply v w c)
