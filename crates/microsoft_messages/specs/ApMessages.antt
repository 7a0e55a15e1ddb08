-- An AP request or reply (RFC 4120, section 5.5) as one of two alternatives.
use Rattle.std.specs.Prelude.{◌≡◌, refl}
use Rattle.picky_asn1_der.specs.declared.application_tag.ApplicationTag.{ApplicationTag}
use Rattle.picky_asn1_der.specs.declared.choice.Choice.{Choice}
use Rattle.picky_asn1_der.specs.declared.choice.Choice.TheVariants.{This, Other}
use Rattle.picky_asn1_der.specs.declared.choice.Last.{Last}
use Rattle.krb_messages.specs.declared.messages.ap_req.ApReqInner.{ApReqInner}
use Rattle.krb_messages.specs.declared.messages.ap_rep.ApRepInner.{ApRepInner}
use Rattle.microsoft_messages.specs.declared.ap_message.ApMessage.{ApMessage}
use Rattle.microsoft_messages.specs.declared.ap_message.ApMessage.TheVariants.{ApReq, ApRep}

abbrev pub ap_choice : ApMessage → Choice (ApplicationTag ApReqInner 14) (Last (ApplicationTag ApRepInner 15))
ap_choice (ApReq request) = This request
ap_choice (ApRep reply) = Other (record { 0 = reply })

abbrev pub ap_made : Choice (ApplicationTag ApReqInner 14) (Last (ApplicationTag ApRepInner 15)) → ApMessage
ap_made (This request) = ApReq request
ap_made (Other last) = ApRep last.0

pub ap_back : (v : ApMessage) → ap_made (ap_choice v) ≡ v
ap_back (ApReq request) = refl
ap_back (ApRep reply) = refl
