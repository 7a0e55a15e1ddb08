-- The answers to an initiator (RFC 4121, section 4.1; RFC 4178, section 4.2.2).
use Rattle.std.specs.Prelude.{ℕ, [], ◌∷◌, ◌++◌, Option, None, Some}
use Rattle.std.specs.Option.{option_map}
use Rattle.picky_asn1.specs.Bytes.{Bytes}
use Rattle.asn1_der.specs.Length.{element}
use Rattle.krb_constants.specs.declared.gss_api.TheConstants.{ACCEPT_COMPLETE, ACCEPT_INCOMPLETE, REQUEST_MIC}
use Rattle.gss_acceptor.specs.Mechanisms.{mechanism_octets}
use Rattle.gss_acceptor.specs.Tokens.{ap_rep_token}
use Rattle.gss_acceptor.specs.declared.answer.NegState.{NegState}
use Rattle.gss_acceptor.specs.declared.answer.NegState.TheVariants.{AcceptCompleted, AcceptIncomplete, RequestMic}
use Rattle.gss_acceptor.specs.declared.mechanism.Mechanism.{Mechanism}
use Rattle.asn1_der.specs.Octets.{context_0_octet, context_1_octet, context_2_octet, context_3_octet, object_identifier_octet, octet_string_octet, sequence_octet}

-- the token of the AP-REP, if there is one (RFC 4121, section 4.1)
abbrev pub ap_rep_in : Option Bytes → Option Bytes
ap_rep_in reply = option_map ap_rep_token reply

-- the element of a negState (RFC 4178, section 4.2.2)
abbrev pub state_element : NegState → Bytes
state_element AcceptCompleted = ACCEPT_COMPLETE
state_element AcceptIncomplete = ACCEPT_INCOMPLETE
state_element RequestMic = REQUEST_MIC

-- the field negState, under the tag [0] (RFC 4178, section 4.2.2)
abbrev pub state_field : NegState → Bytes
state_field state = context_0_octet ∷ 3 ∷ state_element state

-- the field supportedMech, under the tag [1], if a mechanism is named (RFC 4178, section 4.2.2)
abbrev pub supported_field : Option Mechanism → Bytes
supported_field None = []
supported_field (Some mechanism) = element context_1_octet (element object_identifier_octet (mechanism_octets mechanism))

-- [2] responseToken or [3] mechListMIC, if there is one
abbrev pub octets_field : ℕ → Option Bytes → Bytes
octets_field tag None = []
octets_field tag (Some octets) = element tag (element octet_string_octet octets)

-- An answer of SPNEGO is a negTokenResp [1] with its state. It has the mechanism's identifier, the mechanism's token and the acceptor's
-- MIC if there are such (RFC 4178, section 4.2.2). Test: `SPNEGO: either identifier`, `Kerberos first, and no token`, `SPNEGO: another
-- mechanism`.
abbrev pub neg_token_resp : NegState → Option Mechanism → Option Bytes → Option Bytes → Bytes
neg_token_resp state supported token mic =
    element context_1_octet (element sequence_octet (state_field state ++ (supported_field supported ++ (octets_field context_2_octet token ++ octets_field context_3_octet mic))))
