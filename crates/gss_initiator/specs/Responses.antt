-- What an initiator takes as the acceptor's answer of SPNEGO (RFC 4178, section 4.2.2).
use Rattle.std.specs.Prelude.{not, is_some, Bool, true, false, Option, None, Some, Result, Ok, Err, if◌then◌else◌}
use Rattle.std.specs.Bool.{nat_eq}
use Rattle.std.specs.Cmp.Lexicographic.{pointwise}
use Rattle.std.specs.Option.{option_map}
use Rattle.picky_asn1.specs.Bytes.{Bytes}
use Rattle.asn1_der.specs.Length.{element}
use Rattle.picky_asn1_der.specs.Raw.{Raw}
use Rattle.picky_asn1_der.specs.declared.wrapper.ExplicitContextTag.{ExplicitContextTag}
use Rattle.picky_asn1.specs.declared.wrapper.ObjectIdentifierAsn1.{ObjectIdentifierAsn1}
use Rattle.decision_tables.specs.Tables.{Table, and_then, ask, done, refuse}
use Rattle.krb_constants.specs.declared.gss_api.TheConstants.{ACCEPT_COMPLETE, ACCEPT_INCOMPLETE, REJECT, REQUEST_MIC}
use Rattle.gss_contexts.specs.Contexts.{ContextRecord}
use Rattle.gss_contexts.specs.declared.context_tokens.neg_token_targ.NegTokenTarg.{NegTokenTarg}
use Rattle.gss_acceptor.specs.Mechanisms.{kerberos_in}
use Rattle.gss_acceptor.specs.Responses.{IsNegResp, sole_neg_resp}
use Rattle.gss_initiator.specs.Contexts.{own_context, then_judged}
use Rattle.gss_initiator.specs.Replies.{ended}
use Rattle.gss_initiator.specs.declared.initiated.Pending.{Pending}
use Rattle.gss_initiator.specs.declared.refusal.InitiateRefusal.{InitiateRefusal}
use Rattle.gss_initiator.specs.declared.refusal.InitiateRefusal.TheVariants.{NotAToken, OtherMechanism, Rejected}
use Rattle.gss_initiator.specs.declared.response.Answer.{Answer}
use Rattle.gss_initiator.specs.declared.heard.Heard.{Heard}

-- the octets are these
abbrev pub is_as : Bytes → Bytes → Bool
is_as octets expected = pointwise nat_eq octets expected

-- A further token of the initiator is due by the negState accept-incomplete (1) or request-mic (3), and none by accept-completed (0) (RFC
-- 4178, section 4.2.2). Test: `The acceptor's MIC: where the initiator's is due, it is answered.`, `take NoMic`.
abbrev pub due_by : Bytes → Result Bool InitiateRefusal
due_by octets =
    if is_as octets ACCEPT_COMPLETE then Ok false
    else if is_as octets ACCEPT_INCOMPLETE then Ok true
    else if is_as octets REQUEST_MIC then Ok true
    -- An answer whose negState is reject (2) is refused as a rejection (RFC 4178, section 4.2.2). Test: `take Rejected`.
    else if is_as octets REJECT then Err Rejected
    -- The negState is 0, 1, 2 or 3: another number is none (RFC 4178, section 4.2.2). Test: `take NotAToken`.
    else Err NotAToken

-- whether a further token of the initiator is due, by the field negState
abbrev pub due_in : Option (ExplicitContextTag 0 Raw) → Result Bool InitiateRefusal
-- The acceptor's first answer has a negState (RFC 4178, section 4.2.2). Test: `take NotAToken`.
due_in None = Err NotAToken
due_in (Some state) = due_by (element state.0.first state.0.content)

-- a mechanism is named, and it isn't Kerberos
abbrev pub names_other : Option (ExplicitContextTag 1 ObjectIdentifierAsn1) → Bool
names_other None = false
names_other (Some mechanism) = not (is_some (kerberos_in mechanism.0))

-- The mechanism that the acceptor names is Kerberos, by either identifier (RFC 4178, section 4.2.2). Test: `take OtherMechanism`, `In
-- SPNEGO, by either identifier or none`.
abbrev pub judged_answer : NegTokenTarg → Result Bool InitiateRefusal
judged_answer message = then_judged (due_in message.neg_result.0) (λ due. if names_other message.supported_mech.0 then Err OtherMechanism else Ok due)

-- what the message says, with its tokens
abbrev pub answer_in : NegTokenTarg → Result Answer InitiateRefusal
answer_in message = then_judged (judged_answer message) (λ due. Ok (record {
  is_due = due;
  token = option_map (λ token. token.0) message.response_token.0;
  mic = option_map (λ mic. mic.0) message.mech_list_mic.0;
}))

-- what the acceptor's answer of SPNEGO says, or its refusal
unfoldable pub responded : Bytes → Table (Result Answer InitiateRefusal)
responded token =
    -- The answer is the DER encoding of a NegTokenResp (RFC 4178, section 4.2.2). Test: `take NotAToken`.
    ask (IsNegResp token) (sole_neg_resp token) (done (Err NotAToken)) (λ message. done (answer_in message))

-- the context that the answer's token makes
abbrev pub settled_with : Pending → Bytes → Table (Result ContextRecord InitiateRefusal)
settled_with pending token =
    -- The answer has Kerberos' token only where mutual authentication was asked for (RFC 4121, section 4.1). Test: `take NotAToken`.
    refuse (not pending.is_mutual) NotAToken (ended pending token)

-- the context of an answer without such a token
abbrev pub settled_without : Pending → Table (Result ContextRecord InitiateRefusal)
settled_without pending =
    -- Where mutual authentication was asked for, the answer has Kerberos' token (RFC 4121, section 4.1). Test: `take NotAToken`.
    refuse pending.is_mutual NotAToken (done (own_context pending))

-- the context, by the answer's token if there is one
abbrev pub settled : Pending → Option Bytes → Table (Result ContextRecord InitiateRefusal)
settled pending None = settled_without pending
settled pending (Some token) = settled_with pending token

-- the context of an answer, whether a further token of the initiator is due, and the acceptor's MIC
abbrev pub settled_by : Pending → Answer → Table (Result Heard InitiateRefusal)
settled_by pending answer = and_then (settled pending answer.token) (λ context. done (Ok (record { context = context; is_due = answer.is_due; mic = answer.mic })))

-- the context of the acceptor's answer of SPNEGO, whether a further token is due, and the acceptor's MIC
abbrev pub negotiated : Pending → Bytes → Table (Result Heard InitiateRefusal)
negotiated pending token = and_then (responded token) (settled_by pending)
