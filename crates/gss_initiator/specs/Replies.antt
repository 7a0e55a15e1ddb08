-- What an initiator takes as the acceptor's token of Kerberos (RFC 4121, section 4.1; RFC 4120, section 3.2.5): the first case that holds
-- counts.
use Rattle.std.specs.Prelude.{◌≡◌, ◌⊎◌, [], ◌∷◌, ◌++◌, not, drop, Result, Ok, Err}
use Rattle.std.proofs.Common.{ap, sym, ◌∙◌}
use Rattle.picky_asn1.specs.Bytes.{Bytes}
use Rattle.asn1_der.specs.Length.{element}
use Rattle.asn1_der.proofs.Elements.{element-one}
use Rattle.krb_constants.specs.declared.types.TheConstants.{AP_REP_MSG_TYPE}
use Rattle.krb_messages.specs.declared.data_types.enc_ap_rep_part.EncApRepPartInner.{EncApRepPartInner}
use Rattle.krb_messages.specs.declared.messages.ap_rep.ApRepInner.{ApRepInner}
use Rattle.krb_messages.specs.Messages.{IsApRep, sole_ap_rep}
use Rattle.decision_tables.specs.One.{IsSole}
use Rattle.decision_tables.specs.Tables.{Table, and_then, ask, done, refuse}
use Rattle.krb_client.specs.ApReply.{IsApPart, sole_ap_part, tells}
use Rattle.krb_client.specs.Asked.{ApAskedRecord}
use Rattle.krb_client.specs.Messages.{IsErrorCode, sole_error_code}
use Rattle.krb_client.specs.Taking.{is_of_type}
use Rattle.gss_contexts.specs.Contexts.{ContextRecord}
use Rattle.gss_acceptor.specs.Tokens.{ap_rep_front}
use Rattle.gss_initiator.specs.Contexts.{context_by}
use Rattle.gss_initiator.specs.declared.initiated.Pending.{Pending}
use Rattle.gss_initiator.specs.declared.refusal.InitiateRefusal.{InitiateRefusal}
use Rattle.gss_initiator.specs.declared.refusal.InitiateRefusal.TheVariants.{Memory, NotAToken, NotAsked, NotSealed, Refused}
use Rattle.krb_constants.specs.declared.gss_api.TheConstants.{INITIAL_TOKEN}

-- the token of a message: an element 60 with the mechanism's identifier and the token id in front of the message, and nothing follows it
abbrev pub IsTokenOf : Bytes → Bytes → Bytes → Type 0
IsTokenOf front token message = token ≡ element INITIAL_TOKEN (front ++ message)

-- the front of a KRB-ERROR's token, whose id is 03 00 (RFC 4121, section 4.1)
abbrev pub error_front : Bytes
error_front = 6 ∷ 9 ∷ 42 ∷ 134 ∷ 72 ∷ 134 ∷ 247 ∷ 18 ∷ 1 ∷ 2 ∷ 2 ∷ 3 ∷ 0 ∷ []

-- a token holds one message at most
sole_in : (front token a b : Bytes) → IsTokenOf front token a → IsTokenOf front token b → front ++ a ≡ front ++ b
sole_in front token a b x y =
    let tokens : element INITIAL_TOKEN (front ++ a) ++ [] ≡ element INITIAL_TOKEN (front ++ b) ++ [] = ap (λ (t : Bytes). t ++ []) (sym x ∙ y) in
    (element-one INITIAL_TOKEN INITIAL_TOKEN (front ++ a) (front ++ b) [] [] tokens).1

pub sole_reply : (token : Bytes) → IsSole (IsTokenOf ap_rep_front token)
sole_reply token a b x y = ap (drop 13) (sole_in ap_rep_front token a b x y)

pub sole_error : (token : Bytes) → IsSole (IsTokenOf error_front token)
sole_error token a b x y = ap (drop 13) (sole_in error_front token a b x y)

-- memory ran out, or this is given
abbrev pub IsRead : {T : Type 0} → (Result T InitiateRefusal → Type 0) → Result T InitiateRefusal → Type 0
IsRead gives result = (result ≡ Err Memory) ⊎ gives result

abbrev pub Part : Type 0
Part = Result EncApRepPartInner InitiateRefusal

-- the decrypted part of an AP-REP
abbrev pub told : ApAskedRecord → EncApRepPartInner → Table Part
told asked part =
    -- The ctime and cusec of EncAPRepPart are those of the request's authenticator: an AP-REP to another request is refused (RFC 4120,
    -- section 3.2.5). Test: `take NotAsked`.
    refuse (not (tells asked.time part)) NotAsked
    (done (Ok part))

-- an AP-REP
abbrev pub opened : ApAskedRecord → ApRepInner → Table Part
opened asked reply =
    -- The AP-REP's pvno is 5, and its msg-type is KRB_AP_REP (RFC 4120, section 5.5.2). Test: `take NotAToken`.
    refuse (not (is_of_type AP_REP_MSG_TYPE reply.pvno.0 reply.msg_type.0)) NotAToken
    -- The enc-part decrypts under the session key for key usage 12 (RFC 4120, sections 3.2.5 and 7.5.1). Test: `take NotSealed`.
    (ask (IsApPart asked reply.enc_part.0) (sole_ap_part asked reply.enc_part.0) (done (Err NotSealed))
    (told asked))

-- the message of an AP-REP's token
abbrev pub replied : ApAskedRecord → Bytes → Table Part
replied asked message =
    -- The message is the DER encoding of one AP-REP (RFC 4120, section 5.5.2). Test: `take NotAToken`.
    ask (IsApRep message) (sole_ap_rep message) (done (Err NotAToken)) (opened asked)

-- the message of an error's token
abbrev pub failed : Bytes → Table Part
failed message =
    -- The message is the DER encoding of one KRB-ERROR. Its error-code is then the refusal (Refused) (RFC 4120, section 5.9.1; RFC 4121,
    -- section 4.1). Test: `take NotAToken`, `take Refused(37)`.
    ask (IsErrorCode message) (sole_error_code message) (done (Err NotAToken)) (λ code. done (Err (Refused code)))

-- a token that has no AP-REP
unfoldable pub by_error : Bytes → Table Part
by_error token =
    -- A token without an AP-REP is that of a KRB-ERROR, with the token id 03 00 (RFC 4121, section 4.1). Test: `take NotAToken`.
    ask (IsTokenOf error_front token) (sole_error token) (done (Err NotAToken)) failed

-- the part of the AP-REP in a token
unfoldable pub answered : ApAskedRecord → Bytes → Table Part
answered asked token =
    -- The acceptor's token is that of an AP-REP, with the token id 02 00, or of a KRB-ERROR (RFC 4121, section 4.1). Test: `take ok`,
    -- `take Refused(37)`, `take NotAToken`.
    ask (IsTokenOf ap_rep_front token) (sole_reply token) (by_error token) (replied asked)

-- the context that the token makes of a pending one
abbrev pub ended : Pending → Bytes → Table (Result ContextRecord InitiateRefusal)
ended pending token = and_then (answered pending.asked token) (λ part. done (context_by pending part))
