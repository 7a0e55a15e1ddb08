-- The initiator's tokens of SPNEGO after the first (RFC 4178, section 4.2.2).
use Rattle.std.specs.Prelude.{Option, None, Some, is_some, Result, Ok, Err, if◌then◌else◌}
use Rattle.std.proofs.Common.{sym, ◌∙◌}
use Rattle.std.specs.Option.{option_map}
use Rattle.picky_asn1.specs.Bytes.{Bytes}
use Rattle.asn1_der.specs.Tree.{Tree, Writes, wrapped}
use Rattle.asn1_der.specs.Tagged.{tagged_tree}
use Rattle.asn1_der.proofs.Spelling.{IsInjective, wrapped-injective}
use Rattle.asn1_der.proofs.Tagged.{tagged-injective}
use Rattle.decision_tables.specs.One.{IsSole}
use Rattle.decision_tables.specs.Tables.{Table, ask, done}
use Rattle.gss_contexts.specs.declared.context_tokens.neg_token_targ.NegTokenTarg.{NegTokenTarg}
use Rattle.gss_contexts.specs.contracts.context_tokens.neg_token_targ.NegTokenTargTagged.TheImpl as targ_impl
use Rattle.gss_acceptor.specs.declared.exchange.Tokens.{Tokens}
use Rattle.gss_acceptor.specs.declared.refusal.AcceptRefusal.{AcceptRefusal}
use Rattle.gss_acceptor.specs.declared.refusal.AcceptRefusal.TheVariants.{NoMic, NotAToken}
use Rattle.asn1_der.specs.Octets.{context_1_octet, sequence_octet}

abbrev pub neg_resp_tree : NegTokenTarg → Tree
neg_resp_tree = tagged_tree sequence_octet targ_impl.ghosts.row_tree targ_impl.ghosts.row_of

neg_resp-injective : IsInjective neg_resp_tree
neg_resp-injective = tagged-injective 48 targ_impl.ghosts.row_tree targ_impl.ghosts.row_laws targ_impl.ghosts.row_of targ_impl.ghosts.one_row

-- the token is the one encoding of the message: negTokenResp [1]
abbrev pub IsNegResp : Bytes → NegTokenTarg → Type 0
IsNegResp token message = Writes (λ (m : NegTokenTarg). wrapped context_1_octet (neg_resp_tree m)) message token

pub sole_neg_resp : (token : Bytes) → IsSole (IsNegResp token)
sole_neg_resp token v w p q = wrapped-injective context_1_octet neg_resp_tree neg_resp-injective v w p.0 q.0 (sym p.1 ∙ q.1)

-- the message's tokens
-- Not judged: the state that the initiator's message names. Test: `The state that the initiator tells isn't judged.`.
abbrev pub tokens_in : NegTokenTarg → Result Tokens AcceptRefusal
tokens_in message =
    -- A later message of the initiator names no mechanism: only the acceptor's first one does (RFC 4178, section 4.2.2). Test: `Not the
    -- token that is due.`.
    if is_some message.supported_mech.0 then Err NotAToken
    else Ok (record { mechanism = option_map (λ token. token.0) message.response_token.0; mic = option_map (λ mic. mic.0) message.mech_list_mic.0 })

-- the tokens of a message after the first
unfoldable pub responded : Bytes → Table (Result Tokens AcceptRefusal)
responded token =
    -- A later token is the DER encoding of a NegTokenResp (RFC 4178, section 4.2.2). Test: `Not the token that is due.`.
    ask (IsNegResp token) (sole_neg_resp token) (done (Err NotAToken)) (λ message. done (tokens_in message))

abbrev pub mic_there : Option Bytes → Result Bytes AcceptRefusal
-- The message has the initiator's MIC where it is due (RFC 4178, section 5). Test: `Wrong MICs: of another list,`.
mic_there None = Err NoMic
mic_there (Some mic) = Ok mic

-- the MIC of a message that has to have it, and no token of the mechanism
abbrev pub due_mic : Tokens → Result Bytes AcceptRefusal
-- Where a MIC alone is due, the message has no token of the mechanism (RFC 4178, section 5). Test: `Where the initiator's MIC is due,`.
due_mic tokens = if is_some tokens.mechanism then Err NotAToken else mic_there tokens.mic
