-- What a first token of SPNEGO offers (RFC 4178, section 4.2.1).
use Rattle.std.specs.Prelude.{◌≡◌, ◌⊎◌, List, Bool, not, None, Result, Ok, Err, if◌then◌else◌}
use Rattle.std.proofs.Common.{sym, ◌∙◌}
use Rattle.std.specs.Option.{option_map, option_map_or}
use Rattle.std.specs.Bool.{nat_eq}
use Rattle.std.specs.Cmp.Lexicographic.{pointwise}
use Rattle.picky_asn1.specs.Bytes.{Bytes}
use Rattle.picky_asn1.specs.declared.wrapper.ObjectIdentifierAsn1.{ObjectIdentifierAsn1}
use Rattle.asn1_leaves.specs.ObjectIdentifier.{is_object_identifier, oid_content}
use Rattle.asn1_der.specs.Tree.{Tree, Writes, constructed, der, leaf, trees_of}
use Rattle.asn1_der.specs.Tagged.{tagged_tree}
use Rattle.asn1_der.proofs.Tagged.{tagged-injective}
use Rattle.decision_tables.specs.One.{IsSole}
use Rattle.decision_tables.specs.Tables.{Table, ask, done}
use Rattle.gss_contexts.specs.declared.context_tokens.gss_api_neg_init.GssApiNegInit.{GssApiNegInit}
use Rattle.gss_contexts.specs.declared.context_tokens.neg_token_init.NegTokenInit.{NegTokenInit}
use Rattle.gss_contexts.specs.contracts.context_tokens.gss_api_neg_init.GssApiNegInitTagged.TheImpl as neg_init_impl
use Rattle.gss_acceptor.specs.Mechanisms.{is_first, kerberos_among, spnego_octets}
use Rattle.gss_acceptor.specs.declared.exchange.Tokens.{Tokens}
use Rattle.gss_acceptor.specs.declared.mechanism.Mechanism.{Mechanism}
use Rattle.gss_acceptor.specs.declared.negotiation.Offer.{Offer}
use Rattle.gss_acceptor.specs.declared.refusal.AcceptRefusal.{AcceptRefusal}
use Rattle.gss_acceptor.specs.declared.refusal.AcceptRefusal.TheVariants.{NoKerberos, NotAToken, Memory}
use Rattle.asn1_der.specs.Octets.{object_identifier_octet, sequence_octet}
use Rattle.krb_constants.specs.declared.gss_api.TheConstants.{INITIAL_TOKEN}

-- the DER tree of a first token of SPNEGO, under the tag [APPLICATION 0] (RFC 2743, section 3.1)
abbrev pub neg_init_tree : GssApiNegInit → Tree
neg_init_tree = tagged_tree INITIAL_TOKEN neg_init_impl.ghosts.row_tree neg_init_impl.ghosts.row_of

-- the token is the one encoding of the message
abbrev pub IsNegInit : Bytes → GssApiNegInit → Type 0
IsNegInit token message = Writes neg_init_tree message token

pub sole_neg_init : (token : Bytes) → IsSole (IsNegInit token)
sole_neg_init token v w p q =
    tagged-injective INITIAL_TOKEN neg_init_impl.ghosts.row_tree neg_init_impl.ghosts.row_laws neg_init_impl.ghosts.row_of neg_init_impl.ghosts.one_row v w p.0 q.0 (sym p.1 ∙ q.1)

-- the identifier is SPNEGO's
abbrev pub is_spnego : ObjectIdentifierAsn1 → Bool
is_spnego identifier = pointwise nat_eq (oid_content identifier.0) spnego_octets

-- an identifier of the MechTypeList
abbrev pub mech_type_tree : ObjectIdentifierAsn1 → Tree
mech_type_tree identifier = leaf (is_object_identifier identifier.0) object_identifier_octet (oid_content identifier.0)

-- MICs are over the DER encoding of the MechTypeList (RFC 4178, section 5). Test: `SPNEGO: another mechanism`, `MICs that aren't due,`.
abbrev pub mech_types_octets : List ObjectIdentifierAsn1 → Bytes
mech_types_octets list = der (constructed sequence_octet (trees_of mech_type_tree list))

-- the tokens, if Kerberos is the first mechanism
-- Ignored: the optimistic token of another mechanism, which is the first (RFC 4178, section 4.2.1). Test: `SPNEGO: another mechanism`,
-- `Higher numbers,`.
abbrev pub optimistic : Bool → Tokens → Tokens
optimistic first tokens = if first then tokens else record { mechanism = None; mic = None }

-- MICs of the list of mechanisms are due if Kerberos isn't the first of them (RFC 4178, section 5). Test: `SPNEGO: another mechanism`,
-- `SPNEGO: either identifier`.
abbrev pub offer_by : Mechanism → List ObjectIdentifierAsn1 → Tokens → Offer
offer_by mechanism list tokens = record {
  mechanism = mechanism;
  terms = record { list = mech_types_octets list; required = not (is_first list) };
  tokens = optimistic (is_first list) tokens;
}

-- what a list of mechanisms and these tokens offer
abbrev pub offer_among : List ObjectIdentifierAsn1 → Tokens → Result Offer AcceptRefusal
-- Kerberos is among the mechanisms that SPNEGO offers (RFC 4178, section 4.2.1). Test: `other mechanisms, no mechanism, another token, and
-- octets after it.`.
offer_among list tokens = option_map_or (λ mechanism. Ok (offer_by mechanism list tokens)) (kerberos_among list) (Err NoKerberos)

-- the tokens of a NegTokenInit: mechToken and mechListMIC (RFC 4178, section 4.2.1)
abbrev pub tokens_of : NegTokenInit → Tokens
tokens_of init = record { mechanism = option_map (λ token. token.0) init.mech_token.0; mic = option_map (λ mic. mic.0) init.mech_list_mic.0 }

-- what a NegTokenInit offers (RFC 4178, section 4.2.1)
abbrev pub offer_of : NegTokenInit → Result Offer AcceptRefusal
offer_of init = option_map_or (λ list. offer_among list.0 (tokens_of init)) init.mech_types.0 (Err NoKerberos)

-- what a first token of SPNEGO offers, or that it is none
abbrev pub offer_in : GssApiNegInit → Result Offer AcceptRefusal
offer_in message = if is_spnego message.oid then offer_of message.neg_token_init.0 else Err NotAToken

-- what a token offers
unfoldable pub offered : Bytes → Table (Result Offer AcceptRefusal)
offered token =
    -- A first token of SPNEGO is the DER encoding of a NegTokenInit after SPNEGO's identifier (RFC 4178, sections 4.2 and 4.2.1). Test:
    -- `No such tokens.`, `other mechanisms, no mechanism, another token, and octets after it.`.
    ask (IsNegInit token) (sole_neg_init token) (done (Err NotAToken)) (λ message. done (offer_in message))

-- memory ran out, or this is given
abbrev pub IsRead : {T : Type 0} → (Result T AcceptRefusal → Type 0) → Result T AcceptRefusal → Type 0
IsRead gives result = (result ≡ Err Memory) ⊎ gives result
