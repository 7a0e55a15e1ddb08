-- Messages of Kerberos as tokens of a mechanism (RFC 4121, section 4.1), alone and through a service (draft-ietf-kitten-iakerb-03,
-- section 3).
use Rattle.std.specs.Prelude.{◌≡◌, ℕ, List, ◌++◌, length}
use Rattle.asn1_der.specs.Tree.{Tree, der, IsWhole}
use Rattle.asn1_der.specs.Seen.{Seen, as_is, seen_pair, seen_part}
use Rattle.gss_contexts.specs.declared.context_tokens.krb_message.KrbMessage.{KrbMessage}
use Rattle.gss_contexts.specs.declared.context_tokens.iakerb_proxy_message.IAKerbProxyMessage.{IAKerbProxyMessage}
use Rattle.gss_contexts.specs.contracts.context_tokens.iakerb_header.IAKerbHeaderSerialize.TheImpl as header_writing
use Rattle.gss_contexts.specs.contracts.context_tokens.iakerb_header.IAKerbHeaderFromDer.TheImpl as header_reading
use Rattle.gss_contexts.specs.Fronts.{Leads}
use Rattle.gss_contexts.specs.ContextTokens.{mechanism_tree, IsOfMechanism, IsTold, IsProxied, iakerb, proxy_id, told_content}

-- A first token is an element 60, whose content begins with the mechanism's identifier (RFC 2743, section 3.1; RFC 4121, section 4.1).
-- Test: `first_tokens` of `tokens.rt`.
-- In a first token a token id of two octets follows the mechanism's identifier (RFC 4121, section 4.1). Test: `first_tokens` of
-- `tokens.rt`.
-- In a first token the message follows the token id, and nothing follows the message (RFC 4121, section 4.1). Test: `KrbMessage<TgtRep>`
-- of `tokens.txt`.
abbrev pub BeginsKrbMessage : {T : Type 0} → (T → List ℕ → Type 0) → KrbMessage T → List ℕ → Type 0
BeginsKrbMessage reads m bytes =
    (inner message : List ℕ) × IsOfMechanism bytes m.krb5_oid inner × IsTold inner m.krb5_token_id message × reads m.krb_msg message

-- The octets begin with a token of IAKERB, whose content is a header and the message after it (draft-ietf-kitten-iakerb-03, section 3).
abbrev pub BeginsProxyMessage : {T : Type 0} → (T → List ℕ → Type 0) → IAKerbProxyMessage T → List ℕ → Type 0
BeginsProxyMessage reads m bytes =
    (message body : List ℕ) × IsProxied bytes message × Leads header_reading.ghosts.reads m.header message body × reads m.krb_msg body

-- what two Kerberos messages of one token have in common: mechanism, token id, and what is alike in the messages that they carry
abbrev pub seen_message : {T : Type 0} → Seen T → Seen (KrbMessage T)
seen_message seen = seen_part (λ m. (m.krb5_oid, (m.krb5_token_id, m.krb_msg))) (seen_pair as_is (seen_pair as_is seen))

-- What two IAKERB messages of one token have in common: the header, and what is alike in the messages that they carry.
abbrev pub seen_proxy_message : {T : Type 0} → Seen T → Seen (IAKerbProxyMessage T)
seen_proxy_message seen = seen_part (λ m. (m.header, m.krb_msg)) (seen_pair as_is seen)

-- The content of a Kerberos token: the mechanism, the token id and the message.
abbrev pub krb_message_content : {T : Type 0} → (T → Tree) → KrbMessage T → List ℕ
krb_message_content tree m = told_content m.krb5_oid m.krb5_token_id (der (tree m.krb_msg))

-- The content of an IAKERB token: the mechanism, the token id 05 01, the header and the message.
abbrev pub proxy_message_content : {T : Type 0} → (T → Tree) → IAKerbProxyMessage T → List ℕ
proxy_message_content tree m = told_content iakerb proxy_id (der (header_writing.ghosts.tree m.header) ++ der (tree m.krb_msg))

-- A token of which each part has an encoding (RFC 4121, section 4.1).
pub record IsWholeMessage {T : Type 0} (tree : T → Tree) (m : KrbMessage T) : Type 0 where
  pub mechanism : IsWhole (mechanism_tree m.krb5_oid)
  pub id : length m.krb5_token_id ≡ 2
  pub message : IsWhole (tree m.krb_msg)

-- A token of the IAKERB proxy of which header and message have encodings (draft-ietf-kitten-iakerb, section 3).
pub record IsWholeProxyMessage {T : Type 0} (tree : T → Tree) (m : IAKerbProxyMessage T) : Type 0 where
  pub header : IsWhole (header_writing.ghosts.tree m.header)
  pub message : IsWhole (tree m.krb_msg)
