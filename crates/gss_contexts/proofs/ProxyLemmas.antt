-- Reading and writing a forwarded message as a value of DER.
use Rattle.std.proofs.Common.{◌≡◌, ℕ, List, [], ◌∷◌, ◌++◌, refl, sym, ap, ◌∙◌, append-nil}
use Rattle.std.proofs.lemmas.List.{append_cancel_left}
use Rattle.std.specs.Prelude.{⊤}
use Rattle.asn1_der.specs.Tree.{Tree, Trees, primitive, more, none, der, ders, AreWhole}
use Rattle.asn1_der.specs.Length.{element}
use Rattle.asn1_der.specs.Tagged.{sequence}
use Rattle.asn1_der.specs.declared.error.Asn1DerError.{Asn1DerError}
use Rattle.asn1_der.specs.declared.error.Asn1DerError.TheVariants.{InvalidData}
use Rattle.asn1_der.proofs.Elements.{element-one}
use Rattle.asn1_codec.specs.Pairs.{pair_before}
use Rattle.asn1_codec.specs.PairLaws.{pair-injective}
use Rattle.asn1_codec.specs.Reading.{Reading, TookValue, IsSpelling, Refused, stopped}
use Rattle.asn1_codec.proofs.Chain.{refused-taken}
use Rattle.asn1_leaves.specs.ObjectIdentifier.{oid_content, subidentifier}
use Rattle.x509_oids.specs.Identifiers.{iakerb5}
use Rattle.gss_contexts.specs.declared.context_tokens.iakerb_proxy_message.IAKerbProxyMessage.{IAKerbProxyMessage}
use Rattle.gss_contexts.specs.declared.context_tokens.proxy_value.StrictHeader.{StrictHeader}
use Rattle.gss_contexts.specs.ContextTokens.{mechanism_tree, iakerb, proxy_id}
use Rattle.gss_contexts.specs.ProxyValues.{iakerb_octets, ProxyRow, proxy_row}

module _ {T : Type 0} (header_tree : StrictHeader → Tree) (message_tree : T → Tree) where
  abbrev behind_id : StrictHeader × (T × ⊤) → Trees
  behind_id f = more (header_tree f.0) (more (message_tree f.1.0) none)

  abbrev row_trees : ProxyRow T → Trees
  row_trees r = more (primitive 6 iakerb_octets) (pair_before r.1.0.0 (behind_id r.1.1))

  same-id : (row other : ProxyRow T) → AreWhole (row_trees row) → AreWhole (row_trees other) → ders (row_trees row) ≡ ders (row_trees other) → row.1.0.0 ≡ other.1.0.0
  same-id row other whole also e =
      let later = append_cancel_left (element 6 iakerb_octets) (ders (pair_before row.1.0.0 (behind_id row.1.1))) (ders (pair_before other.1.0.0 (behind_id other.1.1))) e in
      (pair-injective (λ _ _. ⊤) behind_id (λ x y x_whole y_whole same. tt) row.1.0.0 other.1.0.0 row.1.1 other.1.1 whole.1 also.1 later).0

  -- a row with another token id is that of no message
  pub proxy-refused : (octet : ℕ) (row : ProxyRow T) (old mid : Reading) → TookValue (sequence row_trees octet) row old mid → (new : Reading) (e : Asn1DerError)
      → new ≡ stopped mid → e ≡ InvalidData → (row.1.0.0 ≡ proxy_id → ⊥)
      → Refused (IsSpelling (λ (m : IAKerbProxyMessage T). sequence row_trees octet (proxy_row m))) old new e
  proxy-refused octet row old mid took new e after fault differs =
      refused-taken (IsSpelling (λ (m : IAKerbProxyMessage T). sequence row_trees octet (proxy_row m))) (der (sequence row_trees octet row)) old mid new e InvalidData
      took.1 after fault tt
      (λ bytes rest others (m, writes) split within.
      let text : element octet (ders (row_trees row)) ++ others ≡ element octet (ders (row_trees (proxy_row m))) ++ rest =
      sym split ∙ ap (λ (t : List ℕ). t ++ rest) writes.1 in
      let same = (element-one octet octet (ders (row_trees row)) (ders (row_trees (proxy_row m))) others rest text).1 in
      differs (same-id row (proxy_row m) took.0 writes.0 same))

iakerb_content : oid_content iakerb5 ≡ iakerb_octets
unfolding oid_content subidentifier
iakerb_content = refl

-- a message after its header, as it is in a SEQUENCE
pub proxy-value : (header message : List ℕ) (octet : ℕ)
    → element octet (element 6 iakerb_octets ++ (5 ∷ (1 ∷ (header ++ (message ++ []))))) ≡ element octet (der (mechanism_tree iakerb) ++ (proxy_id ++ (header ++ message)))
proxy-value header message octet =
    λ i. element octet (element 6 (sym iakerb_content i) ++ (5 ∷ (1 ∷ (header ++ append-nil message i))))
