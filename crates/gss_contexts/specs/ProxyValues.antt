-- A forwarded message is distinguished by a row: mechanism, token id, header and message.
use Rattle.std.specs.Prelude.{ℕ, List, [], ◌∷◌, ⊤}
use Rattle.asn1_der.specs.Tree.{Trees}
use Rattle.asn1_der.specs.Tagged.{sequence}
use Rattle.asn1_der.specs.Seen.{Seen, as_is, by, Alike, seen_pair}
use Rattle.asn1_der.proofs.Spelling.{may_begin-only}
use Rattle.asn1_der.proofs.Rows.{AreInjectiveAs}
use Rattle.asn1_der.proofs.Tagged.{TagLawsAs, sequence_laws_as}
use Rattle.asn1_codec.specs.declared.octet_pair.OctetPair.{OctetPair}
use Rattle.gss_contexts.specs.declared.context_tokens.iakerb_proxy_message.IAKerbProxyMessage.{IAKerbProxyMessage}
use Rattle.gss_contexts.specs.declared.context_tokens.proxy_value.IAKerbMechanism.{IAKerbMechanism}
use Rattle.gss_contexts.specs.declared.context_tokens.proxy_value.StrictHeader.{StrictHeader}
use Rattle.gss_contexts.specs.ContextTokens.{proxy_id}
use Rattle.gss_contexts.specs.KrbMessages.{seen_proxy_message}

-- the mechanism IAKERB as content octets (X.690, section 8.19)
abbrev pub iakerb_octets : List ℕ
iakerb_octets = 0x2B ∷ 6 ∷ 1 ∷ 5 ∷ 2 ∷ 5 ∷ []

abbrev pub ProxyRow : Type 0 → Type 0
ProxyRow T = IAKerbMechanism × (OctetPair × (StrictHeader × (T × ⊤)))

abbrev pub proxy_row : {T : Type 0} → IAKerbProxyMessage T → ProxyRow T
proxy_row m = (record {}, (record { 0 = proxy_id }, (record { 0 = m.header }, (m.krb_msg, tt))))

abbrev pub seen_row : {T : Type 0} → Seen T → Seen (ProxyRow T)
seen_row seen = seen_pair as_is (seen_pair as_is (seen_pair as_is (seen_pair seen as_is)))

one-proxy : {T : Type 0} (seen : Seen T) (v w : IAKerbProxyMessage T) → Alike (seen_row seen) (proxy_row v) (proxy_row w) → Alike (seen_proxy_message seen) v w
one-proxy as_is v w e = λ i. record { header = (e i).1.1.0.0; krb_msg = (e i).1.1.1.0 }
one-proxy (by V view) v w e = λ i. ((e i).1.1.0.0, (e i).1.1.1.0)

pub proxy_laws : {T : Type 0} (seen : Seen T) (trees : ProxyRow T → Trees) → AreInjectiveAs (Alike (seen_row seen)) trees
    → TagLawsAs (Alike (seen_proxy_message seen)) (λ octet (m : IAKerbProxyMessage T). sequence trees octet (proxy_row m))
proxy_laws seen trees injective =
    let laws = sequence_laws_as (Alike (seen_row seen)) trees injective in
    record {
      begins = λ octet m. may_begin-only octet;
      injective = λ octet v w whole also e. one-proxy seen v w (laws.injective octet (proxy_row v) (proxy_row w) whole also e);
    }
