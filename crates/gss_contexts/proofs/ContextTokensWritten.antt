-- What is written is read again.
use Rattle.std.proofs.Common.{◌≡◌, ℕ, Bool, true, false, List, [], ◌∷◌, ◌++◌, Option, None, Some, refl, ap, ◌∙◌}
use Rattle.std.specs.Prelude.{IsTrue}
use Rattle.asn1_der.specs.Tree.{Tree, Trees, none, put, der, ders, IsWhole, AreWhole, Writes, wrapped}
use Rattle.asn1_der.specs.Length.{element}
use Rattle.asn1_der.specs.Firsts.{Firsts, only, may_begin, apart}
use Rattle.asn1_der.specs.Tagged.{leaf_as}
use Rattle.asn1_der.proofs.Spelling.{der-first, der-begins, wrapped-begins}
use Rattle.asn1_der.proofs.Rows.{AllBeginAmong, apart-none}
use Rattle.picky_asn1.specs.BitString.{Bits}
use Rattle.picky_asn1.specs.contracts.encoding.bit_string.BitStringAsn1Leaf.TheImpl as bits
use Rattle.picky_asn1.specs.contracts.encoding.octet_string.OctetStringAsn1Leaf.TheImpl as octets
use Rattle.picky_asn1_der.specs.declared.wrapper.ExplicitContextTag.{ExplicitContextTag}
use Rattle.gss_contexts.specs.declared.context_tokens.krb_message.KrbMessage.{KrbMessage}
use Rattle.gss_contexts.specs.declared.context_tokens.iakerb_header.IAKerbHeader.{IAKerbHeader}
use Rattle.gss_contexts.specs.declared.context_tokens.iakerb_proxy_message.IAKerbProxyMessage.{IAKerbProxyMessage}
use Rattle.gss_contexts.specs.contracts.context_tokens.iakerb_header.IAKerbHeaderSerialize.TheImpl as header_writing
use Rattle.gss_contexts.specs.contracts.context_tokens.iakerb_header.IAKerbHeaderFromDer.TheImpl as header_reading
use Rattle.gss_contexts.specs.Fronts.{LeadsOptional, begins}
use Rattle.gss_contexts.specs.ContextTokens.{mechanism_tree, iakerb, proxy_id, token_bytes}
use Rattle.gss_contexts.specs.KrbMessages.{BeginsKrbMessage, BeginsProxyMessage, IsWholeMessage, IsWholeProxyMessage, krb_message_content, proxy_message_content}

pub message-written : {T : Type 0} (tree : T → Tree) (m : KrbMessage T) (rest : List ℕ) → IsWholeMessage tree m
    → BeginsKrbMessage (Writes tree) m (token_bytes (krb_message_content tree m) ++ rest)
message-written tree m rest whole = (
  m.krb5_token_id ++ der (tree m.krb_msg),
  der (tree m.krb_msg),
  (krb_message_content tree m, (rest, refl), (der (mechanism_tree m.krb5_oid), (whole.mechanism, refl), refl)),
  (refl, whole.id),
  (whole.message, refl),
)

pub message-only : {T : Type 0} (tree : T → Tree) (m : KrbMessage T) (bytes : List ℕ) → BeginsKrbMessage (Writes tree) m bytes
    → IsWholeMessage tree m × (rest : List ℕ) × (bytes ≡ token_bytes (krb_message_content tree m) ++ rest)
message-only tree m bytes (inner, message, (content, (rest, is), (front, (whole, front_is), content_is)), (inner_is, two), (also, message_is)) =
    let body : inner ≡ m.krb5_token_id ++ der (tree m.krb_msg) = inner_is ∙ ap (λ (t : List ℕ). m.krb5_token_id ++ t) message_is in
    let all : content ≡ krb_message_content tree m =
    content_is ∙ ap (λ (t : List ℕ). t ++ inner) front_is ∙ ap (λ (t : List ℕ). der (mechanism_tree m.krb5_oid) ++ t) body in
    (record { mechanism = whole; id = two; message = also }, rest, is ∙ ap (λ (t : List ℕ). element 96 t ++ rest) all)

-- a spelling begins with one of its type's octets
begins-true : (firsts : Firsts) (octet : ℕ) (rest bytes : List ℕ) → bytes ≡ octet ∷ rest → IsTrue (may_begin firsts octet) → begins firsts bytes ≡ true
begins-true firsts octet rest bytes is first = ap (begins firsts) is ∙ first

spelled-begins : {T : Type 0} (firsts : Firsts) (tree : T → Tree) → AllBeginAmong firsts tree → (v : T) → IsWhole (tree v) → (x : List ℕ)
    → (octet : ℕ) × (rest : List ℕ) × (der (tree v) ++ x ≡ octet ∷ rest) × IsTrue (may_begin firsts octet)
spelled-begins firsts tree all v whole x =
    let first = der-first (tree v) whole in
    let text : der (tree v) ++ x ≡ first.octet ∷ (first.rest ++ x) = ap (λ (t : List ℕ). t ++ x) first.is in
    (first.octet, first.rest ++ x, text, der-begins firsts (tree v) whole (all v) first.octet (first.rest ++ x) x text)

only_false : (b : Bool) → (b ≡ true → ⊥) → b ≡ false
only_false true never = absurd (never refl)
only_false false never = refl

-- the last field, which may be missing, and nothing behind it
last-leads : {C : Type 0} (fc : Firsts) (tc : C → Tree) → AllBeginAmong fc tc → (c : Option C) → AreWhole (put tc c none) → LeadsOptional fc (Writes tc) c (ders (put tc c none)) []
last-leads fc tc all None whole = (refl, refl)
last-leads fc tc all (Some v) whole =
    let front = spelled-begins fc tc all v whole.0 [] in
    (begins-true fc front.0 front.1 (der (tc v) ++ []) front.2 front.3, (der (tc v), (whole.0, refl), refl))

-- no field of another type begins there
not-begun : {C : Type 0} (fb fc : Firsts) (tc : C → Tree) → AllBeginAmong fc tc → apart fb fc ≡ true → (c : Option C) → AreWhole (put tc c none) → begins fb (ders (put tc c none)) ≡ false
not-begun fb fc tc all distinct None whole = refl
not-begun fb fc tc all distinct (Some v) whole =
    let front = spelled-begins fc tc all v whole.0 [] in
    ap (begins fb) front.2 ∙ only_false (may_begin fb front.0) (λ also. apart-none fb fc front.0 distinct also front.3)

middle-leads : {B C : Type 0} (fb : Firsts) (tb : B → Tree) (fc : Firsts) (tc : C → Tree) → AllBeginAmong fb tb → AllBeginAmong fc tc → apart fb fc ≡ true
    → (b : Option B) (c : Option C) → AreWhole (put tb b (put tc c none)) → LeadsOptional fb (Writes tb) b (ders (put tb b (put tc c none))) (ders (put tc c none))
middle-leads fb tb fc tc all_b all_c distinct None c whole = (not-begun fb fc tc all_c distinct c whole, refl)
middle-leads fb tb fc tc all_b all_c distinct (Some v) c whole =
    let front = spelled-begins fb tb all_b v whole.0 (ders (put tc c none)) in
    (begins-true fb front.0 front.1 (der (tb v) ++ ders (put tc c none)) front.2 front.3, (der (tb v), (whole.0, refl), refl))

behind_whole : {B : Type 0} (tb : B → Tree) (b : Option B) (trees : Trees) → AreWhole (put tb b trees) → AreWhole trees
behind_whole tb None trees whole = whole
behind_whole tb (Some v) trees whole = whole.1

-- two fields that follow another, as they are written
pub fields-lead : {B C : Type 0} (fb : Firsts) (tb : B → Tree) (fc : Firsts) (tc : C → Tree) → AllBeginAmong fb tb → AllBeginAmong fc tc → apart fb fc ≡ true
    → (b : Option B) (c : Option C) → AreWhole (put tb b (put tc c none))
    → LeadsOptional fb (Writes tb) b (ders (put tb b (put tc c none))) (ders (put tc c none)) × LeadsOptional fc (Writes tc) c (ders (put tc c none)) []
fields-lead fb tb fc tc all_b all_c distinct b c whole =
    (middle-leads fb tb fc tc all_b all_c distinct b c whole, last-leads fc tc all_c c (behind_whole tb b (put tc c none) whole))

-- the trees of a cookie and of flags under their tags
abbrev cookie_tree : ExplicitContextTag 2 (List ℕ) → Tree
cookie_tree cookie = wrapped 162 (leaf_as octets.ghosts.is_valid octets.ghosts.content_of 4 cookie.0)

abbrev flags_tree : ExplicitContextTag 3 Bits → Tree
flags_tree flags = wrapped 163 (leaf_as bits.ghosts.is_valid bits.ghosts.content_of 3 flags.0)

header_fields-lead : (cookie : Option (ExplicitContextTag 2 (List ℕ))) (flags : Option (ExplicitContextTag 3 Bits)) → AreWhole (put cookie_tree cookie (put flags_tree flags none))
    → LeadsOptional (only 162) (Writes cookie_tree) cookie (ders (put cookie_tree cookie (put flags_tree flags none))) (ders (put flags_tree flags none))
    × LeadsOptional (only 163) (Writes flags_tree) flags (ders (put flags_tree flags none)) []
header_fields-lead cookie flags whole =
    fields-lead (only 162) cookie_tree (only 163) flags_tree
    (λ v. wrapped-begins 162 (leaf_as octets.ghosts.is_valid octets.ghosts.content_of 4 v.0))
    (λ v. wrapped-begins 163 (leaf_as bits.ghosts.is_valid bits.ghosts.content_of 3 v.0)) refl cookie flags whole

-- a header is read from its spelling
pub header-written : (h : IAKerbHeader) → IsWhole (header_writing.ghosts.tree h) → header_reading.ghosts.reads h (der (header_writing.ghosts.tree h))
header-written h whole =
    let fields = header_fields-lead h.cookie.0 h.flags.0 whole.1 in
    (_, refl, (_, _, [], (_, (whole.0, refl), refl), fields.0, fields.1))

pub proxy_message-written : {T : Type 0} (tree : T → Tree) (m : IAKerbProxyMessage T) (rest : List ℕ) → IsWholeProxyMessage tree m
    → BeginsProxyMessage (Writes tree) m (token_bytes (proxy_message_content tree m) ++ rest)
proxy_message-written tree m rest whole = (
  der (header_writing.ghosts.tree m.header) ++ der (tree m.krb_msg),
  der (tree m.krb_msg),
  (
    proxy_id ++ (der (header_writing.ghosts.tree m.header) ++ der (tree m.krb_msg)),
    (proxy_message_content tree m, (rest, refl), (der (mechanism_tree iakerb), (tt, refl), refl)),
    (refl, refl),
  ),
  (der (header_writing.ghosts.tree m.header), header-written m.header whole.header, refl),
  (whole.message, refl),
)
