use Rattle.std.proofs.Common.{◌≡◌, ℕ, ◌<◌, List, ◌∷◌, ◌++◌, length, sym, ap, ◌∙◌, arith}
use Rattle.asn1_der.specs.Tree.{Tree, der, wrapped}
use Rattle.asn1_der.specs.Length.{element}
use Rattle.asn1_der.proofs.Elements.{element-split, length_octets-short}
use Rattle.asn1_codec.proofs.Writes.{der-wrapped_some, der-wrapped_nothing, empty_of_length}
use Rattle.picky_asn1_der.proofs.encoding.under_octet.Goals as goal

-- a short content behind its length and the octet
short_under : (tag count : ℕ) (content one two : List ℕ) (t : Tree) → count ≡ length content → count < 128 → (count ≡ 0 → ⊥) → one ≡ count ∷ content
    → two ≡ tag ∷ one → der t ≡ content → two ≡ der (wrapped tag t)
short_under tag count content one two t size few some first second e =
    second ∙ ap (λ bytes. tag ∷ bytes) (first ∙ ap (λ n. n ∷ content) size)
    ∙ ap (λ bytes. (tag ∷ bytes) ++ content) (sym (length_octets-short (length content) (omega (arith, size, few))))
    ∙ sym (element-split tag content) ∙ ap (element tag) (sym e)
    ∙ sym (der-wrapped_some tag t (λ none. some (size ∙ sym (ap length e) ∙ none)))

pub returns-then-count-eq0 : goal.returns-then-count-eq0
returns-then-count-eq0 c = λ t e.
    let none = empty_of_length c.args.content.items (omega (arith, c.len-count.ensures, c.if-count-eq0.true, c.args.content.ok.0)) in
    none ∙ sym (der-wrapped_nothing c.args.tag t (e ∙ none))

pub returns-then-count-lt128 : goal.returns-then-count-lt128
returns-then-count-lt128 c = λ t e.
    short_under c.args.tag c.len-count.result c.args.content.items _ _ t (omega (arith, c.len-count.ensures, c.args.content.ok.0)) c.if-count-lt128.true
    c.if-count-eq0.false c.in_ok-insert.ensures.items c.in_ok-insert-2.ensures.items e
