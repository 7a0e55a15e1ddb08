use Rattle.std.proofs.Common.{◌≡◌, ℕ, List, ◌∷◌, ◌++◌, length, ap, sym, ◌∙◌, arith}
use Rattle.asn1_der.specs.Tree.{Tree, Trees, bare, ders, der, wrapped, behind, IsWhole, AreWhole}
use Rattle.asn1_der.specs.Tree as trees
use Rattle.asn1_der.specs.Length.{element, length_octets}
use Rattle.asn1_der.proofs.Elements.{element-split, element-content}
use Rattle.asn1_der.proofs.Spelling.{wrapped-whole, whole-wrapped, behind-whole, whole-behind, der-behind, ders-one}
use Rattle.asn1_codec.specs.Reading.{IsSpelling, IsElement, IsList, AreFields}
use Rattle.asn1_codec.proofs.Chain.{at-exit, refused-as, refused-after, refused-within, took-as, took-within}
use Rattle.asn1_codec.proofs.Headers.{element_content_cut, header_sizes}
use Rattle.asn1_codec.proofs.Results.{handed-value, handed-fault}
use Rattle.asn1_codec.proofs.de.Deserializer.wrapped_behind.Goals as goal

-- one tree after an octet
abbrev one : ℕ → Tree → Trees
one octet t = bare octet (trees.more t trees.none)

abbrev ones : {T : Type 0} → ℕ → (T → Tree) → T → Trees
ones octet tree value = one octet (tree value)

spelled : (tag octet : ℕ) (t : Tree) → IsWhole t → element tag (ders (one octet t)) ≡ der (behind octet (wrapped tag t))
spelled tag octet t whole = ap (λ content. element tag (octet ∷ content)) (ders-one t) ∙ sym (der-behind tag octet t whole)

-- what is spelled behind an octet is a list of it and the one tree
listed : {T : Type 0} (tag octet : ℕ) (tree : T → Tree) (bytes : List ℕ) → IsSpelling (λ v. behind octet (wrapped tag (tree v))) bytes → IsList tag (λ v. one octet (tree v)) bytes
listed tag octet tree bytes p =
    let whole = wrapped-whole tag (tree p.0) (behind-whole octet (wrapped tag (tree p.0)) p.1.0) in
    (p.0, (whole, tt), p.1.1 ∙ sym (spelled tag octet (tree p.0) whole))

pub returns-in_err-count : goal.returns-in_err-count
returns-in_err-count g c =
    let tree = g.T.Serialize.tree in
    at-exit _ _ _ _ c.from_residual.ensures.1
    (refused-as _ (IsElement c.args.tag) _ _ _ c.in_err-count.ensures
    (λ bytes p. let q = listed c.args.tag c.args.lead tree bytes p in (ders (one c.args.lead (tree q.0)), q.2)))

pub returns-then-is_err : goal.returns-then-is_err
returns-then-is_err g c =
    let fields = ones c.args.lead g.T.Serialize.tree in
    let header = c.in_ok-count.ensures.0 in
    let count = c.in_ok-count.count in
    let low : c.enter-rest.new.self.limit ≡ count = ap (λ r. r.limit) c.enter-rest.ensures.inside in
    handed-fault _ _ _ _ _ _ c.is_err.ensures.value c.if-is_err.true c.last_behind-value.ensures (λ fault refused.
    refused-after _ (AreFields fields count) (c.args.tag ∷ length_octets count) _ _ _ _ header
    (refused-within (AreFields fields count) (AreFields fields c.enter-rest.new.self.limit) count _ _ _ _
    c.enter-rest.ensures.inside c.in_ok-count.ensures.1 refused
    (λ bytes p. ((p.0, p.1, p.2, p.3 ∙ sym low), omega (arith, p.3))))
    (λ bytes rest more p e within.
    let q = listed c.args.tag c.args.lead g.T.Serialize.tree bytes p in
    let parts = element_content_cut c.args.tag count bytes rest more (ders (fields q.0), q.2) e in
    let sizes = header_sizes c.args.tag count bytes parts.0 parts.3 parts.1 in
    let content : parts.0 ≡ ders (fields q.0) = element-content c.args.tag parts.0 (ders (fields q.0)) (sym parts.3 ∙ q.2) in
    (parts.0, rest, (q.0, q.1, content, parts.1), parts.2, omega (arith, sizes))))

pub returns : goal.returns
returns g c =
    let header = c.in_ok-count.ensures.0 in
    handed-value _ _ _ _ _ _ c.is_err.ensures.value c.if-is_err.false c.last_behind-value.ensures (λ value parts.
    let t = g.T.Serialize.tree value in
    let whole = parts.0.0 in
    let content = ders (one c.args.lead t) in
    let second = parts.1 in
    let size : length content ≡ c.in_ok-count.count = omega (arith, second.limit, parts.2, ap (λ r. r.limit) c.enter-rest.ensures.inside) in (
      whole-behind c.args.lead (wrapped c.args.tag t) (whole-wrapped c.args.tag t whole),
      took-as _ (der (behind c.args.lead (wrapped c.args.tag t))) _ _
          (ap (λ n. (c.args.tag ∷ length_octets n) ++ content) (sym size) ∙ sym (element-split c.args.tag content) ∙ spelled c.args.tag c.args.lead t whole)
          (took-within (c.args.tag ∷ length_octets c.in_ok-count.count) content c.in_ok-count.count c.enter-rest.result _ _ _ _ _ header
          c.enter-rest.ensures.inside c.enter-rest.ensures.outside second parts.2 (c.leave.ensures.sound second.sound_after)),
    ))
