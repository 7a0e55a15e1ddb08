use Rattle.std.proofs.Common.{◌≡◌, ℕ, ◌≤◌, List, [], ◌∷◌, ◌++◌, length, ap, refl, sym, ◌∙◌, arith}
use Rattle.std.specs.Prelude.{⊤}
use Rattle.asn1_der.specs.Tree.{Tree, Trees, ders, der, wrapped, IsWhole, AreWhole}
use Rattle.asn1_der.specs.Tree as trees
use Rattle.asn1_der.specs.Length.{element, length_octets}
use Rattle.asn1_der.proofs.Elements.{element-split, element-content}
use Rattle.asn1_der.proofs.Spelling.{wrapped-whole, whole-wrapped, der-wrapped, ders-one}
use Rattle.asn1_der.specs.declared.error.Asn1DerError.{Asn1DerError}
use Rattle.asn1_codec.specs.Reading.{Reading, Took, Refused, IsSpelling, IsElement, IsList, AreFields, within}
use Rattle.asn1_codec.proofs.Chain.{at-exit, refused-as, refused-after, refused-front, refused-within, took-as, took-within}
use Rattle.asn1_codec.proofs.FieldsLemmas.{field_trees, required_cut}
use Rattle.asn1_codec.proofs.Headers.{element_content_cut, header_sizes}
use Rattle.asn1_codec.proofs.Results.{handed-value, handed-fault, held-value}
use Rattle.asn1_codec.proofs.de.Deserializer.wrapped.Goals as goal

-- the one tree of the content
abbrev ones : {T : Type 0} → (T → Tree) → T → Trees
ones tree value = trees.more (tree value) trees.none

-- behind the value there is nothing
abbrev nothing : ⊤ → Trees
nothing _ = trees.none

spelled : (tag : ℕ) (t : Tree) → IsWhole t → element tag (ders (trees.more t trees.none)) ≡ der (wrapped tag t)
spelled tag t whole = ap (element tag) (ders-one t) ∙ sym (der-wrapped tag t whole)

-- what is spelled under a further octet is a list of the one tree
listed : {T : Type 0} (tag : ℕ) (tree : T → Tree) (bytes : List ℕ) → IsSpelling (λ v. wrapped tag (tree v)) bytes → IsList tag (ones tree) bytes
listed tag tree bytes p =
    let whole = wrapped-whole tag (tree p.0) p.1.0 in
    (p.0, (whole, tt), p.1.1 ∙ sym (spelled tag (tree p.0) whole))

-- a content that isn't the one tree is refused behind its header
content_refused : {T : Type 0} (tag count : ℕ) (tree : T → Tree) (old mid low new : Reading) (fault : Asn1DerError)
    → Took (tag ∷ length_octets count) old mid → low ≡ within count mid → count ≤ mid.limit
    → Refused (AreFields (ones tree) low.limit) low new fault → Refused (IsSpelling (λ v. wrapped tag (tree v))) old new fault
content_refused tag count tree old mid low new fault header inside room refused =
    let fields = ones tree in
    let lowered : low.limit ≡ count = ap (λ r. r.limit) inside in
    refused-after _ (AreFields fields count) (tag ∷ length_octets count) _ _ _ _ header
    (refused-within (AreFields fields count) (AreFields fields low.limit) count _ _ _ _ inside room refused
    (λ bytes p. ((p.0, p.1, p.2, p.3 ∙ sym lowered), omega (arith, p.3))))
    (λ bytes rest more p e within.
    let q = listed tag tree bytes p in
    let parts = element_content_cut tag count bytes rest more (ders (fields q.0), q.2) e in
    let sizes = header_sizes tag count bytes parts.0 parts.3 parts.1 in
    let content : parts.0 ≡ ders (fields q.0) = element-content tag parts.0 (ders (fields q.0)) (sym parts.3 ∙ q.2) in
    (parts.0, rest, (q.0, q.1, content, parts.1), parts.2, omega (arith, sizes)))

pub returns-in_err-count : goal.returns-in_err-count
returns-in_err-count g c =
    let tree = g.T.Serialize.tree in
    at-exit _ _ _ _ c.from_residual.ensures.1
    (refused-as _ (IsElement c.args.tag) _ _ _ c.in_err-count.ensures
    (λ bytes p. let q = listed c.args.tag tree bytes p in (ders (ones tree q.0), q.2)))

pub returns-then-is_err : goal.returns-then-is_err
returns-then-is_err g c =
    let tree = g.T.Serialize.tree in
    handed-fault _ _ _ _ _ _ c.is_err.ensures.value c.if-is_err.true c.deserialize-value.ensures (λ fault refused.
    content_refused c.args.tag c.in_ok-count.count tree _ _ _ _ _ c.in_ok-count.ensures.0 c.enter-rest.ensures.inside c.in_ok-count.ensures.1
    (refused-front _ (IsSpelling tree) _ _ _ refused (λ bytes p. (der (tree p.0), [], (p.0, (p.1.0, refl)), p.2))))

pub returns-in_err-finish : goal.returns-in_err-finish
returns-in_err-finish g c =
    let tree = g.T.Serialize.tree in
    let limit = c.enter-rest.new.self.limit in
    let read = held-value _ _ _ _ c.is_err.ensures.value c.if-is_err.false c.deserialize-value.ensures in
    let value = read.0 in
    let took = read.1 in
    at-exit _ _ _ _ c.from_residual-in_err-finish.ensures.1
    (content_refused c.args.tag c.in_ok-count.count tree _ _ _ _ _ c.in_ok-count.ensures.0 c.enter-rest.ensures.inside c.in_ok-count.ensures.1
    (refused-as _ (AreFields (field_trees tree nothing) limit) _ _ _
    (refused-after _ (AreFields nothing c.deserialize-value.new.from.limit) (der (tree value)) _ _ _ _ took.1
    (refused-as (AreFields nothing c.deserialize-value.new.from.limit) _ _ _ _ c.in_err-finish.ensures (λ bytes p. (p.2, p.3)))
    (required_cut tree nothing value limit _ took.0 took.1.limit))
    (λ bytes p. ((p.0, tt), p.1, p.2, p.3))))

pub returns : goal.returns
returns g c =
    handed-value _ _ _ _ _ _ c.is_err.ensures.value c.if-is_err.false c.deserialize-value.ensures (λ value parts.
    let t = g.T.Serialize.tree value in
    let content = der t in
    let count = c.in_ok-count.count in
    let second = parts.1 in
    let finished = c.in_ok-finish.ensures in
    let size : length content ≡ count = omega (arith, second.limit, finished.2, ap (λ r. r.limit) c.enter-rest.ensures.inside) in (
      whole-wrapped c.args.tag t parts.0,
      took-as _ (der (wrapped c.args.tag t)) _ _
          (ap (λ n. (c.args.tag ∷ length_octets n) ++ content) (sym size) ∙ sym (element-split c.args.tag content) ∙ sym (der-wrapped c.args.tag t parts.0))
          (took-within (c.args.tag ∷ length_octets count) content count c.enter-rest.result _ _ _ _ _ c.in_ok-count.ensures.0
          c.enter-rest.ensures.inside c.enter-rest.ensures.outside second finished.2 (c.leave.ensures.sound (ap (λ r. r.failed) finished.0 ∙ finished.1) ∙ ap (within c.enter-rest.result) finished.0)),
    ))
