use Rattle.std.proofs.Common.{[], ◌∷◌, ◌++◌, ap, sym, ◌∙◌}
use Rattle.asn1_codec.proofs.Chain.{at-exit}
use Rattle.x509_spelling.proofs.ManyLemmas.{gone-none, gone-more, gone-all, gone-refused, shorter}
use Rattle.x509_spelling.proofs.Refusals.{some_left, none_left}
use Rattle.x509_spelling.proofs.list.ManySpelledFields.read_content.Goals as goal

pub elements-init : goal.elements-init
elements-init g c =
    let t = g.T.Spelled in
    gone-none t.has_low_tags t.begun t.written t.spells t.laws c.args.content.now _ c.new-items.ensures.items

pub returns-in_err-read : goal.returns-in_err-read
returns-in_err-read g c =
    let t = g.T.Spelled in
    at-exit _ _ _ _ c.from_residual.ensures.1
    (gone-refused t.has_low_tags t.begun t.written t.spells t.laws c.args.content.now _ _ c.elements.rest.now c.elements.invariant
    (some_left c.elements.rest.now (sym c.elements-test.true ∙ c.is_empty.ensures)) _ c.in_err-read.ensures)

pub elements-smaller : goal.elements-smaller
elements-smaller g c =
    let t = g.T.Spelled in
    shorter t.has_low_tags t.begun t.written t.spells t.laws c.args.content.now _ c.elements.rest.now c.in_ok-read.behind.now _ c.in_ok-read.ensures

pub elements-preserved : goal.elements-preserved
elements-preserved g c =
    let t = g.T.Spelled in
    gone-more t.has_low_tags t.begun t.written t.spells t.laws c.args.content.now c.elements.items.items _ _ _ c.elements.rest.now c.in_ok-read.behind.now _ _ c.elements.invariant
    (some_left c.elements.rest.now (sym c.elements-test.true ∙ c.is_empty.ensures)) c.in_ok-read.ensures
    (c.in-Ok.ensures.items ∙ ap (λ v. c.elements.items.items ++ (v ∷ [])) c.into_value.ensures) c.in_ok-count.ensures

pub returns : goal.returns
returns g c =
    let t = g.T.Spelled in
    gone-all t.has_low_tags t.begun t.written t.spells t.laws c.args.content.now _ _ c.elements.rest.now c.elements.invariant
    (none_left c.elements.rest.now (sym c.elements-test.false ∙ c.is_empty.ensures))
