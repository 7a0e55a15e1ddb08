use Rattle.std.proofs.Common.{◌≡◌, ◌<◌, List, length, set, Some, subst, ap, ◌∙◌}
use Rattle.krb_account_texts.specs.Edits.{allowed_line, place_of}
use Rattle.krb_account_texts.specs.declared.line.Line.{Line}
use Rattle.krb_account_texts.proofs.Places.{changed-at}
use Rattle.krb_account_texts.proofs.edits.allow.Goals as goal

pub returns-clause-ok : goal.returns-clause-ok
returns-clause-ok c =
    let old : List Line = c.args.lines.now.items in
    let found = subst (λ (lines : List Line). place_of c.args.name.now lines ≡ Some c.in_ok-place.place) c.deref.ensures.value c.in_ok-place.ensures.ok.0 in
    let inside = subst (λ (lines : List Line). c.in_ok-place.place < length lines) c.deref.ensures.value c.in_ok-place.ensures.ok.1 in
    changed-at c.args.name.now (allowed_line c.args.attributes) old _ c.in_ok-place.place c.index_mut.result.now found inside
    (ap (λ (line : Line). set old c.in_ok-place.place line) (c.allow_line.ensures ∙ ap (allowed_line c.args.attributes) c.index_mut.ensures.value))
