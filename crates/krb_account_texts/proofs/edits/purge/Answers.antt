use Rattle.std.proofs.Common.{◌≡◌, ◌<◌, List, length, set, Some, sym, subst, ap, ◌∙◌}
use Rattle.krb_account_texts.specs.Edits.{purged_line, place_of}
use Rattle.krb_account_texts.specs.declared.line.Line.{Line}
use Rattle.krb_account_texts.proofs.Places.{changed-at}
use Rattle.krb_account_texts.proofs.edits.purge.Goals as goal

pub returns-clause-ok : goal.returns-clause-ok
returns-clause-ok c =
    let old : List Line = c.args.lines.now.items in
    let found = subst (λ (lines : List Line). place_of c.args.name.now lines ≡ Some c.in-Some.place) c.deref.ensures.value (sym c.in-Some.ensures.first) in
    let inside = subst (λ (lines : List Line). c.in-Some.place < length lines) c.deref.ensures.value c.in-Some.ensures.within in
    changed-at c.args.name.now purged_line old _ c.in-Some.place c.index_mut.result.now found inside
    (ap (λ (line : Line). set old c.in-Some.place line) (c.purge_line.ensures ∙ ap purged_line c.index_mut.ensures.value))
