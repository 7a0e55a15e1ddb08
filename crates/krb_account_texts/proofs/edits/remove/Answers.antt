use Rattle.std.proofs.Common.{◌≡◌, ◌<◌, List, length, Some, subst}
use Rattle.krb_account_texts.specs.Edits.{place_of}
use Rattle.krb_account_texts.specs.declared.line.Line.{Line}
use Rattle.krb_account_texts.proofs.Places.{one-less}
use Rattle.krb_account_texts.proofs.edits.remove.Goals as goal

pub returns-clause-ok : goal.returns-clause-ok
returns-clause-ok c =
    let found = subst (λ (lines : List Line). place_of c.args.name.now lines ≡ Some c.in_ok-place.place) c.deref.ensures.value c.in_ok-place.ensures.ok.0 in
    let inside = subst (λ (lines : List Line). c.in_ok-place.place < length lines) c.deref.ensures.value c.in_ok-place.ensures.ok.1 in
    one-less _ _ _ c.in_ok-place.place c.remove-line.result found inside c.remove-line.ensures.items
