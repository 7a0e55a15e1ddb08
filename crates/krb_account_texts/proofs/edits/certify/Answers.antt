use Rattle.std.proofs.Common.{◌≡◌, ◌<◌, List, length, set, None, Some, refl, sym, subst, ap, ◌∙◌}
use Rattle.krb_account_texts.specs.Edits.{certified, realm_place}
use Rattle.krb_account_texts.specs.declared.line.Line.{Line}
use Rattle.krb_account_texts.proofs.Places.{certified-at}
use Rattle.krb_account_texts.proofs.edits.certify.Goals as goal

pub returns-clause-ok : goal.returns-clause-ok
returns-clause-ok c =
    let old : List Line = c.args.lines.now.items in
    let found = subst (λ (lines : List Line). realm_place lines ≡ Some c.in-Some.place) c.deref.ensures.value (sym c.in-Some.ensures.first) in
    let inside = subst (λ (lines : List Line). c.in-Some.place < length lines) c.deref.ensures.value c.in-Some.ensures.within in
    certified-at c.args.pkinit old _ c.in-Some.place c.index_mut.result.now found inside
    (ap (λ (line : Line). set old c.in-Some.place line) (c.put_pkinit.ensures ∙ ap (certified c.args.pkinit) c.index_mut.ensures.value))

pub returns-in_default-clause-refusal : goal.returns-in_default-clause-refusal
returns-in_default-clause-refusal c =
    let none = subst (λ (lines : List Line). realm_place lines ≡ None) c.deref.ensures.value (sym c.in_default.ensures.first) in
    (refl, none)
