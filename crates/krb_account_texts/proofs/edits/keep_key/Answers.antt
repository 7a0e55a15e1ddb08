use Rattle.std.proofs.Common.{◌≡◌, ◌<◌, Bool, List, length, set, None, Some, refl, sym, subst, ap, ◌∙◌}
use Rattle.krb_account_texts.specs.Edits.{guards_password, is_name_spent, is_spent, place_of, rekeyed_keeping}
use Rattle.krb_account_texts.specs.declared.line.Line.{Line}
use Rattle.krb_account_texts.proofs.Places.{changed-at, not-unknown, on-ok, spent-at, spent-same, unknown-there, unspent}
use Rattle.krb_account_texts.proofs.edits.keep_key.Goals as goal

pub returns-clause-ok : goal.returns-clause-ok
returns-clause-ok c =
    let old : List Line = c.args.lines.now.items in
    let found = subst (λ (lines : List Line). place_of c.args.name.now lines ≡ Some c.in-Some.place) c.deref.ensures.value (sym c.in-Some.ensures.first) in
    let inside = subst (λ (lines : List Line). c.in-Some.place < length lines) c.deref.ensures.value c.in-Some.ensures.within in
    let guards : c.guards_password-guards.result ≡ guards_password c.args.name.now old = c.guards_password-guards.ensures ∙ ap (guards_password c.args.name.now) c.deref-2.ensures.value in
    let next : Bool → Line → Line = λ (guarding : Bool). rekeyed_keeping guarding c.args.key.suite c.args.key.bytes c.args.salt in
    on-ok c.rekey_keeping.result c.rekey_keeping.ensures.ok (λ is.
    changed-at c.args.name.now (next (guards_password c.args.name.now old)) old _ c.in-Some.place c.index_mut.result.now found inside
    (ap (λ (line : Line). set old c.in-Some.place line)
    (is ∙ ap (λ (guarding : Bool). next guarding c.index_mut.result.now) guards ∙ ap (next (guards_password c.args.name.now old)) c.index_mut.ensures.value)))

pub returns-clause-unknown : goal.returns-clause-unknown
returns-clause-unknown c =
    let found = subst (λ (lines : List Line). place_of c.args.name.now lines ≡ Some c.in-Some.place) c.deref.ensures.value (sym c.in-Some.ensures.first) in
    not-unknown c.rekey_keeping.result (place_of c.args.name.now c.args.lines.now.items) c.in-Some.place found c.rekey_keeping.ensures.refusal

pub returns-clause-spent : goal.returns-clause-spent
returns-clause-spent c =
    let old : List Line = c.args.lines.now.items in
    let found = subst (λ (lines : List Line). place_of c.args.name.now lines ≡ Some c.in-Some.place) c.deref.ensures.value (sym c.in-Some.ensures.first) in
    spent-same c.rekey_keeping.result (is_spent c.index_mut.result.now) (is_name_spent c.args.name.now old)
    (spent-at c.args.name.now old c.in-Some.place c.index_mut.result.now found ∙ sym (ap is_spent c.index_mut.ensures.value)) c.rekey_keeping.ensures.spent

pub returns-in_default-clause-spent : goal.returns-in_default-clause-spent
returns-in_default-clause-spent c =
    let old : List Line = c.args.lines.now.items in
    let none = subst (λ (lines : List Line). place_of c.args.name.now lines ≡ None) c.deref.ensures.value (sym c.in_default.ensures.first) in
    unknown-there _ (is_name_spent c.args.name.now old) refl (unspent c.args.name.now old none)
