use Rattle.std.proofs.Common.{◌≡◌, None, rules, subst}
use Rattle.std.proofs.lemmas.Result.{err_from_is_err_and}
use Rattle.krb_account_texts.specs.Edits.{HasOneMore, added_line, guards_password, place_of}
use Rattle.krb_account_texts.specs.declared.line.Line.{Line}
use Rattle.krb_account_texts.proofs.Places.{not_there, one-more, out_of_memory}
use Rattle.krb_account_texts.proofs.edits.add.Goals as goal

pub returns-clause-ok : goal.returns-clause-ok
returns-clause-ok c =
    let is : c.added_line-line.result ≡ added_line (guards_password c.args.account.name.name_string.0 c.args.lines.now.items) c.args.account = search rules in
    subst (λ (line : Line). HasOneMore line c.args.lines.now.items c.insert.new.self.items) is (one-more _ _ _ c.place_for-place.result c.in_ok-insert.ensures.items)

pub returns-in_err-insert-clause-exists : goal.returns-in_err-insert-clause-exists
returns-in_err-insert-clause-exists c =
    let none : place_of c.args.account.name.name_string.0 c.args.lines.now.items ≡ None = search rules in
    let r = err_from_is_err_and c.from_residual.result c.from_residual.ensures.1 in
    not_there _ _ none (out_of_memory c.from_residual.result r.0 r.1 r.2)

pub returns-clause-exists : goal.returns-clause-exists
returns-clause-exists c =
    let none : place_of c.args.account.name.name_string.0 c.args.lines.now.items ≡ None = search rules in
    not_there _ _ none (λ e. cc (e))
