use Rattle.std.proofs.lemmas.Result.{err_from_is_err_and}
use Rattle.std.proofs.Common.{Ok, ap, ◌∙◌}
use Rattle.cdb.proofs.Probing.{record_fails, record_found, record_of_other_key, record_of_other_size, record_stands_fails}
use Rattle.cdb.proofs.tables.in_parts.Goals as goal

pub returns-in_err-key_size : goal.returns-in_err-key_size
returns-in_err-key_size g c = λ bytes known.
    let p = err_from_is_err_and c.from_residual.result c.from_residual.ensures.1 in
    let sizes = rw c.from.ensures at c.in_err-key_size.ensures bytes known in
    rw (p.1, p.2) (record_fails (g.F.ReadAt.fails c.args.file.now) c.in_err-key_size.field-0.0 c.args.key.now c.args.at bytes sizes)

pub returns-then-key_size-key : goal.returns-then-key_size-key
returns-then-key_size-key g c = λ bytes known.
    let sizes = rw c.from.ensures at c.in_ok-key_size.ensures bytes known in
    record_of_other_size c.args.key.now c.args.at c.in_ok-key_size.key_size c.in_ok-key_size.size bytes sizes c.if-key_size-key.true

pub returns-in_err-stands_at : goal.returns-in_err-stands_at
returns-in_err-stands_at g c = λ bytes known.
    let p = err_from_is_err_and c.from_residual-in_err-stands_at.result c.from_residual-in_err-stands_at.ensures.1 in
    let sizes = rw c.from.ensures at c.in_ok-key_size.ensures bytes known in
    let stands = rw c.from-front.ensures at c.in_err-stands_at.ensures bytes known in
    rw (p.1, p.2) (record_stands_fails (g.F.ReadAt.fails c.args.file.now) c.in_err-stands_at.field-0.0 c.args.key.now c.args.at c.in_ok-key_size.key_size c.in_ok-key_size.size bytes sizes c.if-key_size-key.false stands)

pub returns-then-not-branch : goal.returns-then-not-branch
returns-then-not-branch g c = λ bytes known.
    let sizes = rw c.from.ensures at c.in_ok-key_size.ensures bytes known in
    let stands = rw c.from-front.ensures at c.in_ok-stands_at.ensures bytes known in
    record_of_other_key c.args.key.now c.args.at c.in_ok-key_size.key_size c.in_ok-key_size.size bytes sizes c.if-key_size-key.false (stands ∙ ap (λ same. Ok same) c.if-not-branch.true)

pub returns : goal.returns
returns g c = λ bytes known.
    let sizes = rw c.from.ensures at c.in_ok-key_size.ensures bytes known in
    let stands = rw c.from-front.ensures at c.in_ok-stands_at.ensures bytes known in
    rw (c.from-front.ensures, c.from-2.ensures)
    (record_found c.args.key.now c.args.at c.in_ok-key_size.key_size c.in_ok-key_size.size bytes sizes c.if-key_size-key.false (stands ∙ ap (λ same. Ok same) c.if-not-branch.false))
