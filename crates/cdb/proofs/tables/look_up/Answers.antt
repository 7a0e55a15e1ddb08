use Rattle.std.proofs.Common.{drop, Ok, Some, ap, sym, ◌∙◌}
use Rattle.std.proofs.lemmas.Result.{err_from_is_err_and}
use Rattle.cdb.proofs.Positions.{front_fits, front_sized, front_taken, part_fails, part_read}
use Rattle.cdb.proofs.Probing.{looked_fails, looked_found, looked_long, looked_none, looked_part_fails}
use Rattle.cdb.proofs.tables.look_up.Goals as goal

pub returns-in_err-found-clause-content : goal.returns-in_err-found-clause-content
returns-in_err-found-clause-content g c = λ bytes known.
    let p = err_from_is_err_and c.from_residual.result c.from_residual.ensures.1 in
    rw (p.1, p.2) (looked_fails (g.F.ReadAt.fails c.args.file.now) c.in_err-found.field-0.0 _ bytes c.args.key.now (c.in_err-found.ensures bytes known))

pub returns-in_default-clause-content : goal.returns-in_default-clause-content
returns-in_default-clause-content g c = λ bytes known.
    looked_none _ bytes c.args.key.now (c.in_ok-found.ensures bytes known ∙ ap (λ found. Ok found) c.in_default.is)

pub returns-then-size-buffer-clause-content : goal.returns-then-size-buffer-clause-content
returns-then-size-buffer-clause-content g c = λ bytes known.
    looked_long c.in-Some.found _ bytes c.args.key.now (c.in_ok-found.ensures bytes known ∙ ap (λ found. Ok found) c.in-Some.is) c.if-size-buffer.true

pub returns-in_err-read_at-clause-content : goal.returns-in_err-read_at-clause-content
returns-in_err-read_at-clause-content g c = λ bytes known.
    let p = err_from_is_err_and c.from_residual-in_err-read_at.result c.from_residual-in_err-read_at.ensures.1 in
    let found = c.in_ok-found.ensures bytes known ∙ ap (λ found. Ok found) c.in-Some.is in
    let sized = front_sized c.in-Some.found.size c.read_at.new.buffer c.args.buffer.now c.read_at.auto.buffer c.if-size-buffer.false in
    let read = part_fails (g.F.ReadAt.fails c.args.file.now) c.in_err-read_at.field-0.0 c.in-Some.found.position c.in-Some.found.size bytes c.read_at.new.buffer sized (c.in_err-read_at.ensures bytes known) in
    rw (p.1, p.2) (looked_part_fails (g.F.ReadAt.fails c.args.file.now) c.in_err-read_at.field-0.0 c.in-Some.found _ bytes c.args.key.now found (front_fits c.in-Some.found.size c.read_at.new.buffer (drop c.in-Some.found.size c.args.buffer.now) sized) read)

pub returns-clause-content : goal.returns-clause-content
returns-clause-content g c = λ bytes known.
    let found = c.in_ok-found.ensures bytes known ∙ ap (λ found. Ok found) c.in-Some.is in
    let sized = front_sized c.in-Some.found.size c.read_at.new.buffer c.args.buffer.now c.read_at.auto.buffer c.if-size-buffer.false in
    let rest = drop c.in-Some.found.size c.args.buffer.now in
    let read = part_read c.in-Some.found.position c.in-Some.found.size bytes c.read_at.new.buffer sized (c.in_ok-read_at.ensures bytes known) in
    looked_found c.read_at.new.buffer c.in-Some.found _ bytes c.args.key.now found (front_fits c.in-Some.found.size c.read_at.new.buffer rest sized) read
    ∙ ap (λ content. Ok (Some content)) (sym (front_taken c.in-Some.found.size c.read_at.new.buffer rest sized))
