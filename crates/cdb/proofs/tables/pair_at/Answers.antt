use Rattle.std.proofs.lemmas.Result.{err_from_is_err_and}
use Rattle.cdb.proofs.Positions.{pair_fails, pair_read}
use Rattle.cdb.proofs.tables.pair_at.Goals as goal

pub returns-in_err-read_at : goal.returns-in_err-read_at
returns-in_err-read_at g c = λ bytes known.
    let p = err_from_is_err_and c.from_residual.result c.from_residual.ensures.1 in
    rw (p.1, p.2) (pair_fails (g.F.ReadAt.fails c.args.file.now) c.in_err-read_at.field-0.0 c.args.position bytes c.read_at.new.buffer c.read_at.auto.buffer (c.in_err-read_at.ensures bytes known))

pub returns : goal.returns
returns g c = λ bytes known.
    rw (c.u32_le.ensures.read, c.u32_le-2.ensures.read) (pair_read c.args.position bytes c.read_at.new.buffer c.read_at.auto.buffer (c.in_ok-read_at.ensures bytes known))
