use Rattle.std.proofs.Common.{length, refl}
use Rattle.std.proofs.lemmas.Result.{err_from_is_err_and}
use Rattle.cdb.specs.Find.{part_at}
use Rattle.cdb.proofs.Judging.{chosen, key_never_long, refused}
use Rattle.cdb.proofs.Positions.{part_fails, part_read}
use Rattle.cdb.proofs.check.is_sound_key.Goals as goal

pub returns-in_err-read_at : goal.returns-in_err-read_at
returns-in_err-read_at g c = λ bytes known.
    let p = err_from_is_err_and c.from_residual.result c.from_residual.ensures.1 in
    let size = length c.read_at.new.buffer in
    rw (p.1, p.2) (refused (g.F.ReadAt.fails c.args.file.now) c.in_err-read_at.field-0.0 (part_at c.args.position size bytes) _ _ _ ⊥
    (part_fails (g.F.ReadAt.fails c.args.file.now) c.in_err-read_at.field-0.0 c.args.position size bytes c.read_at.new.buffer refl (c.in_err-read_at.ensures bytes known))
    (λ cut. cut) (key_never_long c.args.position size bytes))

pub returns : goal.returns
returns g c = λ bytes known.
    let read = part_read c.args.position _ bytes c.read_at.new.buffer refl (c.in_ok-read_at.ensures bytes known) in
    chosen (g.F.ReadAt.fails c.args.file.now) c.contains.result _ _ _ _ _ ⊥ c.contains.ensures (λ shown. (c.read_at.new.buffer, read, shown)) (λ shown. (c.read_at.new.buffer, read, shown))
