use Rattle.cdb.proofs.Judging.{record_held}
use Rattle.cdb.proofs.records.holds.Goals as goal

pub returns : goal.returns
returns g c = λ bytes known.
    record_held (g.F.ReadAt.fails c.args.file.now) _ bytes c.deref.result.now c.deref-2.result.now c.args.one.now c.has_record.result c.deref.ensures.value c.deref-2.ensures.value
    (c.has_record.ensures bytes known)
