use Rattle.std.proofs.Common.{sym}
use Rattle.std.proofs.lemmas.Result.{err_from_is_err_and}
use Rattle.cdb.proofs.Judging.{judged_err, judged_no}
use Rattle.cdb.proofs.records.has_records.Goals as goal

pub returns-in_err-holds : goal.returns-in_err-holds
returns-in_err-holds g c = λ bytes known.
    let p = err_from_is_err_and c.from_residual.result c.from_residual.ensures.1 in
    rw (p.1, p.2) (judged_err (g.F.ReadAt.fails c.args.file.now) c.in_err-holds.field-0.0 _ _ _ _ _ _ _ _ (c.in_err-holds.ensures bytes known)
    (λ damaged. (c.loop-record.record-index, c.record-item.result, c.loop-record-test.true, sym c.record-item.is, damaged))
    (λ long. (c.loop-record.record-index, c.record-item.result, c.loop-record-test.true, sym c.record-item.is, long)))

pub returns-then-not-branch : goal.returns-then-not-branch
returns-then-not-branch g c = λ bytes known. (
  c.loop-record.record-index,
  c.record-item.result,
  c.loop-record-test.true,
  sym c.record-item.is,
  judged_no (g.F.ReadAt.fails c.args.file.now) _ _ _ _ _ (c.in_ok-holds.ensures bytes known) c.if-not-branch.true,
)
