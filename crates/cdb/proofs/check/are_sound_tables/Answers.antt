use Rattle.std.proofs.Common.{below_more, arith}
use Rattle.std.proofs.lemmas.Result.{err_from_is_err_and}
use Rattle.cdb.specs.Check.{IsSoundTable}
use Rattle.cdb.proofs.Judging.{judged_err, judged_no, judged_yes}
use Rattle.cdb.proofs.Sound.{sound_file}
use Rattle.cdb.proofs.check.are_sound_tables.Goals as goal

pub returns-in_err-is_sound_table : goal.returns-in_err-is_sound_table
returns-in_err-is_sound_table g c = λ bytes known.
    let p = err_from_is_err_and c.from_residual.result c.from_residual.ensures.1 in
    rw (p.1, p.2) (judged_err (g.F.ReadAt.fails c.args.file.now) c.in_err-is_sound_table.field-0.0 _ _ _ ⊥ _ _ _ ⊥ (c.in_err-is_sound_table.ensures bytes known)
    (λ cut. (c.loop-table.table, c.loop-table-test.true, cut)) (λ long. long))

pub returns-then-not-branch : goal.returns-then-not-branch
returns-then-not-branch g c = λ bytes known.
    (c.loop-table.table, c.loop-table-test.true, judged_no (g.F.ReadAt.fails c.args.file.now) _ _ _ _ ⊥ (c.in_ok-is_sound_table.ensures bytes known) c.if-not-branch.true)

pub loop-table-preserved : goal.loop-table-preserved
loop-table-preserved g c = λ bytes known.
    let own = judged_yes (g.F.ReadAt.fails c.args.file.now) _ _ _ _ ⊥ (c.in_ok-is_sound_table.ensures bytes known) c.if-not-branch.false in
    below_more (λ number. IsSoundTable (g.K.Keys.has c.args.keys.now) bytes number) c.loop-table.table (c.loop-table.invariant bytes known) own

pub returns : goal.returns
returns g c = λ bytes known key.
    sound_file (g.K.Keys.has c.args.keys.now) bytes key (λ number lt. c.loop-table.invariant bytes known number (omega (arith, lt, c.loop-table-test.false)))
