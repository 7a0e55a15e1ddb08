use Rattle.std.proofs.Common.{length, inl, inr}
use Rattle.std.proofs.lemmas.Result.{err_from_is_err_and}
use Rattle.cdb.proofs.Answering.{answers_as}
use Rattle.cdb.proofs.Judging.{judged, judged_err, judged_no, judged_yes}
use Rattle.cdb.proofs.records.answers_as.Goals as goal

pub returns-in_err-has_no_other : goal.returns-in_err-has_no_other
returns-in_err-has_no_other g c = λ bytes known.
    let p = err_from_is_err_and c.from_residual.result c.from_residual.ensures.1 in
    rw (p.1, p.2) (judged_err (g.F.ReadAt.fails c.args.file.now) c.in_err-has_no_other.field-0.0 _ _ _ ⊥ _ _ _ _ (c.in_err-has_no_other.ensures bytes known)
    (λ cut. inl cut) (λ long. absurd long))

pub returns-then-not-branch : goal.returns-then-not-branch
returns-then-not-branch g c = λ bytes known.
    inl (judged_no (g.F.ReadAt.fails c.args.file.now) _ _ _ _ ⊥ (c.in_ok-has_no_other.ensures bytes known) c.if-not-branch.true)

pub returns : goal.returns
returns g c = λ bytes known.
    let sound = judged_yes (g.F.ReadAt.fails c.args.file.now) _ _ _ _ ⊥ (c.in_ok-has_no_other.ensures bytes known) c.if-not-branch.false in
    judged (g.F.ReadAt.fails c.args.file.now) c.has_records.result _ _ _ _ _ _ _ _ (c.has_records.ensures bytes known)
    (λ all key. answers_as (length c.has_records.new.room) bytes key c.args.records.now all (sound key)) (λ unheld. inr unheld) (λ damaged. inr damaged) (λ long. long)
