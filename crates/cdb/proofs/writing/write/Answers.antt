use Rattle.std.proofs.lemmas.Bool.{MatchBool-at_false, MatchBool-at_true}
use Rattle.std.proofs.lemmas.Result.{err_from_is_err_and}
use Rattle.cdb.proofs.writing.write.Goals as goal

pub returns-then-not-are_sound-clause-refusal : goal.returns-then-not-are_sound-clause-refusal
returns-then-not-are_sound-clause-refusal c = MatchBool-at_false _ _ c.if-not-are_sound.true c.are_sound.ensures

pub returns-then-not-are_few-clause-refusal : goal.returns-then-not-are_few-clause-refusal
returns-then-not-are_few-clause-refusal c = MatchBool-at_false _ _ c.if-not-are_few.true c.are_few.ensures

pub make-requires : goal.make-requires
make-requires c = MatchBool-at_true _ _ c.if-not-are_few.false c.are_few.ensures

pub returns-in_err-bytes-clause-refusal : goal.returns-in_err-bytes-clause-refusal
returns-in_err-bytes-clause-refusal c =
    let p = err_from_is_err_and c.from_residual.result c.from_residual.ensures.1 in
    rw (p.1, p.2) tt

pub returns-clause-answers : goal.returns-clause-answers
returns-clause-answers c = c.finds_the_first.ensures.content _ c.args.records.now c.in_ok-bytes.ensures c.args.room (MatchBool-at_true _ _ c.if-not-are_sound.false c.are_sound.ensures)
