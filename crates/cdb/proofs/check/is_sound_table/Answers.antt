use Rattle.std.proofs.Common.{ℕ, ◌*◌, inl, inr}
use Rattle.std.proofs.lemmas.Result.{err_from_is_err_and}
use Rattle.cdb.specs.declared.format.TheConstants.{PAIR_SIZE}
use Rattle.cdb.specs.Find.{pair_at}
use Rattle.cdb.proofs.Judging.{judged, pair_never_long, refused}
use Rattle.cdb.proofs.check.is_sound_table.Goals as goal

pub returns-in_err-start : goal.returns-in_err-start
returns-in_err-start g c = λ bytes known.
    let p = err_from_is_err_and c.from_residual.result c.from_residual.ensures.1 in
    let table = rw c.from.ensures at c.in_err-start.ensures bytes known in
    rw (p.1, p.2) (refused (g.F.ReadAt.fails c.args.file.now) c.in_err-start.field-0.0 (pair_at (c.args.table * PAIR_SIZE) bytes) _ _ _ ⊥ table
    (λ cut. inl cut) (pair_never_long (c.args.table * PAIR_SIZE) bytes))

pub returns : goal.returns
returns g c = λ bytes known.
    let table : ℕ × ℕ = (c.in_ok-start.start, c.in_ok-start.slots) in
    let read = rw c.from.ensures at c.in_ok-start.ensures bytes known in
    judged (g.F.ReadAt.fails c.args.file.now) c.are_sound_slots.result _ _ _ ⊥ _ _ _ ⊥ (c.are_sound_slots.ensures bytes known)
    (λ own. (table, read, own)) (λ other. (table, read, other.0, other.1, other.2)) (λ cut. inr (table, read, cut.0, cut.1, cut.2)) (λ long. long)
