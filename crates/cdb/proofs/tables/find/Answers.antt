use Rattle.std.proofs.Common.{subst, sym}
use Rattle.std.proofs.lemmas.Result.{err_from_is_err_and}
use Rattle.cdb.specs.Reading.{Gives}
use Rattle.cdb.proofs.Probing.{find_fails, find_none, find_probed}
use Rattle.cdb.proofs.tables.find.Goals as goal

pub returns-in_err-start : goal.returns-in_err-start
returns-in_err-start g c = λ bytes known.
    let p = err_from_is_err_and c.from_residual.result c.from_residual.ensures.1 in
    let table = rw (c.from.ensures, c.hash_of-hash.ensures) at c.in_err-start.ensures bytes known in
    rw (p.1, p.2) (find_fails (g.F.ReadAt.fails c.args.file.now) c.in_err-start.field-0.0 c.args.key.now bytes table)

pub returns-then-slots-eq0 : goal.returns-then-slots-eq0
returns-then-slots-eq0 g c = λ bytes known.
    let table = rw (c.from.ensures, c.hash_of-hash.ensures) at c.in_ok-start.ensures bytes known in
    find_none c.args.key.now bytes c.in_ok-start.start c.in_ok-start.slots table c.if-slots-eq0.true

pub returns : goal.returns
returns g c = λ bytes known.
    let table = rw (c.from.ensures, c.hash_of-hash.ensures) at c.in_ok-start.ensures bytes known in
    let same = find_probed c.args.key.now bytes c.in_ok-start.start c.in_ok-start.slots table c.if-slots-eq0.false in
    let told = rw c.hash_of-hash.ensures at c.probe.ensures bytes known in
    subst (Gives (g.F.ReadAt.fails c.args.file.now) c.probe.result) (sym same) told
