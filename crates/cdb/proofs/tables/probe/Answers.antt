use Rattle.std.proofs.lemmas.Result.{err_from_is_err_and}
use Rattle.cdb.proofs.Probing.{probe_empty, probe_fails, probe_found, probe_other, probe_over}
use Rattle.cdb.proofs.tables.probe.Goals as goal

pub returns-in_err-found : goal.returns-in_err-found
returns-in_err-found g c = λ bytes known.
    let p = err_from_is_err_and c.from_residual.result c.from_residual.ensures.1 in
    let slot = rw (c.from.ensures, c.from-in-loop.ensures) at c.in_err-found.ensures bytes known in
    rw (p.1, p.2) (probe_fails c.args.key.now c.args.hash c.args.start c.args.slots bytes (g.F.ReadAt.fails c.args.file.now) c.in_err-found.field-0.0 c.loop.slot c.args.slots c.loop.counter _
    c.loop-test.true slot (c.loop.invariant.same bytes known))

pub returns-in-Found : goal.returns-in-Found
returns-in-Found g c = λ bytes known.
    let at_slot = rw (c.from.ensures, c.from-in-loop.ensures) at c.in_ok-found.ensures bytes known in
    let slot = rw c.in-Found.is at at_slot in
    probe_found c.args.key.now c.args.hash c.args.start c.args.slots bytes c.in-Found.found c.loop.slot c.args.slots c.loop.counter _
    c.loop-test.true slot (c.loop.invariant.same bytes known)

pub returns-in-Empty : goal.returns-in-Empty
returns-in-Empty g c = λ bytes known.
    let at_slot = rw (c.from.ensures, c.from-in-loop.ensures) at c.in_ok-found.ensures bytes known in
    let slot = rw c.in-Empty.is at at_slot in
    probe_empty c.args.key.now c.args.hash c.args.start c.args.slots bytes c.loop.slot c.args.slots c.loop.counter _
    c.loop-test.true slot (c.loop.invariant.same bytes known)

pub loop-preserved : goal.loop-preserved
loop-preserved g c = record {
  within = c.following-slot.ensures.within;
  same = λ bytes known.
      let at_slot = rw (c.from.ensures, c.from-in-loop.ensures) at c.in_ok-found.ensures bytes known in
      let slot = rw c.in-Other.is at at_slot in
      rw c.following-slot.ensures.value (probe_other c.args.key.now c.args.hash c.args.start c.args.slots bytes c.loop.slot c.args.slots c.loop.counter _
      c.loop-test.true slot (c.loop.invariant.same bytes known));
}

pub returns : goal.returns
returns g c = λ bytes known.
    probe_over c.args.key.now c.args.hash c.args.start c.args.slots bytes c.loop.slot c.args.slots c.loop.counter _
    c.loop-test.false (c.loop.invariant.same bytes known)
