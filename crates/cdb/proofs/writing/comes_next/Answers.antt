use Rattle.cdb.proofs.Clashing.{comes_before, other_content}
use Rattle.cdb.proofs.writing.comes_next.Goals as goal

pub returns-in-Greater : goal.returns-in-Greater
returns-in-Greater c = comes_before c.args.one.now c.args.next.now c.deref.result.now c.deref.ensures.value c.in-Greater.ensures

pub returns-in-Equal : goal.returns-in-Equal
returns-in-Equal c =
    other_content c.args.one.now c.args.next.now c.deref.result.now c.as_slice.result.now c.as_slice-in-Equal.result.now _ c.deref.ensures.value c.in-Equal.ensures c.as_slice.ensures.value c.as_slice-in-Equal.ensures.value c.eq.ensures
