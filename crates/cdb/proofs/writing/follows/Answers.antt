use Rattle.cdb.proofs.Clashing.{clash_at}
use Rattle.cdb.proofs.writing.follows.Goals as goal

pub returns : goal.returns
returns c =
    clash_at c.args.records.now c.args.index c.index-records-before.result c.index-records-index.result c.comes_next.result c.requires.some c.requires.within
    c.index-records-before.is c.index-records-index.is c.comes_next.ensures
