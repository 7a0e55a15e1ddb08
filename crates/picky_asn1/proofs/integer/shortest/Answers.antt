use Rattle.std.proofs.Common.{sym, ◌∙◌}
use Rattle.picky_asn1.proofs.IntegerLemmas.{shorter}
use Rattle.picky_asn1.proofs.integer.shortest.Goals as goal

pub loop-rest-preserved : goal.loop-rest-preserved
loop-rest-preserved c =
    let less = shorter c.loop-rest.rest.now c.loop-rest.invariant.0 (sym c.loop-rest-test.ensures) in
    (less.0, less.1 ∙ c.loop-rest.invariant.1)
