use Rattle.std.proofs.Common.{length, map}
use Rattle.negoex_messages.proofs.ElementsRead.{IsSoFar, AreInside}
use Rattle.negoex_messages.proofs.vectors.read_elements.Given as goal

abbrev pub invariant-elements : goal.invariant-elements
invariant-elements g l =
    IsSoFar g.T.Laid.layout l.message l.count l.offset (map g.T.Laid.view l.elements.items) l.left l.place
    × AreInside (length l.elements.items) l.offset l.place (length l.message)

abbrev pub decreases-elements : goal.decreases-elements
decreases-elements g l = l.left
