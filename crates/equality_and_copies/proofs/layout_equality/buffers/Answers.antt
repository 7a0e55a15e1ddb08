use Rattle.equality_and_copies.proofs.SeenLaws.{buffers-decide}
use Rattle.equality_and_copies.proofs.layout_equality.buffers.Goals as goal

pub returns : goal.returns
returns c = buffers-decide
