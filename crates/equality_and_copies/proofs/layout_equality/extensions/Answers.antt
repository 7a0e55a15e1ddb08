use Rattle.equality_and_copies.proofs.SeenLaws.{extensions-decide}
use Rattle.equality_and_copies.proofs.layout_equality.extensions.Goals as goal

pub returns : goal.returns
returns c = extensions-decide
