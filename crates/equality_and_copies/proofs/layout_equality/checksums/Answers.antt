use Rattle.equality_and_copies.proofs.SeenLaws.{checksums-decide}
use Rattle.equality_and_copies.proofs.layout_equality.checksums.Goals as goal

pub returns : goal.returns
returns c = checksums-decide
