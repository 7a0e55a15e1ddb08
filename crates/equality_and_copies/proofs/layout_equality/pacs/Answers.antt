use Rattle.equality_and_copies.proofs.SeenLaws.{pacs-decide}
use Rattle.equality_and_copies.proofs.layout_equality.pacs.Goals as goal

pub returns : goal.returns
returns c = pacs-decide
