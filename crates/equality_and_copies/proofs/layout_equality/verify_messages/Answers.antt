use Rattle.equality_and_copies.proofs.SeenLaws.{verify_messages-decide}
use Rattle.equality_and_copies.proofs.layout_equality.verify_messages.Goals as goal

pub returns : goal.returns
returns c = verify_messages-decide
