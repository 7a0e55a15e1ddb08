use Rattle.equality_and_copies.proofs.SeenLaws.{nego_messages-decide}
use Rattle.equality_and_copies.proofs.layout_equality.nego_messages.Goals as goal

pub returns : goal.returns
returns c = nego_messages-decide
