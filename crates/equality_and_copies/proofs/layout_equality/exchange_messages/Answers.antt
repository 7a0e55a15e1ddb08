use Rattle.equality_and_copies.proofs.SeenLaws.{exchange_messages-decide}
use Rattle.equality_and_copies.proofs.layout_equality.exchange_messages.Goals as goal

pub returns : goal.returns
returns c = exchange_messages-decide
