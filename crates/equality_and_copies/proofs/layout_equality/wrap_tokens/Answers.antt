use Rattle.equality_and_copies.proofs.SeenLaws.{wrap_tokens-decide}
use Rattle.equality_and_copies.proofs.layout_equality.wrap_tokens.Goals as goal

pub returns : goal.returns
returns c = wrap_tokens-decide
