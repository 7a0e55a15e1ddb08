use Rattle.equality_and_copies.proofs.SeenLaws.{mic_tokens-decide}
use Rattle.equality_and_copies.proofs.layout_equality.mic_tokens.Goals as goal

pub returns : goal.returns
returns c = mic_tokens-decide
