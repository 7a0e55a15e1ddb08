use Rattle.equality_and_copies.proofs.ViewLemmas.{extensions-decide}
use Rattle.equality_and_copies.proofs.equality.views.extension_views.Goals as goal

pub returns : goal.returns
returns c = extensions-decide
