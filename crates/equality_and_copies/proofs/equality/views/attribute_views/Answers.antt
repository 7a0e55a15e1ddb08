use Rattle.equality_and_copies.proofs.ViewLemmas.{attributes-decide}
use Rattle.equality_and_copies.proofs.equality.views.attribute_views.Goals as goal

pub returns : goal.returns
returns c = attributes-decide
