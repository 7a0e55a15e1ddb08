use Rattle.equality_and_copies.proofs.equality.views.name_views.Goals as goal
use Rattle.equality_and_copies.specs.contracts.equality.names.NameEquality.TheImpl.Laws.{is_equality-law as name}

pub returns : goal.returns
returns c = record { printed = λ v w. name v.0.now w.0.now; rfc4514 = λ v w. name v.0.now w.0.now }
