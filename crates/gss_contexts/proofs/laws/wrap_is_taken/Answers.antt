use Rattle.gss_contexts.specs.Contexts.{sender_of}
use Rattle.gss_contexts.proofs.TwoEnds.{wrap_is_taken}
use Rattle.gss_contexts.proofs.laws.wrap_is_taken.Goals as goal

pub returns : goal.returns
returns c = λ from to. wrap_is_taken to (sender_of from)
