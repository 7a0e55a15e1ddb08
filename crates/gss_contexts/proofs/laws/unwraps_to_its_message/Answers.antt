use Rattle.gss_contexts.specs.Contexts.{sender_of}
use Rattle.gss_contexts.proofs.TwoEnds.{one_unwrapping}
use Rattle.gss_contexts.proofs.laws.unwraps_to_its_message.Goals as goal

pub returns : goal.returns
returns c = λ from to new. one_unwrapping to new (sender_of from)
