use Rattle.gss_contexts.specs.Contexts.{sender_of}
use Rattle.gss_contexts.proofs.TwoEnds.{mic_is_taken}
use Rattle.gss_contexts.proofs.laws.mic_is_taken.Goals as goal

pub returns : goal.returns
returns c = λ from to. mic_is_taken to (sender_of from)
