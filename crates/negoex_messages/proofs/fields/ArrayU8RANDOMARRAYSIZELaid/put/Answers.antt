use Rattle.std.proofs.Common.{inl}
use Rattle.std.proofs.lemmas.Result.{MatchResult-weaker}
use Rattle.negoex_messages.proofs.PairPut.{random-put}
use Rattle.negoex_messages.proofs.fields.ArrayU8RANDOMARRAYSIZELaid.put.Goals as goal

pub returns : goal.returns
returns c = MatchResult-weaker c.extend.result c.extend.ensures (λ _ e. random-put _ _ _ _ _ c.told-self e) (λ _ memory. inl memory)
