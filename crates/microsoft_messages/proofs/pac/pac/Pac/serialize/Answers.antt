use Rattle.microsoft_messages.proofs.WritingLaws.{pac-laid, written-is}
use Rattle.microsoft_messages.proofs.pac.pac.Pac.serialize.Goals as goal

pub returns-in-Ok-clause-laid : goal.returns-in-Ok-clause-laid
returns-in-Ok-clause-laid g c = λ placed. pac-laid _ placed (written-is _ _ c.in_ok-bytes.ensures.exact).1
