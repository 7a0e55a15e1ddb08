use Rattle.byte_streams.proofs.CloneLaws.{copies-seen}
use Rattle.microsoft_messages.specs.Buffers.{buffer_of}
use Rattle.microsoft_messages.proofs.pac.pac.PacClone.clone.Goals as goal

pub returns : goal.returns
returns c = record { cases = copies-seen buffer_of _ _ c.in_ok-buffers.ensures.cases.0 }
