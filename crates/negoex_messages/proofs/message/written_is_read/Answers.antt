use Rattle.negoex_messages.proofs.MessageLaws.{message-read}
use Rattle.negoex_messages.proofs.message.written_is_read.Goals as goal

pub returns : goal.returns
returns g c = message-read g.M.Laid.layout g.M.Laid.laws g.M.NegoexMessage.filler
