use Rattle.microsoft_messages.proofs.WritingLaws.{given-back}
use Rattle.microsoft_messages.proofs.pac.pac.written_is_read.Goals as goal

pub returns : goal.returns
returns c = given-back
