use Rattle.krb_password_changes.proofs.FramesJudged.{frame-judged}
use Rattle.krb_password_changes.proofs.messages.laws.written_is_read.Goals as goal

pub returns : goal.returns
returns c = frame-judged
