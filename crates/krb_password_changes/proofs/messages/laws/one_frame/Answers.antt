use Rattle.krb_password_changes.proofs.FramesJudged.{frame-one}
use Rattle.krb_password_changes.proofs.messages.laws.one_frame.Goals as goal

pub returns : goal.returns
returns c = frame-one
