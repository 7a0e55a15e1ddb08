use Rattle.krb_password_changes.proofs.Replied.{reply_is_read}
use Rattle.krb_password_changes.proofs.laws.reply_is_read.Goals as goal

pub returns : goal.returns
returns c = reply_is_read
