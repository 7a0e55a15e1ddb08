use Rattle.krb_account_texts.proofs.Texts.{text-read}
use Rattle.krb_account_texts.proofs.laws.written_is_read.Goals as goal

pub returns : goal.returns
returns c = text-read
