use Rattle.krb_account_texts.proofs.Read.{account-ok}
use Rattle.krb_account_texts.proofs.laws.read_account_is_writable.Goals as goal

pub returns : goal.returns
returns c = account-ok
