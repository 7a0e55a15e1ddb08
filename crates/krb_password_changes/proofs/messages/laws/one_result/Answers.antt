use Rattle.krb_password_changes.proofs.Cuts.{result-one}
use Rattle.krb_password_changes.proofs.messages.laws.one_result.Goals as goal

pub returns : goal.returns
returns c = result-one
