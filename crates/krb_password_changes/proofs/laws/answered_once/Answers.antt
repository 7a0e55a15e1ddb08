use Rattle.krb_password_changes.proofs.Once.{answered_once}
use Rattle.krb_password_changes.proofs.laws.answered_once.Goals as goal

pub returns : goal.returns
returns c = answered_once
