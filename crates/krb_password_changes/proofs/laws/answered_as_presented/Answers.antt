use Rattle.krb_password_changes.proofs.Once.{answered_as_presented}
use Rattle.krb_password_changes.proofs.laws.answered_as_presented.Goals as goal

pub returns : goal.returns
returns c = answered_as_presented
