use Rattle.krb_password_changes.proofs.AskedFor.{asked_for}
use Rattle.krb_password_changes.proofs.laws.granted_is_asked_for.Goals as goal

pub returns : goal.returns
returns c = asked_for
