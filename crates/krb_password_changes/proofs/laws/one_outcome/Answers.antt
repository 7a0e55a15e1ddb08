use Rattle.krb_password_changes.specs.ChangeTable.{judged_change}
use Rattle.krb_password_changes.proofs.laws.one_outcome.Goals as goal

pub returns : goal.returns
returns c = λ rules lines version admission octets. (judged_change rules lines version admission octets).one
