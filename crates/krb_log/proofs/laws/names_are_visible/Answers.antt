use Rattle.krb_log.proofs.Visible.{name_is_visible}
use Rattle.krb_log.proofs.laws.names_are_visible.Goals as goal

pub returns : goal.returns
returns c = name_is_visible
