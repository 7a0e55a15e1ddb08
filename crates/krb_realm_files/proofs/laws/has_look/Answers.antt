use Rattle.krb_realm_files.proofs.Said.{has_look}
use Rattle.krb_realm_files.proofs.laws.has_look.Goals as goal

pub returns : goal.returns
returns c = has_look
