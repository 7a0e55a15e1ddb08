use Rattle.krb_realm_files.proofs.Keyed.{are_keyed}
use Rattle.krb_realm_files.proofs.laws.are_keyed.Goals as goal

pub returns : goal.returns
returns c = are_keyed
