use Rattle.krb_realm_files.proofs.Again.{account_as_written}
use Rattle.krb_realm_files.proofs.laws.account_as_written.Goals as goal

pub returns : goal.returns
returns c = account_as_written
