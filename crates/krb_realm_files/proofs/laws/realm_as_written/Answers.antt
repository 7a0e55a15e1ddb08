use Rattle.krb_realm_files.proofs.RealmAgain.{realm_as_written}
use Rattle.krb_realm_files.proofs.laws.realm_as_written.Goals as goal

pub returns : goal.returns
returns c = realm_as_written
