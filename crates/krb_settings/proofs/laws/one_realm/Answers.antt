use Rattle.krb_settings.proofs.Files.{one_realm}
use Rattle.krb_settings.proofs.laws.one_realm.Goals as goal

pub returns : goal.returns
returns c = one_realm
