use Rattle.krb_settings_kdc.proofs.SoleRealm.{one_realm}
use Rattle.krb_settings_kdc.proofs.laws.one_realm.Goals as goal

pub returns : goal.returns
returns c = one_realm
