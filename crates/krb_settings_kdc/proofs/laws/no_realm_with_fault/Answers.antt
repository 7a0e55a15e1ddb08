use Rattle.krb_settings_kdc.proofs.SoleRealm.{no_realm_with_fault}
use Rattle.krb_settings_kdc.proofs.laws.no_realm_with_fault.Goals as goal

pub returns : goal.returns
returns c = no_realm_with_fault
