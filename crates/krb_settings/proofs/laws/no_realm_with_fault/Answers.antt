use Rattle.krb_settings.proofs.Files.{no_realm_with_fault}
use Rattle.krb_settings.proofs.laws.no_realm_with_fault.Goals as goal

pub returns : goal.returns
returns c = no_realm_with_fault
