use Rattle.krb_settings.specs.Written.{shown_realm}
use Rattle.krb_settings_kdc.specs.Realms.{realm_of_settings}
use Rattle.krb_settings_kdc.proofs.Checking.{fault_kept}
use Rattle.krb_settings_kdc.proofs.check.fault_of.Goals as goal

pub returns : goal.returns
returns c = rw c.err.ensures.value (fault_kept (realm_of_settings (shown_realm c.args.written.now)) c.realm_of_settings.result c.realm_of_settings.ensures)
