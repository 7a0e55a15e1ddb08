use Rattle.krb_settings.specs.Written.{shown_realm}
use Rattle.krb_settings_kdc.proofs.check.check_written.Goals as goal

pub returns-in_ok-warnings_of-in-None : goal.returns-in_ok-warnings_of-in-None
returns-in_ok-warnings_of-in-None c = (c.in-None.ensures.0, (shown_realm c.args.written.now, c.requires, c.in-None.ensures.1))
