use Rattle.std.proofs.Common.{◌∙◌}
use Rattle.krb_service.proofs.KeySuites.{key_none}
use Rattle.krb_service.proofs.keytab_service.entries.key_of.Goals as goal

pub returns-in_err-key : goal.returns-in_err-key
returns-in_err-key c = c.from_residual.ensures ∙ key_none c.args.key_record.now c.in_err-key.ensures
