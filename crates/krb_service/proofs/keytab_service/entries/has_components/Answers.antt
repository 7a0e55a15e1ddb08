use Rattle.krb_service.proofs.HasEntry.{other_length}
use Rattle.krb_service.proofs.keytab_service.entries.has_components.Goals as goal

pub returns-then-components-name : goal.returns-then-components-name
returns-then-components-name c = other_length c.args.components.now c.args.name.now c.if-components-name.true
