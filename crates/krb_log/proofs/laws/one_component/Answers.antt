use Rattle.krb_log.proofs.OneComponent.{component_is_read}
use Rattle.krb_log.proofs.laws.one_component.Goals as goal

pub returns : goal.returns
returns c = component_is_read
