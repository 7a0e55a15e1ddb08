use Rattle.rsa_keys.proofs.Values.{if_own_made, if_own_none}
use Rattle.rsa_keys.proofs.agreement.own_value.Goals as goal

pub returns-in-Ok : goal.returns-in-Ok
returns-in-Ok c = if_own_made c.args.group c.args.secret.now c.in-Ok.value c.element_of.result c.in-Ok.ensures.0 c.in-Ok.ensures.1 c.element_of.ensures

pub returns-in-Err : goal.returns-in-Err
returns-in-Err c = if_own_none c.args.group c.args.secret.now c.in-Err.fault c.none_unless_memory.result c.in-Err.ensures c.none_unless_memory.ensures
