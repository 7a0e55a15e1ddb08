use Rattle.x509_keys.specs.KeyFunctions.TheirValue.{WholeValue}
use Rattle.rsa_keys.proofs.Values.{if_refused, if_same, whole_refused}
use Rattle.rsa_keys.proofs.agreement.whole_in.Goals as goal

pub returns-in-Ok : goal.returns-in-Ok
returns-in-Ok c = if_same c.args.group c.args.element.now c.in-Ok.value c.in_group.result c.in-Ok.ensures.0 c.in_group.ensures

pub returns-in-Err : goal.returns-in-Err
returns-in-Err c =
    if_refused c.args.group (WholeValue c.args.element.now) c.in-Err.fault c.none_unless_memory.result (whole_refused c.args.group c.args.element.now c.in-Err.fault c.in-Err.ensures) c.none_unless_memory.ensures
