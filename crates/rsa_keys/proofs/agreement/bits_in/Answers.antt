use Rattle.x509_keys.specs.KeyFunctions.TheirValue.{ValueBits}
use Rattle.rsa_keys.proofs.Values.{bits_refused, bits_theirs, if_refused}
use Rattle.rsa_keys.proofs.agreement.bits_in.Goals as goal

pub returns-in-Ok : goal.returns-in-Ok
returns-in-Ok c = bits_theirs c.args.group c.args.bits.now c.in-Ok.value c.in-Ok.ensures.0

pub returns-in-Err : goal.returns-in-Err
returns-in-Err c =
    if_refused c.args.group (ValueBits c.args.bits.now) c.in-Err.fault c.none_unless_memory.result (bits_refused c.args.group c.args.bits.now c.in-Err.fault c.in-Err.ensures) c.none_unless_memory.ensures
