use Rattle.std.proofs.Common.{ap}
use Rattle.rsa_keys.specs.OwnKeys.{refusal_in}
use Rattle.rsa_keys.proofs.Usable.{usable}
use Rattle.rsa_keys.proofs.own_key.public_key_of.Goals as goal

pub returns-in-Ok : goal.returns-in-Ok
returns-in-Ok c = usable c.args.key.now c.in-Ok.numbers.modulus.now c.in-Ok.numbers.exponent.now c.key_of_numbers.result c.in-Ok.ensures c.key_of_numbers.ensures

pub returns-in-Err : goal.returns-in-Err
returns-in-Err c = ap refusal_in c.in-Err.ensures
