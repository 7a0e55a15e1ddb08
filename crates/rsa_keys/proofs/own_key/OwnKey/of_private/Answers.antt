use Rattle.std.proofs.Common.{arith, rules}
use Rattle.std.proofs.lemmas.Grind.{common_steps}
use Rattle.rsa_keys.proofs.own_key.OwnKey.of_private.Goals as goal

pub returns-in-Ok : goal.returns-in-Ok
returns-in-Ok c = record {
  public = first_of (search rules, grind (arith, common_steps));
  exponent = first_of (search rules, grind (arith, common_steps));
  primes = (c.in_ok-numbers.numbers, c.in_ok-numbers.ensures, c.by_numbers.ensures.primes);
}
