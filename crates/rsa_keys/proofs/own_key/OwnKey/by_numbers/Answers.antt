use Rattle.public_key_cryptography.specs.PrimeSizes.{fits}
use Rattle.rsa_keys.proofs.RightKeys.{no_primes, taken_primes}
use Rattle.rsa_keys.proofs.own_key.OwnKey.by_numbers.Goals as goal

pub returns-in-Ok-clause-primes : goal.returns-in-Ok-clause-primes
returns-in-Ok-clause-primes c =
    taken_primes c.args.numbers (fits c.in-Ok.primes c.args.self.private.public) c.in-Ok.primes c.with_primes.result.private.primes c.with_primes.ensures.primes c.in-Ok.ensures

pub returns-in-Err-clause-primes : goal.returns-in-Err-clause-primes
returns-in-Err-clause-primes c = no_primes c.args.numbers c.args.self.private.primes c.requires
