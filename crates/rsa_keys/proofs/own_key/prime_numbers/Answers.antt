use Rattle.rsa_keys.proofs.own_key.prime_numbers.Goals as goal

pub returns : goal.returns
returns c = record {
  prime1 = c.in_ok-prime1.ensures;
  prime2 = c.in_ok-prime2.ensures;
  exponent1 = c.in_ok-exponent1.ensures;
  exponent2 = c.in_ok-exponent2.ensures;
  coefficient = c.in_ok-coefficient.ensures;
}
