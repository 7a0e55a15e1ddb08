use Rattle.std.proofs.Common.{None, arith, refl, sym}
use Rattle.modular_arithmetic.proofs.Taken.{taken}
use Rattle.public_key_cryptography.proofs.Refusals.{by_modulus, by_further, fits, modulus-below, modulus-high}
use Rattle.public_key_cryptography.proofs.public_key.PublicKey.new.Goals as goal

pub returns-in-Err : goal.returns-in-Err
returns-in-Err c = by_modulus _ _ _ c.in-Err.ensures

pub returns-in-Some : goal.returns-in-Some
returns-in-Some c = by_further _ _ _ c.in-Ok.ensures.taken c.in-Some.ensures

pub exponent_of-exponent-requires : goal.exponent_of-exponent-requires
exponent_of-exponent-requires c = (fits c.args.numbers.now.modulus.now c.args.numbers.now.exponent.now (sym c.in-None.ensures)).short

pub invariant_of-result : goal.invariant_of-result
invariant_of-result c =
    let n = c.args.numbers.now.modulus.now in
    let parts = fits n c.args.numbers.now.exponent.now (sym c.in-None.ensures) in
    let small = taken n c.in-Ok.ensures.taken in
    record {
      least = omega (arith, parts.strong);
      most = omega (arith, small.most);
      room = omega (arith, c.in-Ok.ensures.size);
      some = omega (arith, parts.great, c.exponent_of-exponent.ensures);
      fits = omega (arith, c.in-Ok.ensures.value, modulus-below n c.are_octets.ensures);
      high = omega (arith, c.in-Ok.ensures.value, modulus-high n c.in-Ok.ensures.taken);
    }

pub returns : goal.returns
returns c = record {
  taken = by_further _ _ None c.in-Ok.ensures.taken c.in-None.ensures;
  modulus = c.in-Ok.ensures;
  len = refl;
  exponent = c.exponent_of-exponent.ensures;
}
