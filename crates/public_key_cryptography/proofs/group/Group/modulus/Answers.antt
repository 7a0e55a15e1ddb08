use Rattle.std.proofs.Common.{ap, ◌∙◌, arith, length}
use Rattle.modular_arithmetic.specs.Naturals.{os2ip}
use Rattle.modular_arithmetic.specs.Refusals.{refusal_of}
use Rattle.public_key_cryptography.specs.Agreements.{prime_of}
use Rattle.public_key_cryptography.proofs.Secrets.{never_refused, sized}
use Rattle.public_key_cryptography.proofs.group.Group.modulus.Goals as goal

pub of-requires : goal.of-requires
of-requires c = ap refusal_of c.prime.ensures ∙ never_refused c.args.self

pub returns : goal.returns
unfolding prime_of
returns c = record {
  room = omega (arith, c.of.ensures.size, ap length c.prime.ensures, sized c.args.self);
  value = c.of.ensures.value ∙ ap os2ip c.prime.ensures;
}
