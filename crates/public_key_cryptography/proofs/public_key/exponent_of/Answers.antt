use Rattle.std.proofs.Common.{◌∙◌, arith}
use Rattle.public_key_cryptography.proofs.Refusals.{single}
use Rattle.public_key_cryptography.proofs.public_key.exponent_of.Goals as goal

pub returns : goal.returns
returns c = single c.read_octets.new.words (omega arith) ∙ c.read_octets.ensures
