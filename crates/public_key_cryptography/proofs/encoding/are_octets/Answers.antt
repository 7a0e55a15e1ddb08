use Rattle.public_key_cryptography.proofs.encoding.are_octets.Goals as goal

pub returns : goal.returns
returns c = λ k. (c.type_inv.octets k).fits
