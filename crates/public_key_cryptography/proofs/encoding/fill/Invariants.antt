use Rattle.std.proofs.Common.{◌≡◌, take, replicate}
use Rattle.public_key_cryptography.proofs.encoding.fill.Given as goal

abbrev pub invariant-loop-k : goal.invariant-loop-k
invariant-loop-k l = take l.k l.octets ≡ replicate l.k l.octet
