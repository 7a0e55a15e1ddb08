use Rattle.std.proofs.Common.{◌≡◌}
use Rattle.pkinit_messages.specs.Kdfs.{counted_digests, hash_of}
use Rattle.pkinit_messages.proofs.agility.counted.kdf_octets.Given as goal

abbrev pub invariant-loop-done : goal.invariant-loop-done
invariant-loop-done l = l.bytes.items ≡ counted_digests (hash_of l.kdf) l.octets l.done
