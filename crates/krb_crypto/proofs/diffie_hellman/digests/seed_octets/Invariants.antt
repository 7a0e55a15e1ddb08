use Rattle.std.proofs.Common.{◌≡◌, ◌*◌, vec_len}
use Rattle.krb_crypto.specs.Agreement.{numbered_digests}
use Rattle.krb_crypto.proofs.diffie_hellman.digests.seed_octets.Given as goal

abbrev pub invariant-loop-number : goal.invariant-loop-number
invariant-loop-number l = record {
  digests : l.octets.items ≡ numbered_digests l.secret l.number;
  sized : vec_len l.octets ≡ 20 * l.number;
}
