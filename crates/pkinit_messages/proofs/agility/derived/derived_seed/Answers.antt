use Rattle.pkinit_messages.proofs.CountedLemmas.{seed_small}
use Rattle.pkinit_messages.proofs.agility.derived.derived_seed.Goals as goal

pub kdf_octets-requires : goal.kdf_octets-requires
kdf_octets-requires c = rw (c.div_ceil-len.ensures, c.seed_bit_len.ensures) (seed_small c.args.suite)
