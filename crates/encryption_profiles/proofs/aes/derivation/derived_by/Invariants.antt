use Rattle.std.proofs.Common.{◌≡◌, ◌-◌, ◌*◌, ◌++◌, length, vec_len}
use Rattle.block_ciphers.specs.Aes.{aes_cipher}
use Rattle.block_ciphers.specs.Expanded.{IsScheduleOf}
use Rattle.encryption_profiles.specs.NFold.{n_fold_of}
use Rattle.encryption_profiles.specs.Derivation.{iterated_ciphers}
use Rattle.encryption_profiles.proofs.aes.derivation.derived_by.Given as goal

abbrev pub invariant-loop : goal.invariant-loop
invariant-loop l = record {
  expanded : IsScheduleOf l.keys l.key;
  block_sized : length l.block ≡ 16;
  sized : vec_len l.derived ≡ 16 * l.counter;
  rest : l.derived.items ++ iterated_ciphers (aes_cipher l.key) l.block (l.end - l.counter)
      ≡ iterated_ciphers (aes_cipher l.key) (n_fold_of l.well_known 128) l.end;
}
