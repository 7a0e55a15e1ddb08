use Rattle.std.proofs.Common.{◌≡◌, ◌-◌, ◌*◌, ◌^◌}
use Rattle.encryption_profiles.specs.NFold.{number_at, residue}
use Rattle.encryption_profiles.proofs.whole_copies.five_fold.Given as goal

abbrev pub invariant-loop : goal.invariant-loop
invariant-loop l = record {
  copy_is : l.copy ≡ number_at l.constant (40 * l.counter) 40;
  sum_is : l.sum ≡ residue (2 ^ 128 - 1) (number_at l.constant 0 (40 * l.counter));
}
