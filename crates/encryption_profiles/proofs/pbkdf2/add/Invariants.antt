use Rattle.std.proofs.Common.{◌≡◌, ◌<◌, ◌≤◌, ℕ, bit_xor, get_or, length}
use Rattle.encryption_profiles.proofs.pbkdf2.add.Given as goal

abbrev pub invariant-loop-i : goal.invariant-loop-i
invariant-loop-i g l = record {
  same_length : length l.sum ≡ length l.fn.sum;
  below : (k : ℕ) → k < l.i → get_or l.sum k 0 ≡ bit_xor (get_or l.fn.sum k 0) (get_or l.other k 0);
  above : (k : ℕ) → l.i ≤ k → get_or l.sum k 0 ≡ get_or l.fn.sum k 0;
}
