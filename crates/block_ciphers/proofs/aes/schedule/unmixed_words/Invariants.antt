use Rattle.std.proofs.Common.{◌≡◌, ◌≤◌, ◌<◌, ℕ, length, get_or}
use Rattle.std.specs.Int.{w32, to_be_bytes}
use Rattle.block_ciphers.specs.Aes.{column_product, unmixing}
use Rattle.block_ciphers.proofs.aes.schedule.unmixed_words.Given as goal

abbrev pub invariant-loop-i : goal.invariant-loop-i
invariant-loop-i l =
    record {
      long : length l.unmixed ≡ 60;
      each : (k : ℕ) → 4 ≤ k → k < l.i → to_be_bytes w32 (get_or l.unmixed k 0) ≡ column_product unmixing (to_be_bytes w32 (get_or l.words k 0));
    }
