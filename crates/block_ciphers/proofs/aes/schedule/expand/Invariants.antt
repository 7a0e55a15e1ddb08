use Rattle.std.proofs.Common.{◌≡◌, ◌-◌, length, take}
use Rattle.block_ciphers.specs.Aes.{expansion}
use Rattle.block_ciphers.specs.Words.{bytes_of}
use Rattle.block_ciphers.proofs.aes.schedule.expand.Given as goal

abbrev pub invariant-loop-i : goal.invariant-loop-i
invariant-loop-i l =
    record {
      long : length l.words ≡ 60;
      so_far : bytes_of (take l.i l.words) ≡ expansion (bytes_of (take l.key_words l.initial.words)) (l.i - l.key_words);
    }
