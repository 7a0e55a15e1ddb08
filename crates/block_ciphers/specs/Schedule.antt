-- The round keys of three passes over a block.
use Rattle.std.specs.Prelude.{ℕ, List}
use Rattle.block_ciphers.specs.declared.des3.schedule.KeySchedule.{KeySchedule}
use Rattle.block_ciphers.specs.Bits.{strings}
use Rattle.block_ciphers.specs.Des.{cipher_by}

-- the block of eight bytes after the three passes, each under round keys of 48 bits
unfoldable pub cipher_under : KeySchedule → List ℕ → List ℕ
cipher_under k block = cipher_by (strings 48 k.third) (cipher_by (strings 48 k.second) (cipher_by (strings 48 k.first) block))
