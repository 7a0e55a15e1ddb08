-- Keys of AES with their round keys.
use Rattle.std.specs.Prelude.{◌≡◌, ℕ, List}
use Rattle.block_ciphers.specs.Aes.{IsAesKey, key_schedule, round_count}
use Rattle.block_ciphers.specs.Words.{schedule_of}
use Rattle.block_ciphers.specs.declared.aes.schedule.KeySchedule.{KeySchedule}

-- the round keys are those of the key
pub record IsScheduleOf (keys : KeySchedule) (key : List ℕ) : Type 0 where
  pub is_key : IsAesKey key
  pub words : schedule_of keys.rounds keys.words ≡ key_schedule key
  pub rounds : keys.rounds ≡ round_count key
