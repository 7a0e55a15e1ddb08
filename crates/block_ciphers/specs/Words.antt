-- Blocks and round keys as words of 32 bits, and the round keys of the equivalent inverse cipher.
use Rattle.std.specs.Prelude.{◌≡◌, ℕ, ◌+◌, ◌*◌, ◌<◌, List, [], ◌∷◌, ◌++◌, map, take}
use Rattle.std.specs.Int.{w32, to_be_bytes}
use Rattle.block_ciphers.specs.Field.{inv_sub_byte}
use Rattle.block_ciphers.specs.Aes.{round_key, inv_mix_columns}
use Rattle.block_ciphers.specs.declared.aes.columns.Columns.{Columns}

-- the bytes of words, the highest of each first
unfoldable pub bytes_of : List ℕ → List ℕ
bytes_of [] = []
bytes_of (w ∷ ws) = to_be_bytes w32 w ++ bytes_of ws

-- the block whose columns are these words
abbrev pub block_of : Columns → List ℕ
block_of s = bytes_of (s.a ∷ s.b ∷ s.c ∷ s.d ∷ [])

-- the key schedule of n rounds at the front of these words
abbrev pub schedule_of : ℕ → List ℕ → List ℕ
schedule_of n words = bytes_of (take (4 * n + 4) words)

-- the bytes that those of a word replace
abbrev pub inv_sub_word : List ℕ → List ℕ
inv_sub_word w = map inv_sub_byte w

-- between the first and the last, d has the round keys of w with their columns unmixed: those of the
-- equivalent inverse cipher (FIPS 197, section 5.3.5)
abbrev pub IsUnmixed : ℕ → List ℕ → List ℕ → Type 0
IsUnmixed n w d = (m : ℕ) → 0 < m → m < n → round_key d m ≡ inv_mix_columns (round_key w m)
