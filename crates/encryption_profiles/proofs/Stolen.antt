-- Each text of bytes has a stolen chain, which is bytes.
use Rattle.std.proofs.Common.{◌≡◌, ◌+◌, ◌-◌, ◌*◌, ℕ, List, ◌++◌, length, take, drop, inl, inr}
use Rattle.std.proofs.lemmas.Bool.{cases_lt}
use Rattle.block_ciphers.specs.Bytes.{IsBytes}
use Rattle.block_ciphers.specs.Chains.{IsBlockCipher, IsStolen, block_at, block_count, swapped, zero_filled}
use Rattle.block_ciphers.proofs.Chaining.{chain-bytes}
use Rattle.block_ciphers.proofs.States.{IsBytes-append, IsBytes-drop, IsBytes-take}
use Rattle.block_ciphers.proofs.Stealing.{length-zero_filled, stolen_long, stolen_short, zero_filled-bytes}
use Rattle.encryption_profiles.proofs.Chained.{has_chain}

module _ (size : ℕ) (E D : List ℕ → List ℕ) (pair : IsBlockCipher size E D) where
  -- what a text of bytes is stolen to is bytes
  pub stolen-bytes : (p c : List ℕ) → IsBytes p → IsStolen size E p c → IsBytes c
  stolen-bytes p c bytes stolen =
      let n : ℕ = block_count size (length p) in
      let whole : length (zero_filled size p) ≡ size * n = length-zero_filled size p pair.some in
      let filled = zero_filled-bytes size p bytes in
      elim (cases_lt size (length p)) [
        | inl more ↦
            (let long = stolen.long more in
            let x : List ℕ = long.0 in
            let x_bytes = chain-bytes size E D pair (zero_filled size p) x n filled whole long.1 in
            let m : ℕ = n - 2 in
            let block = λ (i : ℕ). IsBytes-take size (drop (size * i) x) (IsBytes-drop (size * i) x x_bytes) in
            rw long.2
            (IsBytes-append (take (size * m) x ++ block_at size x (m + 1)) (take (length p - size * (m + 1)) (block_at size x m))
            (IsBytes-append (take (size * m) x) (block_at size x (m + 1)) (IsBytes-take (size * m) x x_bytes) (block (m + 1)))
            (IsBytes-take (length p - size * (m + 1)) (block_at size x m) (block m))))
        | inr few ↦ chain-bytes size E D pair (zero_filled size p) c n filled whole (stolen.short few)
      ]

  pub has_stolen : (p : List ℕ) → IsBytes p → (c : List ℕ) × IsStolen size E p c
  has_stolen p bytes =
      let chained = has_chain size E D pair (zero_filled size p) (block_count size (length p)) (zero_filled-bytes size p bytes) (length-zero_filled size p pair.some) in
      elim (cases_lt size (length p)) [
        | inl more ↦ (take (length p) (swapped size chained.0), stolen_long size E p chained.0 pair.some more chained.1)
        | inr few ↦ (chained.0, stolen_short size E p chained.0 few chained.1)
      ]
