-- Blocks that are enough for so many bytes.
use Rattle.std.proofs.Common.{ℕ, ◌*◌, ◌<◌, ◌≤◌, arith}
use Rattle.std.proofs.Math.Nat.{div-add-mod, mod-lt}
use Rattle.std.specs.Int.{div_ceil}

pub enough_blocks : (len n : ℕ) → 0 < n → len ≤ n * div_ceil len n
enough_blocks len n some =
    let parts = div-add-mod len n in
    let below = mod-lt len some in
    grind (arith, parts, below)
