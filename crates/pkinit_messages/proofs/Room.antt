-- A value alone in a struct takes as many bytes as without it.
use Rattle.std.proofs.Common.{◌≡◌, ℕ, ◌+◌, ◌<◌, ◌%◌, ◌^◌, sym, subst, arith}
use prog.Memory.{size, align, up}
use prog.Align.{align_w, align-bytes, align_size, dv→}
use mir.Syntax.{Ty, Width, w8, w16, w32, w64, w128}
use mir.Val.{bytes}
use Prim.Native.Nat.{max}

room_w : (w : Width) (s : ℕ) → s % bytes w ≡ 0 → s < 2 ^ 63 → up (max (bytes w) 1) (up (bytes w) 0 + s) < 2 ^ 63
room_w w8 s d h = omega (arith, d, h)
room_w w16 s d h = omega (arith, d, h)
room_w w32 s d h = omega (arith, d, h)
room_w w64 s d h = omega (arith, d, h)
room_w w128 s d h = omega (arith, d, h)

pub room : (τ : Ty) → size τ < 2 ^ 63 → up (max (align τ) 1) (up (align τ) 0 + size τ) < 2 ^ 63
room τ h =
    subst (λ (k : ℕ). up (max k 1) (up k 0 + size τ) < 2 ^ 63) (sym (align-bytes τ))
    (room_w (align_w τ) (size τ) (subst (λ (k : ℕ). size τ % k ≡ 0) (align-bytes τ) (dv→ (align τ) (size τ) (align_size τ))) h)
