use Rattle.std.proofs.Common.{◌≡◌, ◌-◌, ◌<◌, ◌≤◌, ℕ, List, [], ◌∷◌, ◌++◌, length, take, drop, slice_set, slice_index_or, sym, ap, ◌∙◌, arith}
use Rattle.std.proofs.Math.Seq.{take-length}
use Rattle.byte_streams.proofs.source.RefSliceU8Source.read_some.Goals as goal

-- the first byte was moved to the front of a buffer, and the rest is left
moved : (all buffer : List ℕ) → 1 ≤ length all → 0 < length buffer → all ≡ take 1 (slice_set buffer 0 (slice_index_or all 0 0)) ++ take (length all - 1) (drop 1 all)
moved [] buffer some room = absurd (omega (arith, some))
moved (x ∷ xs) [] some room = absurd (omega (arith, room))
moved (x ∷ xs) (b ∷ bs) some room =
    let size : length (x ∷ xs) - 1 ≡ length xs = omega arith in
    ap (λ l. x ∷ l) (sym (ap (λ n. take n xs) size ∙ take-length xs))

pub returns-then-buffer-eq1-clause-bytes : goal.returns-then-buffer-eq1-clause-bytes
returns-then-buffer-eq1-clause-bytes c = (
  moved c.args.self.now.now c.args.buffer.now c.in-len1-up.len_at_least (omega (arith, c.if-buffer-eq1.true)),
  λ wrong room. absurd (omega (arith, wrong)),
)
