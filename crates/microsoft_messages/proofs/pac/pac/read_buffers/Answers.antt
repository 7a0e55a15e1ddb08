use Rattle.std.proofs.Common.{◌≡◌, ◌+◌, ◌-◌, ◌*◌, List, [], ◌∷◌, ◌++◌, map, length, ap, sym, ◌∙◌, inl, inr, arith}
use Rattle.std.proofs.lemmas.List.{map-append, length-append}
use Rattle.byte_streams.proofs.Exits.{at-exit}
use Rattle.microsoft_messages.specs.Buffers.{Buffer, buffer_of}
use Rattle.microsoft_messages.specs.PacReading.{buffers_at}
use Rattle.microsoft_messages.proofs.PacReadingLaws.{followed, followed-step, followed-refused, pac-headed}
use Rattle.microsoft_messages.proofs.pac.pac.read_buffers.Goals as goal

pub returns-in_err-buffer-clause-exact : goal.returns-in_err-buffer-clause-exact
returns-in_err-buffer-clause-exact c =
    let stop = c.args.stop in
    let whole = c.args.bytes.now in
    let count = c.in_ok-count.count in
    let i = c.loop-i.i in
    at-exit _ _ _ _ c.from_residual-in_err-buffer.ensures.1
    (elim c.in_err-buffer.ensures.exact [
      | inl memory ↦ inl memory
      | inr wrong ↦ inr
          (pac-headed stop whole count (sym c.in_ok-count.ensures.exact)
          ∙ followed-refused stop (count - i) (count - (i + 1)) (8 + 16 * i) whole _ _ _ (omega arith) wrong c.loop-i.invariant.0)
    ])

pub loop-i-preserved : goal.loop-i-preserved
loop-i-preserved c =
    let stop = c.args.stop in
    let whole = c.args.bytes.now in
    let count = c.in_ok-count.count in
    let i = c.loop-i.i in
    let xs = map buffer_of c.loop-i.buffers.items in
    let b = buffer_of c.in_ok-buffer.buffer in
    let grown : map buffer_of c.keep.new.buffers.items ≡ xs ++ b ∷ [] =
    ap (map buffer_of) c.in_ok-keep.ensures ∙ map-append buffer_of c.loop-i.buffers.items (c.in_ok-buffer.buffer ∷ []) in (
      ap (λ (l : List Buffer). followed l (buffers_at stop (count - (i + 1)) (8 + 16 * (i + 1)) whole)) grown
          ∙ followed-step stop (count - i) (count - (i + 1)) (8 + 16 * i) (8 + 16 * (i + 1)) whole xs b _ (omega arith) (omega arith)
          c.in_ok-buffer.ensures.exact c.loop-i.invariant.0,
      ap length c.in_ok-keep.ensures ∙ length-append c.loop-i.buffers.items (c.in_ok-buffer.buffer ∷ []) ∙ ap (λ n. n + 1) c.loop-i.invariant.1,
      omega (arith, c.in_ok-buffer.ensures.room),
    )
