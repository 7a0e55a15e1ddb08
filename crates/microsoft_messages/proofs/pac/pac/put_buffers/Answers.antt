use Rattle.std.proofs.Common.{ℕ, length, sym, subst}
use Rattle.microsoft_messages.specs.Buffers.{buffer_of, IsSized}
use Rattle.microsoft_messages.specs.declared.pac.buffer.PacBuffer.{PacBuffer}
use Rattle.microsoft_messages.proofs.WritingLaws.{sized-at}
use Rattle.microsoft_messages.proofs.pac.pac.put_buffers.Goals as goal

pub put-requires-clause-sized : goal.put-requires-clause-sized
put-requires-clause-sized c =
    let b = c.index-buffers-i.result in
    subst (λ (n : ℕ). IsSized n (buffer_of b)) (sym c.loop-i.invariant.size)
    (subst (λ (x : PacBuffer). IsSized (length c.args.bytes.now) (buffer_of x)) (sym c.index-buffers-i.is)
    (sized-at _ c.args.buffers.now c.loop-i.i b c.requires.sized c.loop-i-test.true))
