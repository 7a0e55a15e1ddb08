use Rattle.std.proofs.Common.{List, ℕ, length, map, ap, sym, subst, ◌∙◌}
use Rattle.std.proofs.lemmas.List.{length-replicate}
use Rattle.microsoft_messages.specs.Buffers.{buffer_of, AreSized}
use Rattle.microsoft_messages.specs.PacWriting.{pac_size}
use Rattle.microsoft_messages.specs.declared.pac.buffer.PacBuffer.{PacBuffer}
use Rattle.microsoft_messages.proofs.WritingLaws.{counted-sized, room-enough}
use Rattle.microsoft_messages.proofs.pac.pac.Pac.bytes.Goals as goal

pub put_parts-requires-clause-room : goal.put_parts-requires-clause-room
put_parts-requires-clause-room c =
    room-enough _ _
    (ap length (c.deref_mut.ensures.value ∙ c.in_ok-bytes.ensures) ∙ length-replicate c.in-Some.size 0 ∙ c.in-Some.ensures.size
    ∙ ap (λ (l : List PacBuffer). pac_size (map buffer_of l)) (c.deref.ensures.value ∙ sym c.deref-3.ensures.value))

pub put_parts-requires-clause-sized : goal.put_parts-requires-clause-sized
put_parts-requires-clause-sized c =
    subst (λ (n : ℕ). AreSized n (map buffer_of c.deref-3.result.now))
    (sym (ap length (c.deref_mut.ensures.value ∙ c.in_ok-bytes.ensures) ∙ length-replicate c.in-Some.size 0))
    (subst (λ (l : List PacBuffer). AreSized c.in-Some.size (map buffer_of l)) (c.deref-2.ensures.value ∙ sym c.deref-3.ensures.value)
    (counted-sized c.in-Some.size _ _ (sym c.in_ok-count.ensures)).0)
