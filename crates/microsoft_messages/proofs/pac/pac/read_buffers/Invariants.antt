use Rattle.std.proofs.Common.{◌≡◌, ◌≤◌, length, map, ◌+◌, ◌-◌, ◌*◌}
use Rattle.microsoft_messages.specs.PacReading.{buffers_at}
use Rattle.microsoft_messages.specs.Buffers.{buffer_of}
use Rattle.microsoft_messages.proofs.PacReadingLaws.{followed}
use Rattle.microsoft_messages.proofs.pac.pac.read_buffers.Given as goal

-- what was read so far, and that each buffer's row is there
abbrev pub invariant-loop-i : goal.invariant-loop-i
invariant-loop-i l =
    (followed (map buffer_of l.buffers.items) (buffers_at l.stop (l.count - l.i) (8 + 16 * l.i) l.bytes) ≡ buffers_at l.stop l.count 8 l.bytes)
    × (length l.buffers.items ≡ l.i) × (8 + 16 * l.i ≤ length l.bytes)
