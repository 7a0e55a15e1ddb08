use Rattle.std.proofs.Common.{◌≡◌, ◌+◌, ◌*◌, length, map, drop}
use Rattle.byte_streams.specs.Parts.{put_all}
use Rattle.microsoft_messages.specs.Buffers.{buffer_of, buffer_parts}
use Rattle.microsoft_messages.proofs.pac.pac.put_buffers.Given as goal

-- what is left
abbrev pub invariant-loop-i : goal.invariant-loop-i
invariant-loop-i l = record {
  parts : put_all (buffer_parts (8 + 16 * l.i) (map buffer_of (drop l.i l.buffers))) l.bytes
      ≡ put_all (buffer_parts 8 (map buffer_of l.buffers)) l.initial.bytes;
  size : length l.bytes ≡ length l.initial.bytes;
}
