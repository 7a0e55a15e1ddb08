use Rattle.std.proofs.Common.{◌≡◌, ◌+◌, map, drop}
use Rattle.microsoft_messages.specs.Buffers.{buffer_of, FieldsFit}
use Rattle.microsoft_messages.specs.PacWriting.{rooms_of, pac_size}
use Rattle.microsoft_messages.proofs.pac.pac.size_of.Given as goal

-- what is left
abbrev pub invariant-loop-buffer : goal.invariant-loop-buffer
invariant-loop-buffer l = record {
  size : l.size + rooms_of (map buffer_of (drop l.buffer-index l.buffers)) ≡ pac_size (map buffer_of l.buffers);
  fit : FieldsFit (map buffer_of (drop l.buffer-index l.buffers)) → FieldsFit (map buffer_of l.buffers);
}
