use Rattle.std.proofs.Common.{◌≡◌, ◌++◌}
use Rattle.std.specs.List.{flat_map}
use Rattle.std.specs.Char.{encode_utf8}
use Rattle.std.specs.Fmt.{HasWritten, IsPlainFormatter}
use Rattle.x509_fields.proofs.bmp_text.BmpTextDisplay.fmt.Given as goal

abbrev pub invariant-loop-character : goal.invariant-loop-character
invariant-loop-character g l = record {
  can_next : (goal.iterator-loop-character g).can_next l.character-iterator;
  is_finite : (goal.iterator-loop-character g).is_finite l.character-iterator;
  left : l.initial.character-iterator ≡ l.yielded ++ l.character-iterator;
  written : IsPlainFormatter l.initial.f → HasWritten g.W.Write.write_str_gives l.initial.f (flat_map encode_utf8 l.yielded) l.f;
}
