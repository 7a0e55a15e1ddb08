use Rattle.std.proofs.Common.{take}
use Rattle.std.specs.Fmt.{HasWritten, IsPlainFormatter}
use Rattle.x509_fields.specs.NameText.{further_text}
use Rattle.x509_fields.proofs.name_text.FurtherAttributesDisplay.fmt.Given as goal

abbrev pub invariant-loop-attribute : goal.invariant-loop-attribute
invariant-loop-attribute g l =
    IsPlainFormatter l.initial.f → HasWritten g.W.Write.write_str_gives l.initial.f (further_text (take l.attribute-index l.self.0.now)) l.f
