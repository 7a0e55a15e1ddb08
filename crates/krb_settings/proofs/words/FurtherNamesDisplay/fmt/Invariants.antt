use Rattle.std.proofs.Common.{take}
use Rattle.std.specs.Fmt.{HasWritten, IsPlainFormatter}
use Rattle.krb_settings.specs.Messages.{further_names_text}
use Rattle.krb_settings.proofs.words.FurtherNamesDisplay.fmt.Given as goal

abbrev pub invariant-loop-field : goal.invariant-loop-field
invariant-loop-field g l =
    IsPlainFormatter l.initial.f → HasWritten g.W.Write.write_str_gives l.initial.f (further_names_text (take l.field-index l.self.0.now)) l.f
