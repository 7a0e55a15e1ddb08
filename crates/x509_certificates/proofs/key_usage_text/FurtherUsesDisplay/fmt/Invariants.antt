use Rattle.std.proofs.Common.{take}
use Rattle.std.specs.List.{flat_map}
use Rattle.std.specs.Fmt.{HasWritten, IsPlainFormatter}
use Rattle.x509_certificates.specs.UseNames.{further_use}
use Rattle.x509_certificates.proofs.key_usage_text.FurtherUsesDisplay.fmt.Given as goal

abbrev pub invariant-loop-number : goal.invariant-loop-number
invariant-loop-number g l =
    IsPlainFormatter l.initial.f → HasWritten g.W.Write.write_str_gives l.initial.f (flat_map (further_use l.self.usage.now.0) (take l.number-index l.self.numbers.now)) l.f
