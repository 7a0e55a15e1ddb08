use Rattle.std.proofs.Common.{◌++◌, codes, drop, reverse}
use Rattle.std.specs.List.{flat_map}
use Rattle.std.specs.Fmt.{HasWritten, IsPlainFormatter}
use Rattle.x509_fields.specs.Rfc4514.{set_text}
use Rattle.x509_fields.proofs.rfc4514.SetsBeforeDisplay.fmt.Given as goal

abbrev pub invariant-loop-index : goal.invariant-loop-index
invariant-loop-index g l =
    IsPlainFormatter l.initial.f → HasWritten g.W.Write.write_str_gives l.initial.f (flat_map (λ set. codes "," ++ set_text set) (reverse (drop l.index l.self.0.now))) l.f
