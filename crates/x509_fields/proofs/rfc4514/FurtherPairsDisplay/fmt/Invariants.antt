use Rattle.std.proofs.Common.{◌++◌, codes, take}
use Rattle.std.specs.List.{flat_map}
use Rattle.std.specs.Fmt.{HasWritten, IsPlainFormatter}
use Rattle.x509_fields.specs.Rfc4514.{pair_text}
use Rattle.x509_fields.proofs.rfc4514.FurtherPairsDisplay.fmt.Given as goal

abbrev pub invariant-loop-pair : goal.invariant-loop-pair
invariant-loop-pair g l =
    IsPlainFormatter l.initial.f → HasWritten g.W.Write.write_str_gives l.initial.f (flat_map (λ pair. codes "+" ++ pair_text pair) (take l.pair-index l.self.0.now)) l.f
