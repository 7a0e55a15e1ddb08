use Rattle.std.proofs.Common.{◌≡◌, ◌*◌, ◌^◌, ◌<◌, map, take, if◌then◌else◌}
use Rattle.std.specs.Int.Digits.{number_from_digits}
use Rattle.picky_asn1.specs.Integer.{complement}
use Rattle.picky_asn1.proofs.integer.number_of.Given as goal

abbrev pub invariant-loop-octet : goal.invariant-loop-octet
invariant-loop-octet l =
    (l.number ≡ number_from_digits 256 (take l.octet-index (if l.complemented then map complement l.octets else l.octets)))
    × (l.number < 2 ^ (8 * l.octet-index))
