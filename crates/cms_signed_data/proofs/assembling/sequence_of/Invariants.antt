use Rattle.std.proofs.Common.{◌≡◌, take}
use Rattle.std.specs.List.{flat_map}
use Rattle.cms_signed_data.proofs.assembling.sequence_of.Given as goal

abbrev pub invariant-loop-part : goal.invariant-loop-part
invariant-loop-part l = l.content.items ≡ flat_map (λ part. part.now) (take l.part-index l.parts)
