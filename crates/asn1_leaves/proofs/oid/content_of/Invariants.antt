use Rattle.std.proofs.Common.{◌≡◌, ◌++◌, take}
use Rattle.std.specs.List.{flat_map}
use Rattle.asn1_leaves.specs.ObjectIdentifier.{subidentifier}
use Rattle.asn1_leaves.proofs.oid.content_of.Given as goal

abbrev pub invariant-loop-arc : goal.invariant-loop-arc
invariant-loop-arc l =
    l.content.items ≡ subidentifier l.number ++ flat_map subidentifier (take l.arc-index l.further)
