use Rattle.std.proofs.Common.{◌≡◌, ◌+◌, ◌-◌, ◌^◌, ◌≤◌, map, drop, min}
use Rattle.negoex_messages.specs.Vectors.{payloads}
use Rattle.negoex_messages.proofs.vectors.sum_payloads.Given as goal

abbrev pub invariant-loop-element : goal.invariant-loop-element
invariant-loop-element g l =
    let t = g.T.Laid in
    (l.sum ≤ 2 ^ 64 - 1)
    × (min (l.sum + payloads t.layout (map t.view (drop l.element-index l.elements))) (2 ^ 64 - 1)
    ≡ min (l.before + payloads t.layout (map t.view l.elements)) (2 ^ 64 - 1))
