use Rattle.std.proofs.Common.{◌≡◌, ◌-◌}
use Rattle.krb_pac.specs.Arrays.{in_front, each_at}
use Rattle.krb_pac.proofs.ndr.items.read_list.Given as goal

-- the values so far, and what is left
abbrev pub invariant-loop : goal.invariant-loop
invariant-loop g l =
    let reading = g.T.NdrItem.reading in
    in_front l.items.items (each_at reading (l.count - l.counter) l.end l.bytes) ≡ each_at reading l.count l.place l.bytes
