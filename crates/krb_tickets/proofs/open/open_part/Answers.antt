use Rattle.std.proofs.Common.{w32, SFits}
use Rattle.std.proofs.lemmas.Int.{to_z-of_z}
use Rattle.krb_tickets.proofs.Opening.{nothing_opens, nothing_reads, opens_value}
use Rattle.krb_tickets.proofs.open.open_part.Goals as goal

pub returns-in-Err : goal.returns-in-Err
returns-in-Err g c =
    let fits : SFits w32 c.args.usage = c.ranges.usage in
    nothing_opens g.T.Serialize.tree c.args.suite c.args.key.now _ c.args.bytes.now (simp to_z-of_z at c.in-Err.ensures.refused)

pub returns-in-Ok-read_padded : goal.returns-in-Ok-read_padded
returns-in-Ok-read_padded g c =
    let fits : SFits w32 c.args.usage = c.ranges.usage in
    opens_value g.T.Serialize.seen g.T.Serialize.tree g.T.Serialize.injective c.args.suite c.args.key.now _ c.in-Ok.plain.items _ c.args.bytes.now c.in-Ok-read_padded.value
    c.deref.ensures.value (simp to_z-of_z at c.in-Ok.ensures.opened) c.in-Ok-read_padded.ensures

pub returns : goal.returns
returns g c =
    let fits : SFits w32 c.args.usage = c.ranges.usage in
    nothing_reads g.T.Serialize.tree c.args.suite c.args.key.now _ c.in-Ok.plain.items _ c.args.bytes.now c.in-Err-read_padded.fault
    c.deref.ensures.value (simp to_z-of_z at c.in-Ok.ensures.opened) c.in-Err-read_padded.ensures
