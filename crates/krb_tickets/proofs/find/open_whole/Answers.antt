use Rattle.std.proofs.Common.{w32, SFits}
use Rattle.std.proofs.lemmas.Int.{to_z-of_z}
use Rattle.krb_tickets.proofs.Reading.{not_first}
use Rattle.krb_tickets.proofs.find.open_whole.Goals as goal

pub returns-else-is_memory : goal.returns-else-is_memory
returns-else-is_memory g c =
    let fits : SFits w32 c.args.usage = c.ranges.usage in
    rw (c.suite.ensures, c.as_bytes.ensures.value) at (not_first _ c.is_memory.ensures c.if-is_memory.false (simp to_z-of_z at c.in-Err.ensures))
