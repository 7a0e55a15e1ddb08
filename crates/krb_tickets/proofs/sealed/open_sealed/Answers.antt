use Rattle.std.proofs.Common.{rules, SFits, w32}
use Rattle.std.proofs.lemmas.Int.{to_z-of_z}
use Rattle.krb_tickets.proofs.Opened.{opened_is_sealed}
use Rattle.krb_tickets.proofs.sealed.open_sealed.Goals as goal

pub returns : goal.returns
returns g c =
    let fits : SFits w32 c.args.usage = c.ranges.usage in
    opened_is_sealed _ c.args.key.now.suite c.args.key.now.bytes _ c.args.sealed.now c.in_ok-value.value (search rules) (rw c.as_bytes-bytes.ensures at (simp to_z-of_z at c.in_ok-value.ensures))
