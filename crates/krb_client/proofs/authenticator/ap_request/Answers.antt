use Rattle.std.proofs.Common.{w32, SFits}
use Rattle.std.proofs.lemmas.Int.{to_z-of_z}
use Rattle.krb_client.proofs.authenticator.ap_request.Goals as goal

pub returns : goal.returns
returns c =
    let fits : SFits w32 c.args.usage = c.ranges.usage in
    let seals = simp to_z-of_z at c.in_ok-sealed.ensures in
    record {
      part = c.in_ok-sealed.sealed;
      sealed = rw (c.deref.ensures.value, c.in_ok-plain.ensures, c.key.ensures) at seals;
      encoding = rw (c.in_ok-request.ensures, c.ticket.ensures) at c.in_ok-bytes.ensures;
    }
