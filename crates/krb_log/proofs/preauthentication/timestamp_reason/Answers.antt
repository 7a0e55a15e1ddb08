use Rattle.std.proofs.Common.{inl}
use Rattle.krb_log.proofs.preauthentication.timestamp_reason.Goals as goal

pub returns : goal.returns
returns c =
    let found = rw c.in-Some.is at c.in_ok-timestamp.ensures in
    inl (c.in-Some.timestamp, found, c.moment_reason-reason.ensures)
