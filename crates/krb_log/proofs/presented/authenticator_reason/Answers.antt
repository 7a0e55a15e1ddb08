use Rattle.std.proofs.Common.{Err}
use Rattle.krb_log.proofs.presented.authenticator_reason.Goals as goal

pub returns-in-Err-Krb : goal.returns-in-Err-Krb
returns-in-Err-Krb c =
    let refused = rw c.in-Err-Krb.field-0-is at c.in-Err-Krb.ensures in
    (Err c.in-Err-Krb.code, refused, c.refused_reason.ensures)
