use Rattle.std.proofs.Common.{refl}
use Rattle.krb_client.proofs.read.read_error_code.Goals as goal

pub returns-in-Some : goal.returns-in-Some
returns-in-Some c =
    let found = rw c.in-Some.is at c.in_ok-read.ensures in
    record { error = c.in-Some.error.0; writes = found; coded = refl }

pub returns-in-None : goal.returns-in-None
returns-in-None c =
    let none = rw c.in-None.is at c.in_ok-read.ensures in
    λ code coded. none (record { 0 = coded.error }) coded.writes
