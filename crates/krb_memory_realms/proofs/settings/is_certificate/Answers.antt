use Rattle.krb_memory_realms.proofs.Certificates.{is_none, is_one}
use Rattle.krb_memory_realms.proofs.settings.is_certificate.Goals as goal

pub returns-in-Ok : goal.returns-in-Ok
returns-in-Ok c = is_one c.args.bytes.now c.in-Ok.holder c.in-Ok.ensures

pub returns-else-eq : goal.returns-else-eq
returns-else-eq c =
    is_none c.args.bytes.now c.in-Err.fault (λ e. let same = rw e at c.eq.ensures in absurd (cc (same, c.if-eq.false))) c.in-Err.ensures
