use Rattle.std.proofs.Common.{inr, refl}
use Rattle.krb_realm_files.proofs.Parts.{holder_is, no_holder}
use Rattle.krb_realm_files.proofs.means.holder_in.Goals as goal

pub returns-in-Ok : goal.returns-in-Ok
returns-in-Ok c = holder_is c.args.bytes.now c.in-Ok.holder c.in-Ok.ensures

pub returns-else-eq : goal.returns-else-eq
returns-else-eq c =
    inr (refl, no_holder c.args.bytes.now c.in-Err.fault (λ e. let same = rw e at c.eq.ensures in absurd (cc (same, c.if-eq.false))) c.in-Err.ensures)
