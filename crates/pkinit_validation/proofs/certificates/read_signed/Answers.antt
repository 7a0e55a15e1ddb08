use Rattle.pkinit_validation.proofs.TrustLemmas.{was_read, none_read}
use Rattle.pkinit_validation.proofs.certificates.read_signed.Goals as goal

pub returns-in-Ok : goal.returns-in-Ok
returns-in-Ok g c = (was_read g.T.Spelled.spells c.args.bytes.now _ c.in-Ok.ensures.value, c.in-Ok.ensures.part.place)

pub returns-else-eq : goal.returns-else-eq
returns-else-eq g c =
    none_read g.T.Spelled.spells c.args.bytes.now c.in-Err.fault
    (λ e. let same = rw e at c.eq.ensures in absurd (cc (same, c.if-eq.false))) c.in-Err.ensures.value
