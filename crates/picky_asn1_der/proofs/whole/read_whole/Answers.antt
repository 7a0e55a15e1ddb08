use Rattle.std.proofs.Common.{◌≡◌, sym, ◌∙◌, true, false}
use Rattle.picky_asn1_der.proofs.Reading.{not_read, was_read}
use Rattle.picky_asn1_der.proofs.whole.read_whole.Goals as goal

pub returns-in-Ok : goal.returns-in-Ok
returns-in-Ok g c = was_read g.T.Serialize.seen g.T.Serialize.tree c.args.bytes.now c.in-Ok.value c.in-Ok.ensures.value

pub returns-else-eq : goal.returns-else-eq
returns-else-eq g c =
    not_read g.T.Serialize.seen g.T.Serialize.tree c.args.bytes.now c.in-Err.fault
    (λ e. let same = rw e at c.eq.ensures in absurd (cc (same, c.if-eq.false))) c.in-Err.ensures.value
