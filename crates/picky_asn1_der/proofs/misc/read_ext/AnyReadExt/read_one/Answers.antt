use Rattle.std.proofs.Common.{◌<◌, length, take, subst, arith}
use Rattle.std.specs.Io.KnownBytes.{Consumes}
use Rattle.picky_asn1_der.proofs.Streams.{end_before}
use Rattle.picky_asn1_der.proofs.misc.read_ext.AnyReadExt.read_one.Goals as goal

pub returns-then-count-eq0-clause-fault : goal.returns-then-count-eq0-clause-fault
returns-then-count-eq0-clause-fault g c =
    let octets = c.read_full.new.buffer in
    let short : c.in-Ok.count < length octets = omega (arith, c.if-count-eq0.true, c.read_full.auto.buffer) in
    end_before _ _ (subst (λ n. Consumes (g.R.Source.left c.args.self.now) (g.R.Source.left c.read_full.new.reader) (take n octets)) c.if-count-eq0.true c.in-Ok.ensures.bytes)
    (c.in-Ok.ensures.end short)
