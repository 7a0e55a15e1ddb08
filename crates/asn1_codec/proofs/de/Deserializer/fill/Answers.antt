use Rattle.std.proofs.Common.{◌≡◌, length, inr, sym, ap, ◌∙◌, arith, take, ◌<◌, length-take}
use Rattle.asn1_codec.specs.Reading.{IsCount}
use Rattle.byte_streams.specs.Peeking.{left_of}
use Rattle.asn1_codec.proofs.Chain.{refused-own, missing-short, left-consumed}
use Rattle.asn1_codec.proofs.de.Deserializer.fill.Goals as goal

pub returns-then-count-octets : goal.returns-then-count-octets
returns-then-count-octets g c =
    let read = c.in-Ok.ensures in
    let after = c.refuse.ensures.after in
    let same : length c.read_unlooked.new.buffer ≡ length c.args.octets.now = c.read_unlooked.auto.buffer in
    let taken = take c.in-Ok.count c.read_unlooked.new.buffer in
    let short : length taken < length c.args.octets.now = omega (arith, length-take c.in-Ok.count c.read_unlooked.new.buffer) in
    refused-own (IsCount (length c.args.octets.now)) c.args.self.now _ _ _ c.in_ok-ready.ensures (ap (λ r. r.failed) after)
    (ap (λ r. r.faults) after ∙ read.count ∙ ap (λ r. r.faults) c.self.view_is) (ap (λ r. r.through) after ∙ c.read_unlooked.ensures.same ∙ ap (λ r. r.through) c.self.view_is)
    c.refuse.ensures.fault tt (inr (missing-short (IsCount (length c.args.octets.now)) (length c.args.octets.now) c.args.self.now (left_of g.R.Source.left c.read_unlooked.new.self) taken (λ bytes p. omega arith)
    (left-consumed c.args.self.now (left_of g.R.Source.left c.self.inside.reader) _ taken (ap (λ r. r.left) (sym c.self.view_is)) read.bytes) (read.end c.if-count-octets.true) short))
