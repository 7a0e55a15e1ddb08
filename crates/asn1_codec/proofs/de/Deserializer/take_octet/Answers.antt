use Rattle.std.proofs.Common.{[], inr, sym, ap, ◌∙◌, arith}
use Rattle.asn1_codec.specs.Reading.{IsOctet}
use Rattle.byte_streams.specs.Peeking.{left_of}
use Rattle.asn1_codec.proofs.Chain.{refused-own, missing-short, left-consumed}
use Rattle.asn1_codec.proofs.de.Deserializer.take_octet.Goals as goal

pub returns-in-Ok-None : goal.returns-in-Ok-None
returns-in-Ok-None g c =
    let end = rw c.in-Ok-None.field-0-is at c.in-Ok-None.ensures.octet in
    let after = c.refuse-in-Ok-None.ensures.after in
    refused-own IsOctet c.args.self.now _ _ _ c.in_ok-ready.ensures (ap (λ r. r.failed) after)
    (ap (λ r. r.faults) after ∙ c.in-Ok-None.ensures.count ∙ ap (λ r. r.faults) c.self.view_is) (ap (λ r. r.through) after ∙ c.take_one.ensures.same ∙ ap (λ r. r.through) c.self.view_is)
    c.refuse-in-Ok-None.ensures.fault tt (inr (missing-short IsOctet 1 c.args.self.now (left_of g.R.Source.left c.take_one.new.self) [] (λ bytes p. omega arith)
    (left-consumed c.args.self.now (left_of g.R.Source.left c.self.inside.reader) _ [] (ap (λ r. r.left) (sym c.self.view_is)) end.0) end.1 (omega arith)))
