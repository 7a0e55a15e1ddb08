use Rattle.std.proofs.Common.{[], inr, ap, ◌∙◌, arith, subst}
use Rattle.std.specs.Io.KnownBytes.{IsAtEnd}
use Rattle.std.proofs.KnownBytes.{Consumes-nil}
use Rattle.asn1_codec.specs.Reading.{HasOctets}
use Rattle.asn1_codec.proofs.Chain.{refused-own, missing-short}
use Rattle.asn1_codec.proofs.de.Deserializer.peek.Goals as goal

pub returns-in-Ok-None : goal.returns-in-Ok-None
returns-in-Ok-None g c =
    let end = rw c.in-Ok-None.field-0-is at c.in-Ok-None.ensures.next in
    let after = c.refuse.ensures.after in
    refused-own HasOctets c.args.self.now _ _ _ c.in_ok-ready.ensures (ap (λ r. r.failed) after)
    (ap (λ r. r.faults) after ∙ c.in-Ok-None.ensures.count ∙ ap (λ r. r.faults) c.self.view_is) (ap (λ r. r.through) after ∙ c.peek_one.ensures.same ∙ ap (λ r. r.through) c.self.view_is)
    c.refuse.ensures.fault tt (inr (missing-short HasOctets 1 c.args.self.now c.args.self.now.left [] (λ bytes p. p)
    (Consumes-nil c.args.self.now.left) (subst IsAtEnd (ap (λ r. r.left) c.self.view_is) end) (omega arith)))
