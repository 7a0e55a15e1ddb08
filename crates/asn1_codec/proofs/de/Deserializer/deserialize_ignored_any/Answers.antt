use Rattle.std.proofs.Common.{[], ap, sym, ◌∙◌, inr, append-nil}
use Rattle.asn1_codec.specs.Reading.{IsElement}
use Rattle.asn1_codec.specs.Values.{IsAnyElement}
use Rattle.asn1_codec.proofs.Chain.{at-exit, refused-as, refused-own, refused-known, refused-unread}
use Rattle.asn1_codec.proofs.AnyElements.{any_octets, any_next}
use Rattle.asn1_codec.proofs.de.Deserializer.deserialize_ignored_any.Goals as goal

pub returns-in_err-first : goal.returns-in_err-first
returns-in_err-first g c =
    at-exit _ _ _ _ c.from_residual.ensures.1
    (refused-as _ _ _ _ _ c.in_err-first.ensures (λ bytes p. any_octets bytes p))

pub returns-then-first-eq31 : goal.returns-then-first-eq31
returns-then-first-eq31 g c =
    let looked = c.in_ok-first.ensures.0 in
    let after = c.refuse.ensures.after in
    refused-own IsAnyElement c.args.self.now _ _ _ looked.sound_before (ap (λ r. r.failed) after)
    (ap (λ r. r.faults) after ∙ looked.faults) (ap (λ r. r.through) after ∙ looked.same) c.refuse.ensures.fault tt
    (inr (λ bytes rest p left within.
    (any_next c.args.self.now c.in_ok-first.first c.in_ok-first.ensures.1 bytes rest p left).0 c.if-first-eq31.true))

pub returns-in_err-_content : goal.returns-in_err-_content
returns-in_err-_content g c =
    at-exit _ _ _ _ c.from_residual-in_err-_content.ensures.1
    (refused-known IsAnyElement (IsElement c.in_ok-first.first) c.args.self.now _ _
    (refused-unread (IsElement c.in_ok-first.first) c.args.self.now _ _ _ c.in_ok-first.ensures.0 c.in_err-_content.ensures)
    (λ bytes rest p left within.
    let next = any_next c.args.self.now c.in_ok-first.first c.in_ok-first.ensures.1 bytes rest p left in
    (bytes, [], next.1, sym (append-nil bytes))))
