use Rattle.std.proofs.Common.{◌≡◌, ◌+◌, ◌^◌, ◌<◌, ◌∷◌, sym, ap, ◌∙◌, arith, refl, inr}
use Rattle.asn1_der.proofs.Elements.{fronts}
use Rattle.asn1_codec.specs.Tails.{IsLengthTail}
use Rattle.asn1_codec.proofs.Chain.{at-exit, refused-stop, refused-as, refused-taken}
use Rattle.asn1_codec.proofs.Headers.{filled_size, filled_front}
use Rattle.asn1_codec.proofs.de.Deserializer.take_long_length.Goals as goal

pub returns-in_default : goal.returns-in_default
returns-in_default g c =
    let room : c.self.inside.limit ≡ c.args.self.now.limit = ap (λ r. r.limit) c.self.view_is in
    refused-stop (IsLengthTail (1 + c.args.self.now.limit) c.args.first) _ _ _ _ c.requires.sound c.refuse.ensures.after c.refuse.ensures.fault tt
    (inr (λ bytes rest p left within.
    let small : p.0 < 2 ^ 64 = omega (arith, p.1, room, c.self.invariant.0) in
    c.in_default.ensures.count p.0 small bytes p.2))

pub returns-then-room-more : goal.returns-then-room-more
returns-then-room-more g c =
    let room : c.self.inside.limit ≡ c.args.self.now.limit = ap (λ r. r.limit) c.self.view_is in
    refused-stop (IsLengthTail (1 + c.args.self.now.limit) c.args.first) _ _ _ _ c.requires.sound c.refuse-then-room-more.ensures.after
    c.refuse-then-room-more.ensures.fault tt
    (inr (λ bytes rest p left within.
    let count = c.in-Some.ensures.count.1 p.0 bytes p.2 in
    omega (arith, count, within, room, c.if-room-more.true)))

pub returns-in_err-fill : goal.returns-in_err-fill
returns-in_err-fill g c =
    let size = filled_size c.in-Some.more _ c.fill.new.octets c.in-Some.ensures.count.0 refl c.fill.auto.octets in
    at-exit _ _ _ _ c.from_residual.ensures.1
    (refused-as (IsLengthTail (1 + c.args.self.now.limit) c.args.first) _ _ _ _ c.in_err-fill.ensures
    (λ bytes p. c.in-Some.ensures.count.1 p.0 bytes p.2 ∙ sym size ∙ c.fill.auto.octets))

pub returns-in-None : goal.returns-in-None
returns-in-None g c =
    let size = filled_size c.in-Some.more _ c.fill.new.octets c.in-Some.ensures.count.0 refl c.fill.auto.octets in
    let room : c.self.inside.limit ≡ c.args.self.now.limit = ap (λ r. r.limit) c.self.view_is in
    refused-taken (IsLengthTail (1 + c.args.self.now.limit) c.args.first) c.fill.new.octets _ _ _ _ _ c.in_ok-fill.ensures c.refuse-in-None.ensures.after
    c.refuse-in-None.ensures.fault tt
    (λ bytes rest more p split within.
    let count = c.in-Some.ensures.count.1 p.0 bytes p.2 in
    let same = (fronts bytes c.fill.new.octets rest more (count ∙ sym size) split).0 in
    let small : p.0 < 2 ^ 64 = omega (arith, p.1, room, c.self.invariant.0) in
    c.in-None.ensures p.0 small (p.2 ∙ ap (λ l. c.args.first ∷ l) same ∙ sym (filled_front c.args.first c.in-Some.more c.fill.new.octets _ size)))

pub returns-in-Some-length_of : goal.returns-in-Some-length_of
returns-in-Some-length_of g c =
    let size = filled_size c.in-Some.more _ c.fill.new.octets c.in-Some.ensures.count.0 refl c.fill.auto.octets in
    (c.fill.new.octets, c.in-Some-length_of.ensures ∙ filled_front c.args.first c.in-Some.more c.fill.new.octets _ size, c.in_ok-fill.ensures)
