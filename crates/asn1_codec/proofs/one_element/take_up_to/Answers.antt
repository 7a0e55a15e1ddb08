use Rattle.std.proofs.Common.{◌≡◌, ◌∙◌, length, take, ap, arith}
use Rattle.asn1_codec.proofs.HeldLemmas.{filled_vector, kept_back}
use Rattle.asn1_codec.proofs.one_element.take_up_to.Goals as goal

pub returns-clause-filled : goal.returns-clause-filled
returns-clause-filled g c =
    let room = c.widen.new.held in
    let octets = c.fill_from.new.octets in
    let whole : length octets ≡ room.len = omega (arith, c.fill_from.auto.octets, ap length c.deref_mut.ensures.value, room.ok.0) in
    filled_vector c.args.size c.len-start.result (g.R.Source.left c.args.reader.now) (g.R.Source.left c.fill_from.new.reader) c.args.held.now.items room.items
    c.deref_mut.result.now (take c.in_ok-count.count octets) c.truncate.new.self.items c.requires (c.len-start.ensures ∙ c.args.held.now.ok.0) c.in_ok-widen.ensures
    c.deref_mut.ensures.value (kept_back c.in_ok-count.count room.len octets _ c.truncate.new.self.items c.truncate.ensures.items whole)
    c.in_ok-count.ensures.filled
