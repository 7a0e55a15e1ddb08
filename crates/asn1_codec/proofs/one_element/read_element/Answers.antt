use Rattle.std.proofs.Common.{inr, arith}
use Rattle.asn1_codec.proofs.HeldLemmas.{is_element, told_content, took_behind}
use Rattle.asn1_codec.proofs.one_element.read_element.Goals as goal

pub returns-then-len-size-clause-fault : goal.returns-then-len-size-clause-fault
returns-then-len-size-clause-fault g c =
    let held = c.take_up_to.new.held in
    inr (told_content c.args.limit c.in_ok-size.size (g.R.Source.left c.args.reader.now) (g.R.Source.left c.take_header.new.reader)
    (g.R.Source.left c.take_up_to.new.reader) c.take_header.new.held.items held.items c.in_ok-size.ensures.header c.in_ok-size.ensures.took
    c.in_ok-take_up_to.ensures.filled c.in_ok-size.ensures.within (omega (arith, c.len.ensures, held.ok.0, c.if-len-size.true)))

pub returns-clause-element : goal.returns-clause-element
returns-clause-element g c =
    let held = c.take_up_to.new.held in
    is_element c.in_ok-size.size _ _ c.take_header.new.held.items held.items c.in_ok-size.ensures.header c.in_ok-take_up_to.ensures.filled
    (omega (arith, c.len.ensures, held.ok.0, c.if-len-size.false))

pub returns-clause-took : goal.returns-clause-took
returns-clause-took g c =
    took_behind c.in_ok-size.size (g.R.Source.left c.args.reader.now) (g.R.Source.left c.take_header.new.reader)
    (g.R.Source.left c.take_up_to.new.reader) c.take_header.new.held.items c.take_up_to.new.held.items c.in_ok-size.ensures.took c.in_ok-take_up_to.ensures.filled

pub returns-clause-within : goal.returns-clause-within
returns-clause-within g c = omega (arith, c.in_ok-take_up_to.ensures.filled.within, c.in_ok-size.ensures.within)
