use Rattle.std.proofs.Common.{arith}
use Rattle.asn1_codec.specs.Lengths.{AreLengthOctets}
use Rattle.asn1_codec.proofs.Chain.{at-exit}
use Rattle.asn1_codec.proofs.HeldLemmas.{none_held, told_length, told_room, is_header, wanting_own}
use Rattle.asn1_codec.proofs.one_element.element_size.Goals as goal

pub returns-in_default-clause-told : goal.returns-in_default-clause-told
returns-in_default-clause-told c = none_held c.args.limit c.args.header c.args.held.now (omega (arith, c.requires.header.5)) c.in_default.ensures.cases

pub returns-in_err-count-clause-told : goal.returns-in_err-count-clause-told
returns-in_err-count-clause-told c =
    at-exit _ _ _ _ c.from_residual.ensures.1
    (told_length c.args.limit c.args.header c.in-Some._first.now c.args.held.now c.in-Some.behind.now _
    c.in-Some.ensures.cases.0 c.requires.header c.in_err-count.ensures)

pub returns-in_err-count-clause-own : goal.returns-in_err-count-clause-own
returns-in_err-count-clause-own c = at-exit _ _ _ _ c.from_residual.ensures.1 (wanting_own AreLengthOctets c.in-Some.behind.now _ c.in_err-count.ensures)

pub returns-then-limit-held-clause-told : goal.returns-then-limit-held-clause-told
returns-then-limit-held-clause-told c =
    told_room c.args.limit c.args.header c.in-Some._first.now c.in_ok-count.count c.args.held.now c.in-Some.behind.now _
    c.in-Some.ensures.cases.0 c.in_ok-count.ensures.1 c.requires.header c.requires.whole c.in_ok-count.ensures.0 (omega arith) c.requires.within

pub returns-clause-told : goal.returns-clause-told
returns-clause-told c =
    is_header c.args.limit c.args.header c.in-Some._first.now c.in_ok-count.count c.args.held.now c.in-Some.behind.now _
    c.in-Some.ensures.cases.0 c.in_ok-count.ensures.1 c.requires.header c.requires.whole c.in_ok-count.ensures.0 (omega arith) c.requires.within
