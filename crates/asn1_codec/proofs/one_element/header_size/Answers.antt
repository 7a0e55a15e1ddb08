use Rattle.std.proofs.Common.{arith}
use Rattle.asn1_codec.proofs.HeldLemmas.{none_held, one_held, no_header, has_header}
use Rattle.asn1_codec.proofs.one_element.header_size.Goals as goal

pub returns-in_default-clause-told : goal.returns-in_default-clause-told
returns-in_default-clause-told c = λ limit. none_held limit 2 c.args.held.now (omega arith) c.in_default.ensures.cases

pub returns-in_default-split_first-clause-told : goal.returns-in_default-split_first-clause-told
returns-in_default-split_first-clause-told c =
    λ limit. one_held limit c.in-Some._first.now c.args.held.now c.in-Some.behind.now c.in-Some.ensures.cases.0 c.in_default-split_first.ensures.cases

pub returns-in-Some-following-clause-told : goal.returns-in-Some-following-clause-told
returns-in-Some-following-clause-told c =
    has_header c.in-Some._first.now c.in-Some-split_first.second.now c.in-Some-following.more c.args.held.now c.in-Some.behind.now c.in-Some-split_first._behind.now
    c.in-Some.ensures.cases.0 c.in-Some-split_first.ensures.cases.0 c.in-Some-following.ensures.count

pub returns-in-None-clause-told : goal.returns-in-None-clause-told
returns-in-None-clause-told c =
    λ limit. no_header limit c.in-Some._first.now c.in-Some-split_first.second.now c.args.held.now c.in-Some.behind.now c.in-Some-split_first._behind.now
    c.in-Some.ensures.cases.0 c.in-Some-split_first.ensures.cases.0 c.in-None.ensures.count
