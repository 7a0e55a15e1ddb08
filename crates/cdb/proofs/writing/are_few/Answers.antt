use Rattle.std.proofs.Common.{◌≡◌, [], ap, arith, drop}
use Rattle.std.proofs.lemmas.List.{drop_all}
use Rattle.cdb.specs.Writing.{entries_size}
use Rattle.cdb.proofs.MakingLaws.{next_record}
use Rattle.cdb.proofs.writing.are_few.Goals as goal

pub returns-in-None : goal.returns-in-None
returns-in-None c =
    let next = ap entries_size (next_record c.args.records.now c.loop-one.one-index c.one-item.result c.loop-one-test.true c.one-item.is) in
    let left = c.loop-one.invariant in
    let short = c.in-None.ensures in
    omega (arith, next, left, short)

pub loop-one-preserved : goal.loop-one-preserved
loop-one-preserved c =
    let next = ap entries_size (next_record c.args.records.now c.loop-one.one-index c.one-item.result c.loop-one-test.true c.one-item.is) in
    let left = c.loop-one.invariant in
    let rest = c.in-Some.ensures in
    omega (arith, next, left, rest)

pub returns : goal.returns
returns c =
    let none : drop c.loop-one.one-index c.args.records.now ≡ [] = drop_all c.loop-one.one-index c.args.records.now c.loop-one-test.false in
    let sized = ap entries_size none in
    let left = c.loop-one.invariant in
    omega (arith, sized, left)
