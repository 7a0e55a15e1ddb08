use Rattle.std.proofs.Common.{◌+◌, ◌-◌, ◌/◌, ◌<◌, arith, length}
use Rattle.cdb.proofs.Searching.{none_below, none_from, none_left, tied_has}
use Rattle.cdb.proofs.records.is_among.Goals as goal

pub loop-low-preserved-in-Less : goal.loop-low-preserved-in-Less
loop-low-preserved-in-Less c =
    let within : c.loop-low.low + (c.loop-low.high - c.loop-low.low) / 2 < length c.args.records.now = omega arith in
    record {
      within = c.loop-low.invariant.within;
      below = none_below c.args.records.now c.args.key.now (c.loop-low.low + (c.loop-low.high - c.loop-low.low) / 2) within c.in-Less.ensures;
      above = c.loop-low.invariant.above;
    }

pub loop-low-preserved : goal.loop-low-preserved
loop-low-preserved c =
    let within : c.loop-low.low + (c.loop-low.high - c.loop-low.low) / 2 < length c.args.records.now = omega arith in
    record {
      within = omega arith;
      below = c.loop-low.invariant.below;
      above = none_from c.args.records.now c.args.key.now (c.loop-low.low + (c.loop-low.high - c.loop-low.low) / 2) within c.in-Greater.ensures;
    }

pub returns-in-Equal : goal.returns-in-Equal
returns-in-Equal c =
    let within : c.loop-low.low + (c.loop-low.high - c.loop-low.low) / 2 < length c.args.records.now = omega arith in
    tied_has c.args.records.now c.args.key.now (c.loop-low.low + (c.loop-low.high - c.loop-low.low) / 2) within c.in-Equal.ensures

pub returns : goal.returns
returns c = none_left c.args.records.now c.args.key.now c.loop-low.low c.loop-low.high c.loop-low-test.false c.loop-low.invariant.below c.loop-low.invariant.above
