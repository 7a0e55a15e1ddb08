use Rattle.std.proofs.Common.{◌≡◌, ap, Err, ◌-◌, length, take, rules, subst}
use Rattle.std.proofs.Math.Nat.{not-le_of_lt}
use Rattle.std.proofs.KnownBytes.{Appends-trans, Keeps-trans}
use Rattle.std.specs.Io.KnownBytes.{Appends}
use Rattle.byte_streams.proofs.Parts.{take-front_more, length-le-taken, Keeps-from_Appends}
use Rattle.byte_streams.proofs.Rooms.{taken_room-more}
use Rattle.byte_streams.proofs.exact.write_whole.Goals as goal

pub loop-at-preserved : goal.loop-at-preserved
loop-at-preserved g c =
    let start = g.W.Sink.written c.args.writer.now in
    let joined = take-front_more c.loop-at.at (length c.args.bytes.now - c.loop-at.at) c.in-Ok.count c.args.bytes.now (search rules) in
    record {
      within = search rules;
      taken = subst (Appends start (g.W.Sink.written c.write_some.new.self)) joined
          (Appends-trans start _ _ _ _ c.loop-at.invariant.taken c.in-Ok.ensures.bytes);
      count = search rules;
      same = search rules;
      room = taken_room-more (g.W.Sink.room c.args.writer.now) _ _ c.loop-at.at c.in-Ok.count _ c.loop-at.invariant.room c.in-Ok.ensures.room;
      whole = λ growing more. absurd (not-le_of_lt more (length-le-taken c.loop-at.at c.in-Ok.count c.args.bytes.now (c.in-Ok.ensures.whole growing)));
    }

pub returns-in-Err-Memory-clause-memory : goal.returns-in-Err-Memory-clause-memory
returns-in-Err-Memory-clause-memory g c = λ _.
    let growing = c.in-Err-Memory.ensures.memory (ap Err c.in-Err-Memory.field-0-is) in
    let first : c.loop-at.at ≡ 0 = c.loop-at.invariant.whole growing c.loop-at-test.true in
    let none = ap (λ n. take n c.args.bytes.now) first in
    (growing, Keeps-trans _ _ _ (Keeps-from_Appends _ _ _ none c.loop-at.invariant.taken) c.in-Err-Memory.ensures.bytes)
