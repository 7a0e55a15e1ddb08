use Rattle.std.proofs.Common.{◌-◌, length, rules, sym, subst}
use Rattle.std.proofs.KnownBytes.{Consumes-trans}
use Rattle.std.specs.Io.KnownBytes.{Consumes}
use Rattle.byte_streams.proofs.Parts.{take-put_mid_more}
use Rattle.byte_streams.proofs.reading.read_front.Goals as goal

pub loop-at-preserved : goal.loop-at-preserved
loop-at-preserved g c =
    let start = g.R.Source.left c.args.reader.now in
    let joined = take-put_mid_more c.loop-at.at (length c.loop-at.buffer - c.loop-at.at) c.in-Ok.count c.loop-at.buffer c.read_some.new.buffer
    c.loop-at.invariant.within c.in-Ok.ensures.bound.0 in
    record {
      size = search rules;
      within = search rules;
      given = subst (Consumes start (g.R.Source.left c.read_some.new.self)) (sym joined)
          (Consumes-trans start _ _ _ _ c.loop-at.invariant.given c.in-Ok.ensures.bytes.0);
      count = search rules;
      same = search rules;
    }
