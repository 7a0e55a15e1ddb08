use Rattle.std.proofs.Common.{arith}
use Rattle.std.proofs.Math.ListN.{length-set}
use Rattle.asn1_codec.proofs.UnsignedLemmas.{content_room, content_more, content_first}
use Rattle.asn1_codec.proofs.integer.UnsignedContent.of.Goals as goal

pub overflow_sub-start : goal.overflow_sub-start
overflow_sub-start c =
    content_room c.args.number c.loop-rest.rest c.loop-rest.start c.loop-rest.octets c.ranges.number.fits (omega arith) c.loop-rest.invariant.size
    c.loop-rest.invariant.place c.loop-rest.invariant.written

pub loop-rest-preserved : goal.loop-rest-preserved
loop-rest-preserved c =
    let room = content_room c.args.number c.loop-rest.rest c.loop-rest.start c.loop-rest.octets c.ranges.number.fits (omega arith) c.loop-rest.invariant.size
    c.loop-rest.invariant.place c.loop-rest.invariant.written in
    record {
      place = omega arith;
      size = simp length-set c.loop-rest.invariant.size;
      written = content_more c.args.number c.loop-rest.rest c.loop-rest.start c.loop-rest.octets (omega arith) room (omega arith) c.loop-rest.invariant.size c.loop-rest.invariant.written;
    }

pub returns : goal.returns
returns c =
    content_first c.args.number c.loop-rest.rest c.loop-rest.start c.loop-rest.octets (omega arith) c.loop-rest.invariant.place c.loop-rest.invariant.size
    c.loop-rest.invariant.written
