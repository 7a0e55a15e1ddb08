use Rattle.std.proofs.Common.{◌≡◌, ◌-◌, length, take, drop, arith, length-take, length-drop}
use Rattle.asn1_codec.proofs.HeldLemmas.{filled_slice}
use Rattle.asn1_codec.proofs.one_element.fill_from.Goals as goal

pub returns-in-Ok-clause-filled : goal.returns-in-Ok-clause-filled
returns-in-Ok-clause-filled g c =
    let before = c.args.octets.now in
    let read = c.read_full.new.buffer in
    let size : length read ≡ length before - c.args.start =
    omega (arith, c.read_full.auto.buffer, length-take (length before - c.args.start) (drop c.args.start before), length-drop c.args.start before) in
    filled_slice (g.R.Source.left c.args.reader.now) (g.R.Source.left c.read_full.new.reader) c.args.start c.in-Ok.count before read c.requires size
    c.in-Ok.ensures.bound c.in-Ok.ensures.bytes c.in-Ok.ensures.end
