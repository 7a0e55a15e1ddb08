use Rattle.std.proofs.Common.{◌<◌, length, arith, ◌==◌, false, ◌≡◌, sym, ◌∙◌}
use Rattle.std.proofs.lemmas.Grind.{common_steps}
use Rattle.byte_streams.proofs.Peeks.{seen-consumed}
use Rattle.byte_streams.proofs.peek.PeekableReaderSource.read_some.Goals as goal

pub returns-in-Some-clause-bytes : goal.returns-in-Some-clause-bytes
returns-in-Some-clause-bytes g c =
    let empty : false ≡ (length c.args.buffer.now == 0) = sym c.if-is_empty.false ∙ c.is_empty.ensures in
    let some : 0 < length c.args.buffer.now = grind (arith, common_steps) in
    (seen-consumed c.args.self.now.looked _ c.in-Some.octet c.args.buffer.now c.in-Some.is some, λ wrong _. absurd (omega (arith, wrong)))
