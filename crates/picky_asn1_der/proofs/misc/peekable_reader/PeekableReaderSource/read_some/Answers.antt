use Rattle.std.proofs.Common.{◌<◌, length, ap, sym, rules}
use Rattle.picky_asn1_der.specs.Peeking.{left_of}
use Rattle.picky_asn1_der.proofs.Peeks.{first_read}
use Rattle.picky_asn1_der.proofs.misc.peekable_reader.PeekableReaderSource.read_some.Goals as goal

pub returns-clause-bytes : goal.returns-clause-bytes
returns-clause-bytes g c =
    let some : 0 < length c.args.buffer.now = search rules in (
      first_read c.args.self.now _ _ c.args.buffer.now c.take_one.result (g.R.Source.left c.self.inside.reader) (ap left_of (sym c.self.view_is)) c.take_one.ensures some,
      λ one. absurd (cc (one)),
    )
