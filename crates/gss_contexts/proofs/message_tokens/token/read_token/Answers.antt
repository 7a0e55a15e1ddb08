use Rattle.byte_streams.proofs.Exits.{at-exit}
use Rattle.gss_contexts.proofs.ReadingLaws.{rest-refused, rest-told}
use Rattle.gss_contexts.proofs.message_tokens.token.read_token.Goals as goal

pub returns-in_err-checksum-clause-refused : goal.returns-in_err-checksum-clause-refused
returns-in_err-checksum-clause-refused g c =
    at-exit _ _ _ _ c.from_residual-in_err-checksum.ensures.1
    (rest-refused c.args.kind (g.R.Source.left c.args.reader.now) (g.R.Source.left c.read_header.new.reader) (g.R.Source.left c.read_checksum.new.reader)
    _ _ _ _ c.in_ok-header.header c.in_err-checksum.field-0.0
    c.in_ok-header.ensures.bytes c.in_ok-header.ensures.judged c.in_ok-header.ensures.count c.in_err-checksum.ensures.count)

pub returns-in_err-checksum-clause-count : goal.returns-in_err-checksum-clause-count
returns-in_err-checksum-clause-count g c =
    at-exit _ _ _ _ c.from_residual-in_err-checksum.ensures.1
    (rest-told c.args.kind (g.R.Source.left c.read_header.new.reader) (g.R.Source.left c.read_checksum.new.reader) _ _ _ _ c.in_err-checksum.field-0.0
    c.in_ok-header.ensures.count c.in_err-checksum.ensures.count)
