use Rattle.std.proofs.Common.{sym, arith}
use Rattle.gss_contexts.proofs.ReadingLaws.{fine-counted, header-refused, header-told}
use Rattle.gss_contexts.proofs.message_tokens.token.read_header.Goals as goal

pub returns-in-Ok-clause-count : goal.returns-in-Ok-clause-count
returns-in-Ok-clause-count g c =
    fine-counted c.args.kind c.unwrap_or-short.result c.read_front-front.result.fault (g.R.Source.last_fault c.read_front-front.new.reader) _ _
    c.read_front-front.result.count _ c.read_front-front.new.buffer (omega arith) (omega arith)
    c.read_front-front.ensures.short c.read_front-front.ensures.fault (sym c.in-Ok.ensures)

pub returns-in-Err-clause-refused : goal.returns-in-Err-clause-refused
returns-in-Err-clause-refused g c =
    header-refused c.args.kind c.unwrap_or-short.result _ _ c.read_front-front.result.fault _ _ _
    c.read_front-front.result.count _ c.read_front-front.new.buffer c.in-Err.fault (omega arith) (omega arith) c.unwrap_or-short.ensures
    c.read_front-front.ensures.bytes c.read_front-front.ensures.end c.read_front-front.ensures.fault (sym c.in-Err.ensures)

pub returns-in-Err-clause-count : goal.returns-in-Err-clause-count
returns-in-Err-clause-count g c =
    header-told c.args.kind c.unwrap_or-short.result (g.R.Source.left c.read_front-front.new.reader) c.read_front-front.result.fault (g.R.Source.last_fault c.read_front-front.new.reader) _ _
    c.read_front-front.result.count _ c.read_front-front.new.buffer c.in-Err.fault (omega arith) (omega arith) c.unwrap_or-short.ensures
    c.read_front-front.ensures.end c.read_front-front.ensures.fault (sym c.in-Err.ensures)
