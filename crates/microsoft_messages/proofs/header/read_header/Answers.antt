use Rattle.std.proofs.Common.{arith}
use Rattle.microsoft_messages.proofs.ReadingLaws.{header-refused, header-told}
use Rattle.microsoft_messages.proofs.header.read_header.Goals as goal

pub returns-in-Err-clause-refused : goal.returns-in-Err-clause-refused
returns-in-Err-clause-refused g c =
    header-refused c.unwrap_or-short.result _ _ c.read_front-front.result.fault _ _ _
    c.read_front-front.result.count _ c.read_front-front.new.buffer c.in-Err.kind (omega arith) (omega arith) c.unwrap_or-short.ensures
    c.read_front-front.ensures.bytes c.read_front-front.ensures.end c.read_front-front.ensures.fault c.in-Err.ensures.wrong

pub returns-in-Err-clause-count : goal.returns-in-Err-clause-count
returns-in-Err-clause-count g c =
    header-told c.unwrap_or-short.result _ c.read_front-front.result.fault _ _ _
    c.read_front-front.result.count _ c.read_front-front.new.buffer c.in-Err.kind (omega arith) (omega arith) c.unwrap_or-short.ensures
    c.read_front-front.ensures.end c.read_front-front.ensures.fault c.in-Err.ensures.wrong
