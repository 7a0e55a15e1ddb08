use Rattle.std.proofs.Common.{sym, arith}
use Rattle.microsoft_messages.proofs.InfoLaws.{found-info, read-info, info-refused, refused-info}
use Rattle.microsoft_messages.proofs.StopLaws.{info-told, info-counted}
use Rattle.microsoft_messages.proofs.pac.info.PacInfoBuffer.deserialize.Goals as goal

pub returns-in-Ok-clause-found : goal.returns-in-Ok-clause-found
returns-in-Ok-clause-found g c =
    found-info _ _ c.read_front-front.result.count _ c.read_front-front.new.buffer c.in-Ok.info (omega arith) (omega arith)
    c.read_front-front.ensures.bytes c.in-Ok.ensures.room c.in-Ok.ensures.laid

pub returns-in-Ok-clause-only : goal.returns-in-Ok-clause-only
returns-in-Ok-clause-only g c =
    read-info _ _ c.read_front-front.result.fault c.read_front-front.result.count _ c.read_front-front.new.buffer c.in-Ok.info
    (omega arith) (omega arith) c.in-Ok.ensures.room c.read_front-front.ensures.short c.read_front-front.ensures.bytes (sym c.in-Ok.ensures.exact)

pub returns-in-Err-clause-refused : goal.returns-in-Err-clause-refused
returns-in-Err-clause-refused g c =
    info-refused _ _ c.read_front-front.result.fault _ _ _ c.read_front-front.result.count _ c.read_front-front.new.buffer c.in-Err.fault
    (omega arith) (omega arith) c.read_front-front.ensures.bound c.read_front-front.ensures.bytes c.read_front-front.ensures.end
    c.read_front-front.ensures.fault (sym c.in-Err.ensures.exact)

pub returns-in-Err-clause-only : goal.returns-in-Err-clause-only
returns-in-Err-clause-only g c = refused-info (g.R.Source.left c.args.reader.now) _ _ _ _ _ (returns-in-Err-clause-refused g c)

pub returns-in-Ok-clause-count : goal.returns-in-Ok-clause-count
returns-in-Ok-clause-count g c =
    info-counted c.read_front-front.result.fault _ _ _ c.read_front-front.result.count _ c.read_front-front.new.buffer (omega arith) (omega arith) c.in-Ok.ensures.room
    c.read_front-front.ensures.short c.read_front-front.ensures.fault

pub returns-in-Err-clause-count : goal.returns-in-Err-clause-count
returns-in-Err-clause-count g c =
    info-told _ c.read_front-front.result.fault _ _ _ c.read_front-front.result.count _ c.read_front-front.new.buffer c.in-Err.fault
    (omega arith) (omega arith) c.read_front-front.ensures.end c.read_front-front.ensures.fault (sym c.in-Err.ensures.exact)
