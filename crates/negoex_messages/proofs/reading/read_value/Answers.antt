use Rattle.std.proofs.Common.{take, arith}
use Rattle.std.proofs.lemmas.List.{length-take}
use Rattle.negoex_messages.proofs.SourceLaws.{header-refused, header-given, header-excused, header-told, header-counted}
use Rattle.negoex_messages.proofs.reading.read_value.Goals as goal

pub returns-in-Ok-clause-found : goal.returns-in-Ok-clause-found
returns-in-Ok-clause-found g c =
    (take c.read_front-front.result.count c.read_front-front.new.buffer, c.in-Ok.ensures.found, c.read_front-front.ensures.bytes)

pub returns-in-Ok-clause-only : goal.returns-in-Ok-clause-only
returns-in-Ok-clause-only g c =
    let t = g.T.Laid in
    header-given t.view t.layout t.laws _ (g.R.Source.left c.args.from.now) (g.R.Source.left c.read_front-front.new.reader)
    (g.R.Source.last_fault c.read_front-front.new.reader) (g.R.Source.failed c.args.from.now) (g.R.Source.failed c.read_front-front.new.reader)
    c.read_front-front.result.count c.read_front-front.new.buffer c.args.message.now c.read_front-front.ensures.bytes c.in-Ok.ensures.exact c.in-Ok.ensures.found

pub returns-in-Err-clause-refused : goal.returns-in-Err-clause-refused
returns-in-Err-clause-refused g c =
    let t = g.T.Laid in
    let buffer = c.read_front-front.new.buffer in
    header-refused t.layout (g.R.Source.left c.args.from.now) (g.R.Source.left c.read_front-front.new.reader) c.read_front-front.result.fault _ _ _ c.read_front-front.result.count buffer c.args.message.now _ _
    (omega (arith, c.requires)) c.read_front-front.ensures.bound c.read_front-front.ensures.bytes c.read_front-front.ensures.end c.read_front-front.ensures.fault
    c.in-Err.ensures.exact c.cut_short.ensures

pub returns-in-Err-clause-only : goal.returns-in-Err-clause-only
returns-in-Err-clause-only g c =
    let t = g.T.Laid in
    header-excused t.view t.layout t.laws (g.R.Source.left c.args.from.now) (g.R.Source.left c.read_front-front.new.reader) _ _ _ c.args.message.now _ (returns-in-Err-clause-refused g c)

pub returns-in-Ok-clause-count : goal.returns-in-Ok-clause-count
returns-in-Ok-clause-count g c =
    let t = g.T.Laid in
    header-counted t.view t.layout t.laws _ c.read_front-front.result.fault _ _ _ c.read_front-front.result.count c.read_front-front.new.buffer c.args.message.now
    (omega (arith, c.requires)) c.read_front-front.ensures.short c.read_front-front.ensures.fault c.in-Ok.ensures.found

pub returns-in-Err-clause-count : goal.returns-in-Err-clause-count
returns-in-Err-clause-count g c =
    let buffer = c.read_front-front.new.buffer in
    let count = c.read_front-front.result.count in
    header-told g.T.Laid.layout (g.R.Source.left c.read_front-front.new.reader) c.read_front-front.result.fault _ _ _ (take count buffer) c.args.message.now _ _
    (omega (arith, c.requires, length-take count buffer))
    (λ none short. c.read_front-front.ensures.end none (omega (arith, short, c.requires, length-take count buffer)))
    c.read_front-front.ensures.fault c.in-Err.ensures.exact c.cut_short.ensures
