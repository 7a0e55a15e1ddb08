use Rattle.std.proofs.Common.{refl}
use Rattle.negoex_messages.proofs.MessageLaws.{message-bytes, message-laid}
use Rattle.negoex_messages.proofs.writing.bytes_of.Goals as goal

pub returns-clause-exact : goal.returns-clause-exact
returns-clause-exact g c =
    let t = g.T.Laid in
    message-bytes t.layout c.args.filler.now (t.view c.args.value.now) c.args.offset c.args.offset _ _ _ _ _ _ _ _
    c.new-bytes.ensures.items c.new-payload.ensures.items c.in_ok-put.ensures refl refl c.in_ok-extend.ensures c.in_ok-extend-2.ensures c.deref.ensures.value

pub returns-clause-laid : goal.returns-clause-laid
returns-clause-laid g c =
    let t = g.T.Laid in
    message-laid t.layout t.laws c.args.filler.now (t.view c.args.value.now) c.args.offset c.args.offset _
    refl c.in_ok-put.ensures.within (returns-clause-exact g c)
