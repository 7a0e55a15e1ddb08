use Rattle.std.proofs.Common.{arith}
use Rattle.negoex_messages.proofs.SourceLaws.{value-found}
use Rattle.negoex_messages.proofs.reading.value_of.Goals as goal

pub returns-clause-found : goal.returns-clause-found
returns-clause-found g c =
    let t = g.T.Laid in
    value-found t.view t.layout t.laws c.args.header.now c.args.message.now (λ i. omega (arith, c.type_inv.header i)) (λ i. omega (arith, c.type_inv.message i)) c.requires
    c.from_header.result c.from_header.ensures
