use Rattle.x509_spelling.specs.PlainLaws.{plain_tree, plain-is}
use Rattle.x509_spelling.proofs.Refusals.{exact_as}
use Rattle.x509_spelling.proofs.exact.AnySpelled.read_counted.Goals as goal

pub returns : goal.returns
returns g c =
    let t = g.T.Serialize in
    exact_as t.tree (plain_tree t.seen t.tree) (plain-is t.seen t.tree g.met.T.Exact.plain) c.args.bytes.now c.read_exact.result c.read_exact.ensures
