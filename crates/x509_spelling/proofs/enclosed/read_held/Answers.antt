use Rattle.x509_spelling.proofs.Refusals.{holds_told}
use Rattle.x509_spelling.proofs.enclosed.read_held.Goals as goal

pub returns : goal.returns
returns g c = holds_told g.T.Spelled.spells c.args.first c.args.bytes.now c.in_ok-content.content.now c.in_ok-content.ensures c.read_counted.result c.read_counted.ensures
