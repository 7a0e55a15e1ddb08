use Rattle.x509_spelling.proofs.Refusals.{holds_told}
use Rattle.x509_spelling.proofs.sequence.read_fields.Goals as goal

pub returns : goal.returns
returns g c = holds_told g.F.SpelledFields.spells c.args.first c.args.bytes.now c.in_ok-content.content.now c.in_ok-content.ensures c.read_content.result c.read_content.ensures
