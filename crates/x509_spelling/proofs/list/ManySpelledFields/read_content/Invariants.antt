use Rattle.std.proofs.Common.{length}
use Rattle.x509_spelling.proofs.ManyLemmas.{Gone}
use Rattle.x509_spelling.proofs.list.ManySpelledFields.read_content.Given as goal

abbrev pub invariant-elements : goal.invariant-elements
invariant-elements g l = Gone g.T.Spelled.spells l.fn.content l.items.items l.count l.rest

abbrev pub decreases-elements : goal.decreases-elements
decreases-elements g l = length l.rest
