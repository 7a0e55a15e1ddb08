use Rattle.std.proofs.Common.{sym, ap, ◌∙◌}
use Rattle.std.proofs.Output.{has_written_of_eq}
use Rattle.x509_fields.specs.NameText.{attribute_text, attributes_of}
use Rattle.x509_fields.proofs.TextLemmas.{joined_lists}
use Rattle.x509_fields.proofs.name_text.NameDisplay.fmt.Goals as goal

pub returns-clause-writes : goal.returns-clause-writes
returns-clause-writes g c = λ plain ok.
    let leading = c.in-Some.leading in
    let all = ap attributes_of (sym c.as_slice.ensures) ∙ c.in-Some.ensures in
    has_written_of_eq _ _ _ _ _ (sym (joined_lists 44 attribute_text (attributes_of c.args.self.now) leading.first.now leading.further.now leading.sets.now all)) (c.write.ensures.writes plain ok)
