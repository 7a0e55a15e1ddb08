use Rattle.std.proofs.Common.{refl, sym, ◌∙◌}
use Rattle.std.proofs.Output.{has_written_of_eq}
use Rattle.x509_fields.proofs.TextLemmas.{element_by_parts}
use Rattle.x509_fields.proofs.name_text.ElementDisplay.fmt.Goals as goal

pub returns-clause-writes : goal.returns-clause-writes
returns-clause-writes g c = λ plain ok.
    let element = c.args.self.now in
    let length_part = c.as_bytes.ensures ∙ c.of-octets.ensures in
    has_written_of_eq _ _ _ _ _ (sym (element_by_parts (record { first = element.first; content = element.content.now }) _ _ _ refl length_part refl)) (c.write.ensures.writes plain ok)
