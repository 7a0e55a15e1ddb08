use Rattle.std.proofs.Common.{◌∙◌}
use Rattle.asn1_leaves.proofs.Utf8Lemmas.{read_utf8}
use Rattle.asn1_leaves.proofs.char_sets.Utf8CharSetCharSet.has_text.Goals as goal

pub returns : goal.returns
returns c = c.is_ok.ensures.value ∙ read_utf8 c.args.octets.now _ _ c.from_utf8.result c.from_utf8.ensures.cases
