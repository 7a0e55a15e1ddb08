use Rattle.std.proofs.Common.{◌∙◌}
use Rattle.asn1_leaves.specs.TextLaws.{utf8_of_general}
use Rattle.asn1_leaves.proofs.Utf8Lemmas.{read_utf8}
use Rattle.asn1_leaves.proofs.ascii.ascii_text.Goals as goal

pub unwrap-requires : goal.unwrap-requires
unwrap-requires c =
    read_utf8 c.args.octets.now _ _ c.from_utf8.result c.from_utf8.ensures.cases ∙ utf8_of_general c.args.octets.now c.requires
