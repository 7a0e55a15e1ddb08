use Rattle.std.proofs.Common.{ap, ◌∙◌}
use Rattle.std.specs.Str.{is_utf8}
use Rattle.asn1_leaves.proofs.Utf8Lemmas.{read_utf8}
use Rattle.picky_asn1.proofs.restricted_string.RestrictedString.as_str.Goals as goal

pub unwrap-requires : goal.unwrap-requires
unwrap-requires g c =
    read_utf8 c.as_bytes.result.now _ _ c.from_utf8.result c.from_utf8.ensures.cases
    ∙ ap is_utf8 c.as_bytes.ensures.value
    ∙ g.met.C.TextCharSet.is_text_utf8 c.args.self.now c.as_bytes.ensures.character_set
