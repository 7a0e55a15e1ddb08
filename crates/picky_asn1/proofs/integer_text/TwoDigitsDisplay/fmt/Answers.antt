use Rattle.std.proofs.Common.{[], ◌∷◌, ◌∙◌, refl}
use Rattle.std.proofs.lemmas.Bool.{and_from, lt-ltb}
use Rattle.asn1_leaves.specs.TextLaws.{utf8_of_general}
use Rattle.asn1_leaves.proofs.Utf8Lemmas.{read_utf8}
use Rattle.picky_asn1.proofs.integer_text.TwoDigitsDisplay.fmt.Goals as goal

pub unwrap-requires : goal.unwrap-requires
unwrap-requires g c =
    let first = lt-ltb c.digit_of.result 128 c.digit_of.ensures.ascii in
    let second = lt-ltb c.digit_of-2.result 128 c.digit_of-2.ensures.ascii in
    read_utf8 (c.digit_of.result ∷ c.digit_of-2.result ∷ []) _ _ c.from_utf8.result c.from_utf8.ensures.cases
    ∙ utf8_of_general (c.digit_of.result ∷ c.digit_of-2.result ∷ []) (and_from _ _ first (and_from _ _ second refl))
