use Rattle.std.proofs.Common.{sym, ◌∙◌, arith}
use Rattle.asn1_codec.proofs.CharacterLemmas.{no_character, more_than_one}
use Rattle.asn1_codec.proofs.character.only_character.Goals as goal

pub returns-in_default : goal.returns-in_default
returns-in_default c =
    let steps = rw c.in_default.is at c.next.ensures.steps in
    no_character c.args.text.now (omega (arith, c.chars.ensures.len, steps.0.0))

pub returns-then-len_utf8-text : goal.returns-then-len_utf8-text
returns-then-len_utf8-text c =
    more_than_one c.args.text.now _ c.in-Some.first (sym c.chars.ensures.rest ∙ c.in-Some.ensures.steps.0)
    (λ same. c.if-len_utf8-text.true (c.len_utf8.ensures.len ∙ same))
