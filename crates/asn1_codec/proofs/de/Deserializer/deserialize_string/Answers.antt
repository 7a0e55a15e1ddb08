use Rattle.std.proofs.Common.{◌≡◌, List, ℕ, ◌++◌, ap, sym, subst, ◌∙◌}
use Rattle.std.specs.Str.{IsUtf8}
use Rattle.asn1_der.specs.Length.{element}
use Rattle.asn1_der.proofs.Elements.{element-one}
use Rattle.asn1_codec.specs.Reading.{IsElement}
use Rattle.asn1_codec.specs.Values.{IsTextElement}
use Rattle.asn1_codec.proofs.Chain.{at-exit, refused-as, refused-taken}
use Rattle.asn1_codec.proofs.de.Deserializer.deserialize_string.Goals as goal

pub returns-in_err-content : goal.returns-in_err-content
returns-in_err-content g c =
    at-exit _ _ _ _ c.from_residual.ensures.1
    (refused-as IsTextElement (IsElement 12) _ _ _ c.in_err-content.ensures (λ bytes p. (p.0, p.2)))

pub returns : goal.returns
returns g c =
    let content = c.in_ok-content.content.items in
    refused-taken IsTextElement (element 12 content) _ _ _ _ _ c.in_ok-content.ensures c.refuse.ensures.after c.refuse.ensures.fault tt
    (λ bytes rest more p e within.
    let same : p.0 ≡ content = (element-one 12 12 p.0 content rest more (ap (λ (l : List ℕ). l ++ rest) (sym p.2) ∙ e)).1 in
    let wrong = c.in-Err.ensures.succeeds (subst IsUtf8 same p.1) in
    absurd (cc (wrong)))
