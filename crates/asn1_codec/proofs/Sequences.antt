-- The content of a constructed element, value after value.
use Rattle.std.proofs.Common.{◌≡◌, ℕ, ◌+◌, List, ◌∷◌, ◌++◌, length, sym, ap, refl, subst, ◌∙◌, arith}
use Rattle.asn1_der.specs.Length.{element, length_octets}
use Rattle.asn1_der.proofs.Elements.{element-split}
use Rattle.asn1_codec.specs.Reading.{Reading, Took, within}
use Rattle.asn1_codec.specs.Sequences.{Opened}
use Rattle.asn1_codec.proofs.Chain.{took-as, took-within}

pub opened : (tag count outside : ℕ) (old mid new : Reading) → Took (tag ∷ length_octets count) old mid → new ≡ within count mid
    → outside + count ≡ mid.limit → Opened tag outside old new
opened tag count outside old mid new took is room =
    subst (λ (r : Reading). Opened tag outside old r) (sym is) (mid, took, refl, room)

-- an element whose content was taken between its begin and its end was taken
pub sequence-took : (tag outside : ℕ) (content : List ℕ) (old low high new : Reading) → Opened tag outside old low → Took content low high → high.limit ≡ 0
    → new ≡ within outside high → Took (element tag content) old new
sequence-took tag outside content old low high new first second done then =
    let size : length content ≡ low.limit = omega (arith, second.limit, done) in
    took-as _ (element tag content) old new (ap (λ n. (tag ∷ length_octets n) ++ content) (sym size) ∙ sym (element-split tag content))
    (took-within (tag ∷ length_octets low.limit) content low.limit outside old first.0 low high new first.1 first.2 first.3 second done then)
