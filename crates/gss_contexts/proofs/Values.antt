-- A message as a value of DER.
use Rattle.std.proofs.Common.{◌≡◌, ℕ, List, [], ◌∷◌, ◌++◌, length, ap, arith, append-nil}
use Rattle.asn1_der.specs.Tree.{Tree, none, more, der, ders}
use Rattle.asn1_der.specs.Length.{element}
use Rattle.asn1_codec.specs.Pairs.{pair_before}

-- two octets in front of a value
pub told-value : (id : List ℕ) (tree : Tree) → length id ≡ 2 → ders (pair_before id (more tree none)) ≡ id ++ der tree
told-value [] tree two = absurd (omega (arith, two))
told-value (a ∷ []) tree two = absurd (omega (arith, two))
told-value (a ∷ (b ∷ [])) tree two = ap (λ (t : List ℕ). a ∷ (b ∷ t)) (append-nil (der tree))
told-value (a ∷ (b ∷ (c ∷ id))) tree two = absurd (omega (arith, two))

-- the same behind a mechanism, under an identifier octet
pub content-value : (mechanism : Tree) (id : List ℕ) (tree : Tree) (octet : ℕ) → length id ≡ 2
    → element octet (der mechanism ++ ders (pair_before id (more tree none))) ≡ element octet (der mechanism ++ (id ++ der tree))
content-value mechanism id tree octet two = ap (λ (t : List ℕ). element octet (der mechanism ++ t)) (told-value id tree two)
