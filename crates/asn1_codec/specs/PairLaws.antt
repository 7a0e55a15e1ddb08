-- Two octets, and the fields after them, are distinguished by what is written.
use Rattle.std.proofs.Common.{◌≡◌, ℕ, List, [], ◌∷◌}
use Rattle.asn1_der.specs.Tree.{Trees, ders, AreWhole}
use Rattle.asn1_der.proofs.Spelling.{heads, tails}
use Rattle.asn1_der.proofs.Rows.{AreInjectiveAs}
use Rattle.asn1_codec.specs.Pairs.{pair_before}

pub pair-injective : {B : Type 0} (Same : B → B → Type 0) (trees : B → Trees) → AreInjectiveAs Same trees → (v w : List ℕ) (x y : B) → AreWhole (pair_before v (trees x))
    → AreWhole (pair_before w (trees y)) → ders (pair_before v (trees x)) ≡ ders (pair_before w (trees y)) → (v ≡ w) × Same x y
pair-injective Same trees one [] w x y whole also e = absurd whole.0
pair-injective Same trees one (a ∷ []) w x y whole also e = absurd whole.0
pair-injective Same trees one (a ∷ (b ∷ (c ∷ v))) w x y whole also e = absurd whole.0
pair-injective Same trees one (a ∷ (b ∷ [])) [] x y whole also e = absurd also.0
pair-injective Same trees one (a ∷ (b ∷ [])) (c ∷ []) x y whole also e = absurd also.0
pair-injective Same trees one (a ∷ (b ∷ [])) (c ∷ (d ∷ (f ∷ w))) x y whole also e = absurd also.0
pair-injective Same trees one (a ∷ (b ∷ [])) (c ∷ (d ∷ [])) x y whole also e =
    let later : b ∷ ders (trees x) ≡ d ∷ ders (trees y) = tails a c (b ∷ ders (trees x)) (d ∷ ders (trees y)) e in
    let first : a ≡ c = heads a c (b ∷ ders (trees x)) (d ∷ ders (trees y)) e in
    let second : b ≡ d = heads b d (ders (trees x)) (ders (trees y)) later in
    (λ i. first i ∷ (second i ∷ []), one x y whole also (tails b d (ders (trees x)) (ders (trees y)) later))
