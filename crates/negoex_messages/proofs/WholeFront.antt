-- All of some bytes is a front of them.
use Rattle.std.proofs.Common.{◌≡◌, ℕ, List, [], ◌++◌, length, take, Option, ap, sym, subst, ◌∙◌, arith}
use Rattle.std.proofs.lemmas.List.{take_all}
use Rattle.std.specs.Io.KnownBytes.{Appends}

pub whole-front : (old new : Option (List ℕ)) (head empty made lent : List ℕ) → empty ≡ [] → made ≡ empty ++ head → lent ≡ made → Appends old new lent
    → (n : ℕ) × Appends old new (take n head)
whole-front old new head empty made lent e m l grown =
    let same : lent ≡ head = l ∙ m ∙ ap (λ (b : List ℕ). b ++ head) e in
    (length head, subst (Appends old new) (same ∙ sym (take_all (length head) head (omega arith))) grown)
