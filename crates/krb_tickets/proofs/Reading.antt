-- One of two cases, by a test.
use Rattle.std.proofs.Common.{◌≡◌, ◌⊎◌, ◌↔◌, ◌∙◌, Bool, false, IsTrue, inl, inr, sym}
use Rattle.std.proofs.lemmas.Bool.{false≢true}

-- where it isn't the one, it is the other
pub not_first : {A B : Type 0} (b : Bool) → (IsTrue b ↔ A) → b ≡ false → A ⊎ B → B
not_first b test isnt (inl first) = absurd (false≢true (sym isnt ∙ test.1 first))
not_first b test isnt (inr second) = second
