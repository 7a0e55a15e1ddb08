-- The empty reply in place of none.
use Rattle.std.proofs.Common.{◌∙◌, ap, inl, inr, subst, sym}
use Rattle.std.specs.Prelude.{◌≡◌, ◌⊎◌, ℕ, List, [], Option, None, Some, ⊤}
use Rattle.krb_time.specs.Units.{Micros}

-- Where it is tolerated, a message that is no request gets the empty reply, and the run goes on. Others have their replies. Test:
-- `goes_on_by_empty_reply`.
abbrev pub Tolerates : (List ℕ → Micros → List ℕ → Option (List ℕ) → Type 0) → List ℕ → Micros → List ℕ → Option (List ℕ) → Type 0
Tolerates replies message moment words None = ⊥
Tolerates replies message moment words (Some reply) = replies message moment words (Some reply) ⊎ ((reply ≡ []) × replies message moment words None)

abbrev IsSome : Option (List ℕ) → Type 0
IsSome None = ⊥
IsSome (Some _) = ⊤

-- where there is one reply at most, or none, there is still one at most, also where a reply is empty
pub one_tolerated : (replies : List ℕ → Micros → List ℕ → Option (List ℕ) → Type 0) (message : List ℕ) (moment : Micros) (words : List ℕ)
    → ((a b : Option (List ℕ)) → replies message moment words a → replies message moment words b → a ≡ b)
    → (a b : Option (List ℕ)) → Tolerates replies message moment words a → Tolerates replies message moment words b → a ≡ b
one_tolerated replies message moment words one None b x y = absurd x
one_tolerated replies message moment words one (Some reply) None x y = absurd y
one_tolerated replies message moment words one (Some reply) (Some other) (inl x) (inl y) = one (Some reply) (Some other) x y
one_tolerated replies message moment words one (Some reply) (Some other) (inl x) (inr (empty, none)) = absurd (subst IsSome (one (Some reply) None x none) tt)
one_tolerated replies message moment words one (Some reply) (Some other) (inr (empty, none)) (inl y) = absurd (subst IsSome (one (Some other) None y none) tt)
one_tolerated replies message moment words one (Some reply) (Some other) (inr (empty, none)) (inr (nothing, also)) = ap Some (empty ∙ sym nothing)
