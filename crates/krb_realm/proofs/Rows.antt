-- Rows of a table that a case passes: what the rows behind them give, the table gives, and the other way round.
use Rattle.std.proofs.Common.{◌≡◌, ℕ, Bool, true, false, List, [], ◌∷◌, Option, Some, Result, refl, sym, ap, subst, eq-eqb}
use Rattle.std.specs.Prelude.{◌&&◌, not}
use Rattle.std.specs.Bool.{nat_eq}
use Rattle.std.specs.Cmp.Lexicographic.{pointwise}
use Rattle.decision_tables.specs.Tables.{Table, need, refuse}

pub by_refuse : {T E : Type 0} (case : Bool) (error : E) (rest : Table (Result T E)) (r : Result T E) → case ≡ false → rest.gives r → (refuse case error rest).gives r
by_refuse {T} {E} case error rest r e x = subst (λ b. (refuse b error rest).gives r) (sym e) x

pub by_need : {A T E : Type 0} (option : Option A) (error : E) (rest : A → Table (Result T E)) (a : A) (r : Result T E) → option ≡ Some a
    → (rest a).gives r → (need option error rest).gives r
by_need option error rest a r e x = subst (λ o. (need o error rest).gives r) (sym e) x

pub past_need : {A T E : Type 0} (option : Option A) (error : E) (rest : A → Table (Result T E)) (a : A) (r : Result T E) → option ≡ Some a
    → (need option error rest).gives r → (rest a).gives r
past_need option error rest a r e x = subst (λ o. (need o error rest).gives r) e x

pub same_octets : (octets : List ℕ) → pointwise nat_eq octets octets ≡ true
same_octets [] = refl
same_octets (octet ∷ octets) = λ i. eq-eqb octet octet refl i && same_octets octets i

-- a test for other octets fails where they are the same
pub no_others : (a b : List ℕ) → a ≡ b → not (pointwise nat_eq a b) ≡ false
no_others a b e = subst (λ (l : List ℕ). not (pointwise nat_eq a l) ≡ false) e (ap not (same_octets a))
