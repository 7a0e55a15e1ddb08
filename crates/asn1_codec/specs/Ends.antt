-- Where no field is left, nothing starts.
use Rattle.std.specs.Prelude.{◌≡◌, ℕ, List, [], ◌∷◌, IsTrue}
use Rattle.std.proofs.Common.{subst}
use Rattle.asn1_der.specs.Firsts.{may_begin, one_of}

abbrev IsEmptyList : List ℕ → Type 0
IsEmptyList [] = Unit {0}
IsEmptyList (octet ∷ rest) = ⊥

pub no_start : (octet : ℕ) (rest : List ℕ) → [] ≡ octet ∷ rest → IsTrue (may_begin (one_of []) octet)
no_start octet rest e = absurd (subst IsEmptyList e tt)
