-- What the cases of a table give that was told, the table gives.
use Rattle.std.proofs.Common.{◌≡◌, Result, Ok, Err, IfOk, inl, inr, refl}
use Rattle.decision_tables.specs.One.{IsSole}
use Rattle.decision_tables.specs.Tables.{Table, as_made, ask}

pub if_asked : {A T E : Type 0} (P : A → Type 0) (sole : IsSole P) (otherwise : Table T) (rest : A → Table T) (a : A) (r : Result T E)
    → P a → IfOk r (rest a).gives → IfOk r (ask P sole otherwise rest).gives
if_asked P sole otherwise rest a (Ok x) p g = inl (a, p, g)
if_asked P sole otherwise rest a (Err e) p g = tt

pub if_made : {T U : Type 0} (f : T → U) (t : Table T) (x : T) → t.gives x → (as_made f t).gives (f x)
if_made f t x g = (x, g, refl)
