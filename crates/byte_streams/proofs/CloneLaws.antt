-- Lists of copies.
use Rattle.std.proofs.Common.{◌≡◌, List, [], ◌∷◌, map, refl, ap₂}
use Rattle.std.specs.List.{AllZip}

-- copies that are seen as their values make a list that is seen as theirs
pub copies-seen : {T V : Type 0} (view : T → V) (values copies : List T) → AllZip (λ value copy. view copy ≡ view value) values copies
    → map view copies ≡ map view values
copies-seen view [] [] same = refl
copies-seen view [] (c ∷ cs) same = absurd same
copies-seen view (v ∷ vs) [] same = absurd same
copies-seen view (v ∷ vs) (c ∷ cs) same = ap₂ ◌∷◌ same.0 (copies-seen view vs cs same.1)
