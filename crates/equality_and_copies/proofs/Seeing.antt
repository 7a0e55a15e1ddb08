-- A test is true exactly where one thing is seen of two values: of lists, options and structs, from that of their parts.
use Rattle.std.proofs.Common.{◌≡◌, Bool, true, false, List, refl, sym, ap, ◌∙◌}
use Rattle.std.specs.Prelude.{◌&&◌, Option, Some, None, Vec, map, option_map}
use Rattle.std.specs.Bool.{Decides}
use Rattle.std.specs.Cmp.{unsigned_Decides}
use Rattle.std.specs.Cmp.Lexicographic.{pointwise}
use Rattle.std.specs.Global.{Global}
use Rattle.std.specs.Option.{option_eq}
use Rattle.std.proofs.lemmas.Bool.Decides.{Decides-and}
use mathlib.Core.Bool.{true≢false}
use mathlib.Core.List.{[], ◌∷◌}
use denote.Enum.Bare.{Bare, sameb, tag_one}
use denote.Enum.Declared.{Declared, tag_of}
use denote.Struct.Declared.{Declared as Struct}
use denote.Struct.Values.{Values}

abbrev pub IsSeen : {K V : Type 0} → (K → K → Bool) → (K → V) → Type 0
IsSeen {K} test seen = (v w : K) → Decides (test v w) (seen v ≡ seen w)

-- all of the value is seen
pub whole : {K : Type 0} {E : K → K → Bool} → ((v w : K) → Decides (E v w) (v ≡ w)) → IsSeen E (λ v. v)
whole same = same

-- all of an enum with no field is seen
pub kinds : (D : Declared) → Bare D.parts → IsSeen (sameb D) (λ v. v)
kinds D none v w =
    let same = unsigned_Decides (tag_of D v) (tag_of D w) in
    (λ e. tag_one D none v w (same.0 e), λ e. same.1 (ap (tag_of D) e))

-- the same is seen, put together in another way
pub put_as : {K V W : Type 0} {E : K → K → Bool} {f : K → V} → IsSeen E f → (there : V → W) (back : W → V) → ((x : V) → back (there x) ≡ x) → IsSeen E (λ v. there (f v))
put_as {f = f} seen there back kept v w =
    (λ e. ap there ((seen v w).0 e), λ e. (seen v w).1 (sym (kept (f v)) ∙ ap back e ∙ kept (f w)))

pub both : {K L V W : Type 0} {E : K → K → Bool} {F : L → L → Bool} {f : K → V} {g : L → W} → IsSeen E f → IsSeen F g
    → IsSeen {V = V × W} (λ (v w : K × L). E v.0 w.0 && F v.1 w.1) (λ v. (f v.0, g v.1))
both {E = E} {F = F} left right v w =
    let parts = Decides-and (E v.0 w.0) (F v.1 w.1) (left v.0 w.0) (right v.1 w.1) in
    (λ e. let p = parts.0 e in λ i. (p.0 i, p.1 i), λ e. parts.1 (λ i. (e i).0, λ i. (e i).1))

pub last : {K V : Type 0} {E : K → K → Bool} {f : K → V} → IsSeen E f → IsSeen (λ (v w : K × Unit {0}). E v.0 w.0) (λ v. f v.0)
last seen v w = seen v.0 w.0

pub fields : (T : Struct) {V : Type 0} {E : Values T.parts → Values T.parts → Bool} {f : Values T.parts → V} → IsSeen E f
    → IsSeen (λ (v w : T.D). E (T.as_values v) (T.as_values w)) (λ v. f (T.as_values v))
fields T seen v w = seen (T.as_values v) (T.as_values w)

pub options : {K V : Type 0} {E : K → K → Bool} {f : K → V} → IsSeen E f → IsSeen (option_eq E) (option_map f)
options seen None None = (λ _. refl, λ _. refl)
options seen None (Some w) = (λ e. absurd (true≢false (sym e)), λ e. ap (option_eq (λ _ _. true) None) (sym e))
options seen (Some v) None = (λ e. absurd (true≢false (sym e)), λ e. ap (option_eq (λ _ _. true) None) e)
options {f = f} seen (Some v) (Some w) = (λ e. ap Some ((seen v w).0 e), λ e. (seen v w).1 (ap (held (f v)) e))
  where
    held : {V : Type 0} → V → Option V → V
    held x None = x
    held x (Some y) = y

abbrev is_empty : {V : Type 0} → List V → Bool
is_empty [] = true
is_empty (x ∷ xs) = false

abbrev first_or : {V : Type 0} → V → List V → V
first_or x [] = x
first_or x (y ∷ ys) = y

abbrev behind_first : {V : Type 0} → List V → List V
behind_first [] = []
behind_first (y ∷ ys) = ys

pub lists : {K V : Type 0} {E : K → K → Bool} {f : K → V} → IsSeen E f → IsSeen (pointwise E) (map f)
lists seen [] [] = (λ _. refl, λ _. refl)
lists seen [] (w ∷ ws) = (λ e. absurd (true≢false (sym e)), λ e. ap is_empty (sym e))
lists seen (v ∷ vs) [] = (λ e. absurd (true≢false (sym e)), λ e. ap is_empty e)
lists {E = E} {f = f} seen (v ∷ vs) (w ∷ ws) =
    let parts = Decides-and (E v w) (pointwise E vs ws) (seen v w) (lists seen vs ws) in
    (λ e. let p = parts.0 e in λ i. p.0 i ∷ p.1 i, λ e. parts.1 (ap (first_or (f v)) e, ap behind_first e))

pub vectors : {K V : Type 0} {E : K → K → Bool} {f : K → V} → IsSeen E f
    → IsSeen (λ (v w : Vec K Global). pointwise E v.items w.items) (λ v. map f v.items)
vectors seen v w = lists seen v.items w.items
