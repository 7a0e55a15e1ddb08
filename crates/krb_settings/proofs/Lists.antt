-- A loop over the values of a list.
use Rattle.std.proofs.Common.{◌≡◌, ℕ, ◌+◌, ◌<◌, suc, List, [], ◌∷◌, ◌++◌, length, drop, get_or, Result, Ok, Err, refl, ap, sym, subst, ◌∙◌, arith}
use Rattle.std.proofs.lemmas.List.{append_assoc}
use Rattle.toml.specs.Data.{Data}
use Rattle.toml.specs.View.{view, items_view}
use Rattle.toml.specs.declared.value.Value.{Value}
use Rattle.toml.proofs.Views.{items_view-drop}
use Rattle.krb_settings.specs.Steps.{◌>>=◌, each_from}

-- what the rest gives, behind what was given so far
abbrev pub behind : {A E : Type 0} → List A → Result (List A) E → Result (List A) E
behind done rest = rest >>= (λ xs. Ok (done ++ xs))

behind-none : {A E : Type 0} (r : Result (List A) E) → r ≡ behind [] r
behind-none (Ok xs) = refl
behind-none (Err e) = refl

behind-more : {A E : Type 0} (done : List A) (x : A) (r : Result (List A) E) → behind done (r >>= (λ xs. Ok (x ∷ xs))) ≡ behind (done ++ x ∷ []) r
behind-more done x (Ok xs) = ap Ok (sym (append_assoc done (x ∷ []) xs))
behind-more done x (Err e) = refl

-- the first i values gave `done`
abbrev pub IsSoFar : {A E : Type 0} → (ℕ → Data → Result A E) → ℕ → List Value → ℕ → List A → Type 0
IsSoFar gives n vs i done = each_from gives n (items_view vs) ≡ behind done (each_from gives (n + i) (items_view (drop i vs)))

pub so_far-start : {A E : Type 0} (gives : ℕ → Data → Result A E) (n : ℕ) (vs : List Value) → IsSoFar gives n vs 0 []
so_far-start gives n vs =
    let whole : n ≡ n + 0 = omega arith in
    subst (λ (m : ℕ). each_from gives n (items_view vs) ≡ behind [] (each_from gives m (items_view vs))) whole (behind-none (each_from gives n (items_view vs)))

pub so_far-more : {A E : Type 0} (gives : ℕ → Data → Result A E) (n : ℕ) (vs : List Value) (i : ℕ) (d : Value) (done : List A) (x : A)
    → i < length vs → gives (n + i) (view (get_or vs i d)) ≡ Ok x → IsSoFar gives n vs i done → IsSoFar gives n vs (i + 1) (done ++ x ∷ [])
so_far-more gives n vs i d done x inside given so_far =
    let next : suc (n + i) ≡ n + (i + 1) = omega arith in
    so_far ∙ rw (items_view-drop vs i d inside, given, ← next) (behind-more done x (each_from gives (suc (n + i)) (items_view (drop (i + 1) vs))))

pub so_far-refused : {A E : Type 0} (gives : ℕ → Data → Result A E) (n : ℕ) (vs : List Value) (i : ℕ) (d : Value) (done : List A) (e : E)
    → i < length vs → gives (n + i) (view (get_or vs i d)) ≡ Err e → IsSoFar gives n vs i done → each_from gives n (items_view vs) ≡ Err e
so_far-refused gives n vs i d done e inside refused so_far = so_far ∙ rw (items_view-drop vs i d inside, refused) refl
