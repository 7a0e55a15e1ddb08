-- A loop over the parts of a text.
use Rattle.std.proofs.Common.{◌≡◌, ◌⊎◌, ℕ, ◌+◌, ◌<◌, List, [], ◌∷◌, ◌++◌, length, drop, get_or, map, Result, Ok, Err, refl, ap, sym, subst, ◌∙◌, arith, add-one}
use Rattle.std.proofs.Math.Seq.{drop-cons}
use Rattle.std.proofs.lemmas.List.{append_assoc, append-nil}
use Rattle.krb_account_texts.specs.Steps.{◌>>=◌, IsAside, each_from}

-- what the rest gives, behind what was given so far
abbrev pub behind : {A E : Type 0} → List A → Result (List A) E → Result (List A) E
behind done rest = rest >>= (λ xs. Ok (done ++ xs))

behind-none : {A E : Type 0} (r : Result (List A) E) → r ≡ behind [] r
behind-none (Ok xs) = refl
behind-none (Err e) = refl

behind-more : {A E : Type 0} (done : List A) (x : A) (r : Result (List A) E) → behind done (r >>= (λ xs. Ok (x ∷ xs))) ≡ behind (done ++ x ∷ []) r
behind-more done x (Ok xs) = ap Ok (sym (append_assoc done (x ∷ []) xs))
behind-more done x (Err e) = refl

-- the first i parts gave `done`
abbrev pub IsSoFar : {A E P : Type 0} → (ℕ → List ℕ → Result A E) → (P → List ℕ) → List P → ℕ → List A → Type 0
IsSoFar gives text parts i done = each_from gives 1 (map text parts) ≡ behind done (each_from gives (1 + i) (map text (drop i parts)))

pub so_far-start : {A E P : Type 0} (gives : ℕ → List ℕ → Result A E) (text : P → List ℕ) (parts : List P) → IsSoFar gives text parts 0 []
so_far-start gives text parts = behind-none (each_from gives 1 (map text parts))

map-drop : {P : Type 0} (text : P → List ℕ) (parts : List P) (i : ℕ) (d : P) → i < length parts → map text (drop i parts) ≡ text (get_or parts i d) ∷ map text (drop (i + 1) parts)
map-drop text parts i d inside = rw (add-one, drop-cons parts i d) refl

pub so_far-more : {A E P : Type 0} (gives : ℕ → List ℕ → Result A E) (text : P → List ℕ) (parts : List P) (i : ℕ) (d : P) (done : List A) (x : A)
    → i < length parts → gives (i + 1) (text (get_or parts i d)) ≡ Ok x → IsSoFar gives text parts i done → IsSoFar gives text parts (i + 1) (done ++ x ∷ [])
so_far-more gives text parts i d done x inside given so_far =
    let here : 1 + i ≡ i + 1 = omega arith in
    let next : 1 + (i + 1) ≡ i + 1 + 1 = omega arith in
    so_far ∙ rw (map-drop text parts i d inside, here, given, next) (behind-more done x (each_from gives (i + 1 + 1) (map text (drop (i + 1) parts))))

pub so_far-refused : {A E P : Type 0} (gives : ℕ → List ℕ → Result A E) (text : P → List ℕ) (parts : List P) (i : ℕ) (d : P) (done : List A) (e : E)
    → i < length parts → gives (i + 1) (text (get_or parts i d)) ≡ Err e → IsSoFar gives text parts i done → each_from gives 1 (map text parts) ≡ Err e
so_far-refused gives text parts i d done e inside refused so_far =
    let here : 1 + i ≡ i + 1 = omega arith in
    so_far ∙ rw (map-drop text parts i d inside, here, refused) refl

pub so_far-all : {A E P : Type 0} (gives : ℕ → List ℕ → Result A E) (text : P → List ℕ) (parts : List P) (i : ℕ) (done : List A)
    → drop i parts ≡ [] → IsSoFar gives text parts i done → each_from gives 1 (map text parts) ≡ Ok done
so_far-all gives text parts i done ended so_far = so_far ∙ rw ended (ap Ok (rw append-nil refl))

-- the exit of a step that was refused
pub refused-aside : {A B E : Type 0} (memory : E) (shown : A → B) (wanted : Result B E) (r : Result A E) (e : E) → r ≡ Err e
    → (e ≡ memory) ⊎ (wanted ≡ Err e) → IsAside memory shown wanted r
refused-aside memory shown wanted r e is why = subst (IsAside memory shown wanted) (sym is) why
