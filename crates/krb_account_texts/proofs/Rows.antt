-- Rows of a pattern: for each end of a text, whether the pattern from some place on matches it.
use Rattle.std.proofs.Common.{◌≡◌, inl, inr, ℕ, zero, suc, ◌+◌, ◌<◌, ◌≤◌, ◌==◌, ◌&&◌, ◌||◌, Bool, true, false, cond, List, [], ◌∷◌, ◌++◌, length, get_or, set, drop, replicate, refl, ap, sym, subst, ◌∙◌, arith, length-append, length-set}
use Rattle.std.proofs.lemmas.List.{drop_all, drop_more, get_or-set_other, get_or-set_same, length-replicate}
use Rattle.std.proofs.lemmas.Bool.Decides.{eqb_tells}
use Rattle.krb_account_texts.specs.Patterns.{IsRow, is_empty, matches, stands_for}

-- the row of no pattern
known-last : (text : List ℕ) (k : ℕ) → k ≤ length text → get_or (replicate (length text) false ++ true ∷ []) k false ≡ is_empty (drop k text)
known-last [] zero inside = refl
known-last [] (suc k) inside = absurd (omega arith)
known-last (c ∷ text) zero inside = refl
known-last (c ∷ text) (suc k) inside = known-last text k (omega arith)

pub last-row : (text : List ℕ) (row : List Bool) → row ≡ replicate (length text) false ++ true ∷ [] → IsRow [] text row
last-row text row is = record {
  size = ap length is ∙ length-append (replicate (length text) false) (true ∷ []) ∙ ap (λ n. n + 1) (length-replicate (length text) false);
  known = λ k inside. ap (λ (r : List Bool). get_or r k false) is ∙ known-last text k inside;
}

-- the ends from the i-th on are of the pattern from a mark on, and those before it of the pattern after the mark, as the i-th was
pub record IsPut (mark : ℕ) (rest text : List ℕ) (row : List Bool) (i : ℕ) (behind : Bool) : Type 0 where
  pub size : length row ≡ length text + 1
  pub below : (k : ℕ) → k < i → get_or row k false ≡ matches rest (drop k text)
  pub from : (k : ℕ) → i ≤ k → k ≤ length text → get_or row k false ≡ matches (mark ∷ rest) (drop k text)
  pub held : behind ≡ matches rest (drop i text)

-- one end
end-fits : (mark : ℕ) (rest : List ℕ) (behind : Bool) → behind ≡ matches rest [] → ((mark == 42) && behind) ≡ matches (mark ∷ rest) []
end-fits mark rest behind held = elim (eqb_tells mark 42) [
  | inl star ↦ rw (star.0, held) refl
  | inr other ↦ rw other.0 refl
]

pub front-fits : (mark : ℕ) (rest : List ℕ) (c : ℕ) (text : List ℕ) (here next behind : Bool) → here ≡ matches rest (c ∷ text) → next ≡ matches (mark ∷ rest) text
    → behind ≡ matches rest text → (if_star : Bool) → (mark == 42) ≡ if_star → cond if_star (here || next) (stands_for mark c && behind) ≡ matches (mark ∷ rest) (c ∷ text)
front-fits mark rest c text here next behind at_here at_next held true star = rw (at_here, at_next, star) refl
front-fits mark rest c text here next behind at_here at_next held false other = rw (held, other) refl

apart : (k i : ℕ) → i ≤ k → (k ≡ i → ⊥) → i + 1 ≤ k
apart k i above other = omega arith

-- a write at the i-th end
pub put-at : (mark : ℕ) (rest text : List ℕ) (row : List Bool) (i : ℕ) (held here value : Bool) → IsPut mark rest text row (i + 1) held → i < length text
    → here ≡ get_or row i false → value ≡ matches (mark ∷ rest) (drop i text) → IsPut mark rest text (set row i value) i here
put-at mark rest text row i held here value is inside at_here at_value =
    let within : i < length row = let size = is.size in omega arith in
    record {
      size = length-set row i value ∙ is.size;
      below = λ k before. get_or-set_other row i k value false (λ e. omega (arith, e)) ∙ is.below k (omega arith);
      from = λ k above few. elim (eqb_tells k i) [
        | inl same ↦ subst (λ (j : ℕ). get_or (set row i value) j false ≡ matches (mark ∷ rest) (drop j text)) (sym same.1) (get_or-set_same row i value false within ∙ at_value)
        | inr other ↦ get_or-set_other row i k value false other.1 ∙ is.from k (apart k i above other.1) few
      ];
      held = at_here ∙ is.below i (omega arith);
    }

-- before the first write, the last end is that of the whole text
pub put-last : (mark : ℕ) (rest text : List ℕ) (row : List Bool) (behind : Bool) → IsRow rest text row → behind ≡ get_or row (length text) false
    → IsPut mark rest text (set row (length text) ((mark == 42) && behind)) (length text) behind
put-last mark rest text row behind is at_end =
    let n : ℕ = length text in
    let ended : drop n text ≡ [] = drop_all n text (omega arith) in
    let held : behind ≡ matches rest (drop n text) = at_end ∙ is.known n (omega arith) in
    let within : n < length row = let size = is.size in omega arith in
    let value : ((mark == 42) && behind) ≡ matches (mark ∷ rest) (drop n text) =
    end-fits mark rest behind (held ∙ ap (matches rest) ended) ∙ ap (matches (mark ∷ rest)) (sym ended) in
    record {
      size = length-set row n ((mark == 42) && behind) ∙ is.size;
      below = λ k before. get_or-set_other row n k ((mark == 42) && behind) false (λ e. omega (arith, e)) ∙ is.known k (omega arith);
      from = λ k above few.
          let same : k ≡ n = omega arith in
          subst (λ (j : ℕ). get_or (set row n ((mark == 42) && behind)) j false ≡ matches (mark ∷ rest) (drop j text)) (sym same) (get_or-set_same row n ((mark == 42) && behind) false within ∙ value);
      held = held;
    }

pub put-first : (mark : ℕ) (rest text : List ℕ) (row : List Bool) (behind : Bool) → IsPut mark rest text row 0 behind → IsRow (mark ∷ rest) text row
put-first mark rest text row behind is = record { size = is.size; known = λ k few. is.from k (omega arith) few }

pub value-at : (mark : ℕ) (rest text : List ℕ) (row : List Bool) (i : ℕ) (held : Bool) → IsPut mark rest text row (i + 1) held → i < length text
    → (here next : Bool) → here ≡ get_or row i false → next ≡ get_or row (i + 1) false → (if_star : Bool) → (mark == 42) ≡ if_star
    → cond if_star (here || next) (stands_for mark (get_or text i 0) && held) ≡ matches (mark ∷ rest) (drop i text)
value-at mark rest text row i held is inside here next at_here at_next if_star star =
    let split : drop i text ≡ get_or text i 0 ∷ drop (i + 1) text = drop_more text i 0 inside in
    front-fits mark rest (get_or text i 0) (drop (i + 1) text) here next held
    (at_here ∙ is.below i (omega arith) ∙ ap (matches rest) split) (at_next ∙ is.from (i + 1) (omega arith) (omega arith)) is.held if_star star
    ∙ ap (matches (mark ∷ rest)) (sym split)
