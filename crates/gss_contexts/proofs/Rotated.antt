-- A text is rotated to some octets exactly where they are rotated back to it.
use Rattle.std.proofs.Common.{◌≡◌, ℕ, ◌-◌, ◌%◌, ◌≤◌, List, [], ◌++◌, length, take, drop, refl, ap, sym, ◌∙◌, inl, inr, arith}
use Rattle.std.proofs.lemmas.Bool.{cases_lt}
use Rattle.std.proofs.lemmas.List.{take_at, drop_at, length-drop, length-take, length-append, take-append-drop, take_all, nil_from_length}
use Rattle.std.proofs.Math.Nat.{zero-mod}
use Rattle.gss_contexts.specs.Tokens.{rotated_right}

rotated_again : (count cut : ℕ) (octets : List ℕ) → cut ≡ count % length octets → cut ≤ length octets
    → rotated_right count (drop cut octets ++ take cut octets) ≡ octets
unfolding rotated_right
rotated_again count cut octets is_cut inside =
    let text = drop cut octets ++ take cut octets in
    let whole : length text ≡ length octets =
    omega (arith, length-append (drop cut octets) (take cut octets), length-drop cut octets, length-take cut octets) in
    let same : count % length text ≡ cut = ap (λ n. count % n) whole ∙ sym is_cut in
    let m = length text - count % length text in
    let front : length (drop cut octets) ≡ length text - count % length text = omega (arith, length-drop cut octets) in
    ap (λ (l : List ℕ). l ++ take m text) (drop_at (drop cut octets) (take cut octets) m front)
    ∙ ap (λ (l : List ℕ). take cut octets ++ l) (take_at (drop cut octets) (take cut octets) m front)
    ∙ take-append-drop cut octets

rotated_only : (count cut : ℕ) (octets text : List ℕ) → cut ≡ count % length octets → cut ≤ length octets
    → rotated_right count text ≡ octets → text ≡ drop cut octets ++ take cut octets
unfolding rotated_right
rotated_only count cut octets text is_cut inside is =
    let m = length text - count % length text in
    let whole : length octets ≡ length text =
    sym (ap length is) ∙ (omega (arith, length-append (drop m text) (take m text), length-drop m text, length-take m text)) in
    let same : count % length text ≡ cut = ap (λ n. count % n) (sym whole) ∙ sym is_cut in
    let front : length (drop m text) ≡ cut = omega (arith, length-drop m text) in
    let back : drop cut octets ≡ take m text = ap (drop cut) (sym is) ∙ drop_at (drop m text) (take m text) cut front in
    let first : take cut octets ≡ drop m text = ap (take cut) (sym is) ∙ take_at (drop m text) (take m text) cut front in
    sym (ap (λ (l : List ℕ). l ++ take cut octets) back ∙ ap (λ (l : List ℕ). take m text ++ l) first ∙ take-append-drop m text)

-- a text that isn't rotated
pub rotated_none : (text : List ℕ) → rotated_right 0 text ≡ text
unfolding rotated_right
rotated_none text =
    let whole : 0 % length text ≡ 0 = zero-mod (length text) in
    let m = length text - 0 % length text in
    let none : drop m text ≡ [] = nil_from_length (drop m text) (omega (arith, length-drop m text)) in
    ap (λ (l : List ℕ). l ++ take m text) none ∙ take_all m text (omega arith)

-- no octets are no text's but the empty one's
length-rotated : (count : ℕ) (text : List ℕ) → length (rotated_right count text) ≡ length text
unfolding rotated_right
length-rotated count text =
    let m = length text - count % length text in
    omega (arith, length-append (drop m text) (take m text), length-drop m text, length-take m text)

rotated_empty : (count : ℕ) → rotated_right count [] ≡ []
rotated_empty count = nil_from_length _ (length-rotated count [])

-- no octets
pub empty_again : (count : ℕ) (octets items : List ℕ) → length octets ≡ 0 → items ≡ [] → rotated_right count items ≡ octets
empty_again count octets items none is =
    ap (rotated_right count) is ∙ rotated_empty count ∙ sym (nil_from_length octets none)

-- what is made of the octets after a cut and those before it
pub made_again : (count cut : ℕ) (octets items : List ℕ) → cut ≡ count % length octets → cut ≤ length octets
    → items ≡ take (length octets - cut) (drop cut octets) ++ take cut octets → rotated_right count items ≡ octets
made_again count cut octets items is_cut inside is =
    ap (rotated_right count) (is ∙ ap (λ (l : List ℕ). l ++ take cut octets) (take_all (length octets - cut) (drop cut octets) (omega (arith, length-drop cut octets))))
    ∙ rotated_again count cut octets is_cut inside

-- a text is known by what it is rotated to
pub one_text : (count : ℕ) (octets text other : List ℕ) → rotated_right count text ≡ octets → rotated_right count other ≡ octets → text ≡ other
one_text count octets text other p q =
    elim (cases_lt 0 (length octets)) [
      | inl some ↦
          let inside : count % length octets ≤ length octets = omega arith in
          rotated_only count (count % length octets) octets text refl inside p ∙ sym (rotated_only count (count % length octets) octets other refl inside q)
      | inr none ↦
          let first : length text ≡ 0 = sym (length-rotated count text) ∙ ap length p ∙ omega arith in
          let second : length other ≡ 0 = sym (length-rotated count other) ∙ ap length q ∙ omega arith in
          nil_from_length text first ∙ sym (nil_from_length other second)
    ]
