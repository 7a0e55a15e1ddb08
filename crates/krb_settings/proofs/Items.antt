-- What the items of a list write, each behind a comma.
use Rattle.std.proofs.Common.{◌≡◌, ℕ, List, [], ◌∷◌, ◌++◌, Option, None, Some, append-nil, refl, ap, sym, ◌∙◌}
use Rattle.std.specs.Fmt.{◌++?◌, comma_space, debug_items}
use Rattle.std.proofs.Output.{then_text_assoc}

nothing_behind : (o : Option (List ℕ)) → o ++? Some [] ≡ Some [] ++? o
nothing_behind None = refl
nothing_behind (Some text) = ap Some (append-nil text)

-- one more item
pub items_more : {X : Type 0} (text : X → Option (List ℕ)) (xs : List X) (x : X)
    → debug_items text comma_space (xs ++ x ∷ []) ≡ debug_items text comma_space xs ++? (Some comma_space ++? text x)
items_more text [] x = sym (then_text_assoc (Some comma_space) (text x) (Some [])) ∙ nothing_behind (Some comma_space ++? text x)
items_more text (y ∷ xs) x =
    let first = Some comma_space in
    let last = first ++? text x in
    ap (λ o. first ++? text y ++? o) (items_more text xs x)
    ∙ sym (then_text_assoc first (text y ++? debug_items text comma_space xs) last ∙ ap (λ o. first ++? o) (then_text_assoc (text y) (debug_items text comma_space xs) last))
