-- The tree of a choice is that of the alternative that it is.
use Rattle.asn1_der.specs.Tree.{Tree}
use Rattle.asn1_der.specs.Seen.{Seen, as_is, by}
use Rattle.picky_asn1_der.specs.declared.choice.Choice.{Choice}
use Rattle.picky_asn1_der.specs.declared.choice.Choice.TheVariants.{This, Other}

abbrev pub choice_tree : {A B : Type 0} → (A → Tree) → (B → Tree) → Choice A B → Tree
choice_tree tree others (This a) = tree a
choice_tree tree others (Other b) = others b

abbrev pub map_choice : {A B V W : Type 0} → (A → V) → (B → W) → Choice A B → Choice V W
map_choice f g (This a) = This (f a)
map_choice f g (Other b) = Other (g b)

abbrev pub seen_choice : {A B : Type 0} → Seen A → Seen B → Seen (Choice A B)
seen_choice as_is as_is = as_is
seen_choice {A} as_is (by W g) = by (Choice A W) (map_choice (λ a. a) g)
seen_choice {A} {B} (by V f) as_is = by (Choice V B) (map_choice f (λ b. b))
seen_choice (by V f) (by W g) = by (Choice V W) (map_choice f g)
