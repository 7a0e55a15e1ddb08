-- What two values that are written alike have in common: all, or what a view shows of them. A vector's memory isn't written.
use Rattle.std.specs.Prelude.{◌≡◌, List, Option, None, Some, map}

pub data Seen (T : Type 0) : Type 1 where
  as_is : Seen T
  by : (V : Type 0) → (T → V) → Seen T

-- they show the same
abbrev pub Alike : {T : Type 0} → Seen T → T → T → Type 0
Alike as_is v w = v ≡ w
Alike (by V view) v w = view v ≡ view w

abbrev pub seen_pair : {A B : Type 0} → Seen A → Seen B → Seen (A × B)
seen_pair as_is as_is = as_is
seen_pair {A} as_is (by W g) = by (A × W) (λ p. (p.0, g p.1))
seen_pair {A} {B} (by V f) as_is = by (V × B) (λ p. (f p.0, p.1))
seen_pair (by V f) (by W g) = by (V × W) (λ p. (f p.0, g p.1))

abbrev pub seen_list : {A : Type 0} → Seen A → Seen (List A)
seen_list as_is = as_is
seen_list (by V f) = by (List V) (map f)

abbrev pub map_option : {A V : Type 0} → (A → V) → Option A → Option V
map_option f None = None
map_option f (Some a) = Some (f a)

abbrev pub seen_option : {A : Type 0} → Seen A → Seen (Option A)
seen_option as_is = as_is
seen_option (by V f) = by (Option V) (map_option f)

-- what is seen of a value that holds just another: what is seen of that one
abbrev pub seen_part : {A B : Type 0} → (B → A) → Seen A → Seen B
seen_part part as_is = as_is
seen_part part (by V f) = by V (λ b. f (part b))

-- what is seen of a value that holds elements in its memory: what is seen of each element
abbrev pub seen_items : {A B : Type 0} → (B → List A) → Seen A → Seen B
seen_items {A} items as_is = by (List A) items
seen_items items (by V f) = by (List V) (λ b. map f (items b))
