-- What shows the same, part by part.
use Rattle.std.proofs.Common.{◌≡◌, List, [], ◌∷◌, length, None, Some, refl, sym, ap, ◌∙◌}
use Rattle.std.proofs.lemmas.List.{length-map}
use Rattle.asn1_der.specs.Seen.{Seen, as_is, by, Alike, seen_pair, seen_list, seen_option, seen_part, seen_items}

pub alike-refl : {T : Type 0} (seen : Seen T) (v : T) → Alike seen v v
alike-refl as_is v = refl
alike-refl (by V f) v = refl

pub alike-sym : {T : Type 0} (seen : Seen T) (v w : T) → Alike seen v w → Alike seen w v
alike-sym as_is v w e = sym e
alike-sym (by V f) v w e = sym e

pub alike-pair : {A B : Type 0} (s : Seen A) (t : Seen B) (v w : A × B) → Alike s v.0 w.0 → Alike t v.1 w.1 → Alike (seen_pair s t) v w
alike-pair as_is as_is v w d e = λ i. (d i, e i)
alike-pair as_is (by W g) v w d e = λ i. (d i, e i)
alike-pair (by V f) as_is v w d e = λ i. (d i, e i)
alike-pair (by V f) (by W g) v w d e = λ i. (d i, e i)

pub alike-none : {A : Type 0} (seen : Seen A) → Alike (seen_option seen) None None
alike-none as_is = refl
alike-none (by V f) = refl

pub alike-some : {A : Type 0} (seen : Seen A) (v w : A) → Alike seen v w → Alike (seen_option seen) (Some v) (Some w)
alike-some as_is v w e = ap Some e
alike-some (by V f) v w e = ap Some e

pub alike-nil : {A : Type 0} (seen : Seen A) → Alike (seen_list seen) [] []
alike-nil as_is = refl
alike-nil (by V f) = refl

pub alike-cons : {A : Type 0} (seen : Seen A) (v w : A) (values others : List A) → Alike seen v w → Alike (seen_list seen) values others → Alike (seen_list seen) (v ∷ values) (w ∷ others)
alike-cons as_is v w values others d e = λ i. d i ∷ e i
alike-cons (by V f) v w values others d e = λ i. d i ∷ e i

-- lists that show the same are as long
pub alike-length : {A : Type 0} (seen : Seen A) (values others : List A) → Alike (seen_list seen) values others → length values ≡ length others
alike-length as_is values others e = ap length e
alike-length (by V f) values others e = sym (length-map values f) ∙ ap length e ∙ length-map others f

-- a value that holds just another, from which it is made
pub alike-part : {A B : Type 0} (seen : Seen A) (v w : B) (part : B → A) (made : A → B) → ((b : B) → made (part b) ≡ b) → Alike seen (part v) (part w) → Alike (seen_part part seen) v w
alike-part as_is v w part made back e = sym (back v) ∙ ap made e ∙ back w
alike-part (by V f) v w part made back e = e

-- a value that shows its elements
pub alike-items : {A B : Type 0} (seen : Seen A) (v w : B) (items : B → List A) → Alike (seen_list seen) (items v) (items w) → Alike (seen_items items seen) v w
alike-items as_is v w items e = e
alike-items (by V f) v w items e = e
