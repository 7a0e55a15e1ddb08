-- A dotted text is that of one list of arcs.
use Rattle.std.proofs.Common.{◌≡◌, ◌≢◌, ℕ, zero, suc, ◌^◌, ◌<◌, ◌≤◌, true, ◌&&◌, List, [], ◌∷◌, ◌++◌, length, get_or, Option, Result, Ok, Err, MatchOption, MatchResult, ◌⊎◌, append-nil, refl, sym, ap, ◌∙◌, inl, inr, arith, length-append}
use Rattle.std.specs.List.{list_all, flat_map}
use Rattle.std.specs.Fmt.{decimal}
use Rattle.std.specs.Result.{result_ok}
use Rattle.std.specs.Str.Parse.{AllDigits, digits_value, ParsesUnsigned}
use Rattle.std.proofs.lemmas.List.{get_or_at}
use Rattle.std.proofs.lemmas.Bool.{and_from, and_parts, lt-ltb, ltb-true}
use Rattle.std.proofs.lemmas.Fmt.{decimal_is_IsNumeral, decimal_digit, decimal_nonempty, first_decimal, decimal_injective, decimal-digits_value}
use Rattle.std.proofs.lemmas.Str.Parse.{IsNumeralModel, numerals_by_value, tells_digits, digit_at, parse_plain}
use Rattle.asn1_leaves.specs.ObjectIdentifier.{is_u64, joined, may_begin, IsObjectIdentifier, dotted_text, IsDotted}
use Rattle.asn1_leaves.specs.Makes.{Makes}
use Rattle.asn1_leaves.specs.declared.fault.LeafFault.{LeafFault}
use Rattle.asn1_leaves.specs.declared.fault.LeafFault.TheVariants.{Memory, Oid}

-- std's own words for digits and their value
own : IsNumeralModel (AllDigits 10) (digits_value 10)
own = numerals_by_value (AllDigits 10) tells_digits

-- what is read as a number is that number's decimal text, where no plus and no needless zero stands first
pub arc-parsed : {E : Type 0} (text : List ℕ) (parsed : Result ℕ E) (read : Option ℕ) → ParsesUnsigned 64 10 text parsed → get_or text 0 0 ≢ 43 → (get_or text 0 0 ≡ 48 → length text ≤ 1) → read ≡ result_ok parsed → MatchOption read ((n : ℕ) → n < 2 ^ 64 → decimal n ≢ text) (λ n. (n < 2 ^ 64) × (decimal n ≡ text))
arc-parsed {E} text (Ok n) read parses plus needless e =
    let plain = parse_plain own {E = E} 64 text (Ok n) parses plus in
    let value = plain.1 in
    let written = decimal-digits_value own text plain.0.0 plain.0.1 (λ first. let short = needless first in let some = plain.0.1 in omega arith) plain.0.2 in
    rw e (rw value plain.0.2, ap decimal value ∙ written)
arc-parsed {E} text (Err fault) read parses plus needless e =
    rw e (λ n small same.
    let numeral = rw same at (decimal_is_IsNumeral n small) in
    parse_plain own {E = E} 64 text (Err fault) parses plus (numeral.0.1, numeral.0.0, rw numeral.1 small))

-- a decimal text begins with no plus, and with no needless zero
pub no_plus : (n : ℕ) → n < 2 ^ 64 → get_or (decimal n) 0 0 ≢ 43
no_plus n small e =
    let digit = digit_at (decimal n) 0 (decimal_is_IsNumeral n small).0.1 (decimal_nonempty n small) in
    omega arith

pub no_needless_zero : (n : ℕ) → n < 2 ^ 64 → get_or (decimal n) 0 0 ≡ 48 → length (decimal n) ≤ 1
no_needless_zero zero small e = omega (arith, ap length (decimal_digit 0 (omega arith)))
no_needless_zero (suc n) small e = let first = first_decimal (suc n) (omega arith) small in absurd (omega arith)

-- a text without a full stop
abbrev pub NoStop : List ℕ → Type 0
NoStop text = (i : ℕ) → i < length text → get_or text i 0 ≢ 46

NoStop-decimal : (n : ℕ) → n < 2 ^ 64 → NoStop (decimal n)
NoStop-decimal n small i inside e =
    let digit = digit_at (decimal n) i (decimal_is_IsNumeral n small).0.1 inside in
    omega arith

-- the first full stop is one place
one_stop : (xs ys us vs : List ℕ) → NoStop xs → NoStop ys → xs ++ 46 ∷ us ≡ ys ++ 46 ∷ vs → (xs ≡ ys) × (us ≡ vs)
one_stop [] [] us vs left right e = (refl, cc)
one_stop [] (y ∷ ys) us vs left right e = absurd (right 0 (omega arith) (ap (λ zs. get_or zs 0 0) (sym e)))
one_stop (x ∷ xs) [] us vs left right e = absurd (left 0 (omega arith) (ap (λ zs. get_or zs 0 0) e))
one_stop (x ∷ xs) (y ∷ ys) us vs left right e =
    let tail : xs ++ 46 ∷ us ≡ ys ++ 46 ∷ vs = cc in
    let head : x ≡ y = cc in
    let rest = one_stop xs ys us vs (λ i inside. left (suc i) (omega arith)) (λ i inside. right (suc i) (omega arith)) tail in
    ((λ i. head i ∷ rest.0 i), rest.1)

-- and what has none holds none
no_stop_inside : (text front back : List ℕ) → NoStop text → text ≢ front ++ 46 ∷ back
no_stop_inside text front back none e =
    let long = ap length e in
    let count = length-append front (46 ∷ back) in
    none (length front) (omega arith) (ap (λ xs. get_or xs (length front) 0) e ∙ get_or_at front 46 back 0 (length front) refl)

-- one arc more in front
pub dotted-push : (arc : ℕ) (arcs text part rest : List ℕ) → arc < 2 ^ 64 → decimal arc ≡ part → text ≡ part ++ 46 ∷ rest → IsDotted arcs rest → IsDotted (arc ∷ arcs) text
unfolding dotted_text
dotted-push arc [] text part rest small is e (some, fit, same) = absurd (omega arith)
dotted-push arc (next ∷ arcs) text part rest small is e (some, fit, same) =
    (omega arith, and_from (is_u64 arc) (list_all is_u64 (next ∷ arcs)) (lt-ltb arc (2 ^ 64) small) fit, (λ i. is i ++ 46 ∷ same i) ∙ sym e)

-- a text with a full stop begins with its first arc, and goes on with those of the rest
pub dotted-pop : (arc : ℕ) (arcs text part rest : List ℕ) → text ≡ part ++ 46 ∷ rest → NoStop part → IsDotted (arc ∷ arcs) text → (arc < 2 ^ 64) × (decimal arc ≡ part) × IsDotted arcs rest
unfolding dotted_text
dotted-pop arc [] text part rest e none (some, fit, same) =
    let small = ltb-true arc (2 ^ 64) (and_parts (is_u64 arc) true fit).0 in
    absurd (no_stop_inside (decimal arc) part rest (NoStop-decimal arc small) (same ∙ e))
dotted-pop arc (next ∷ arcs) text part rest e none (some, fit, same) =
    let parts = and_parts (is_u64 arc) (list_all is_u64 (next ∷ arcs)) fit in
    let small = ltb-true arc (2 ^ 64) parts.0 in
    let split = one_stop (decimal arc) part (dotted_text (next ∷ arcs)) rest (NoStop-decimal arc small) none (same ∙ e) in
    (small, split.0, (omega arith, parts.1, split.1))

-- without one it is one arc's
pub dotted-last : (arc : ℕ) (text : List ℕ) → arc < 2 ^ 64 → decimal arc ≡ text → IsDotted (arc ∷ []) text
unfolding dotted_text
dotted-last arc text small e = (omega arith, and_from (is_u64 arc) true (lt-ltb arc (2 ^ 64) small) refl, e)

pub last-dotted : (arc : ℕ) (arcs text : List ℕ) → NoStop text → IsDotted (arc ∷ arcs) text → (arc < 2 ^ 64) × (decimal arc ≡ text)
unfolding dotted_text
last-dotted arc [] text none (some, fit, same) = (ltb-true arc (2 ^ 64) (and_parts (is_u64 arc) true fit).0, same)
last-dotted arc (next ∷ arcs) text none (some, fit, same) =
    absurd (no_stop_inside text (decimal arc) (dotted_text (next ∷ arcs)) none (sym same))

-- a text without a full stop is that of one arc
one_arc : (x : ℕ) → x < 2 ^ 64 → (y : ℕ) (ys text : List ℕ) → decimal x ≡ text → IsDotted (y ∷ ys) text → x ∷ [] ≡ y ∷ ys
unfolding dotted_text
one_arc x small y [] text e dotted =
    ap (λ n. n ∷ []) (decimal_injective x y small (ltb-true y (2 ^ 64) (and_parts (is_u64 y) true dotted.1).0) (e ∙ sym dotted.2))
one_arc x small y (z ∷ ys) text e dotted =
    absurd (no_stop_inside (decimal x) (decimal y) (dotted_text (z ∷ ys)) (NoStop-decimal x small) (e ∙ sym dotted.2))

-- two lists of arcs with one text are the same
one_text : (xs ys text : List ℕ) → IsDotted xs text → IsDotted ys text → xs ≡ ys
unfolding dotted_text
one_text [] ys text left right = let some = left.0 in absurd (omega arith)
one_text (x ∷ xs) [] text left right = let some = right.0 in absurd (omega arith)
one_text (x ∷ []) (y ∷ ys) text left right =
    let small = ltb-true x (2 ^ 64) (and_parts (is_u64 x) true left.1).0 in
    one_arc x small y ys text left.2 right
one_text (x ∷ z ∷ xs) (y ∷ ys) text left right =
    let small = ltb-true x (2 ^ 64) (and_parts (is_u64 x) (list_all is_u64 (z ∷ xs)) left.1).0 in
    let rest = dotted-pop y ys text (decimal x) (dotted_text (z ∷ xs)) (sym left.2) (NoStop-decimal x small) right in
    let head = decimal_injective x y small rest.0 (sym rest.1) in
    let tail = one_text (z ∷ xs) ys (dotted_text (z ∷ xs)) (omega arith, (and_parts (is_u64 x) (list_all is_u64 (z ∷ xs)) left.1).1, refl) rest.2 in
    λ i. head i ∷ tail i

-- the text of an object identifier is that of its arcs
is_dotted : (arcs : List ℕ) → IsObjectIdentifier arcs → IsDotted arcs (dotted_text arcs)
is_dotted [] valid = absurd (let never : ⊥ = cc in never)
is_dotted (first ∷ []) valid = absurd (let never : ⊥ = cc in never)
is_dotted (first ∷ second ∷ arcs) valid =
    let parts = and_parts (may_begin first second) (is_u64 (joined first second) && list_all is_u64 arcs) valid in
    let rest = and_parts (is_u64 (joined first second)) (list_all is_u64 arcs) parts.1 in
    let most = ltb-true (joined first second) (2 ^ 64) rest.0 in
    (omega arith, and_from (is_u64 first) (list_all is_u64 (second ∷ arcs)) (lt-ltb first (2 ^ 64) (omega arith)) (and_from (is_u64 second) (list_all is_u64 arcs) (lt-ltb second (2 ^ 64) (omega arith)) rest.1), refl)

dotted_as : (arcs text : List ℕ) → IsObjectIdentifier arcs → dotted_text arcs ≡ text → IsDotted arcs text
dotted_as arcs text valid e = let dotted = is_dotted arcs valid in (dotted.0, dotted.1, e)

-- what is made of the arcs that were read
pub made_of_text : (arcs text : List ℕ) (made : Result (List ℕ) LeafFault) → IsDotted arcs text → Makes (IsObjectIdentifier arcs) Oid arcs made → MatchResult made (λ oid. IsObjectIdentifier oid × (dotted_text oid ≡ text)) (λ e. (e ≡ Memory) ⊎ ((e ≡ Oid) × ((other : List ℕ) → IsObjectIdentifier other → dotted_text other ≢ text)))
made_of_text arcs text (Ok oid) dotted made = (rw made.1 made.0, ap dotted_text made.1 ∙ dotted.2)
made_of_text arcs text (Err fault) dotted (inl memory) = inl memory
made_of_text arcs text (Err fault) dotted (inr none) =
    inr (none.0, λ other valid e. none.1 (rw (one_text other arcs text (dotted_as other text valid e) dotted) at valid))

-- and where none could be read, there is none
pub none_of_text : (text : List ℕ) → ((arcs : List ℕ) → ¬ IsDotted arcs text) → (arcs : List ℕ) → IsObjectIdentifier arcs → dotted_text arcs ≢ text
none_of_text text never arcs valid e = never arcs (dotted_as arcs text valid e)

pub dotted-nil : dotted_text [] ≡ []
unfolding dotted_text
dotted-nil = refl

-- the arcs behind the first, each behind a full stop
pub dotted-first : (first : ℕ) (arcs : List ℕ) → dotted_text (first ∷ arcs) ≡ decimal first ++ flat_map (λ arc. 46 ∷ decimal arc) arcs
unfolding dotted_text
dotted-first first [] = sym (append-nil (decimal first))
dotted-first first (second ∷ arcs) = ap (λ xs. decimal first ++ 46 ∷ xs) (dotted-first second arcs)
