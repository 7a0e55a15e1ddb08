-- A component is read off what is shown of it, so that two components are shown alike only if they are the same.
use Rattle.std.proofs.Common.{◌≡◌, ℕ, ◌<◌, ◌+◌, ◌*◌, ◌-◌, ◌&&◌, ◌==◌, Bool, true, false, List, [], ◌∷◌, ◌++◌, IsTrue, refl, ap, sym, ◌∙◌}
use Rattle.std.specs.Prelude.{nat_eq, nat_lt, if◌then◌else◌}
use Rattle.std.specs.Char.{encode_utf8}
use Rattle.std.specs.Fmt.{digits}
use Rattle.std.specs.Cmp.Lexicographic.{pointwise}
use Rattle.std.proofs.lemmas.Bool.{and_parts, eqb-true, ltb-true}
use Rattle.std.proofs.lemmas.List.{append_assoc}
use Rattle.std.proofs.lemmas.List.Concat.{flat_map-append, flat_map-cons}
use Rattle.block_ciphers.proofs.AllBytes.{all_below, all_below_at}
use Rattle.krb_messages.specs.NameReading.{is_ascii, unquoted}
use Rattle.krb_messages.specs.NameText.{component_text, escaped}
use Rattle.krb_log.specs.NameText.{shown_component, shown_octet, shown_text}

-- a reader of what is shown: between characters, after a backslash, after `\x`, or after one of its digits
data State : Type 0 where
  Plain : State
  Slash : State
  High : State
  Low : ℕ → State

abbrev hex : ℕ → ℕ
hex glyph = if nat_lt glyph 97 then glyph - 48 else glyph - 87

-- the next state, and the character that is read by then
abbrev step : State → ℕ → State × List ℕ
step Plain o = if o == 92 then (Slash, []) else (Plain, o ∷ [])
step Slash o = if o == 120 then (High, []) else (Plain, unquoted o ∷ [])
step High o = (Low o, [])
step (Low high) o = (Plain, (16 * hex high + hex o) ∷ [])

abbrev read : State → List ℕ → List ℕ
read s [] = []
read s (o ∷ text) = (step s o).1 ++ read (step s o).0 text

abbrev left : State → List ℕ → State
left s [] = s
left s (o ∷ text) = left (step s o).0 text

read-append : (s : State) (xs ys : List ℕ) → read s (xs ++ ys) ≡ read s xs ++ read (left s xs) ys
read-append s [] ys = refl
read-append s (x ∷ xs) ys =
    ap (λ (more : List ℕ). (step s x).1 ++ more) (read-append (step s x).0 xs ys)
    ∙ sym (append_assoc (step s x).1 (read (step s x).0 xs) (read (left (step s x).0 xs) ys))

abbrev is_plain : State → Bool
is_plain Plain = true
is_plain Slash = false
is_plain High = false
is_plain (Low high) = false

plain : (s : State) → is_plain s ≡ true → s ≡ Plain
plain Plain e = refl
plain Slash e = cc
plain High e = cc
plain (Low high) e = cc

same_list : (a b : List ℕ) → pointwise nat_eq a b ≡ true → a ≡ b
same_list [] [] e = refl
same_list [] (y ∷ b) e = cc
same_list (x ∷ a) [] e = cc
same_list (x ∷ a) (y ∷ b) e =
    let parts = and_parts (nat_eq x y) (pointwise nat_eq a b) e in
    ap (λ head. head ∷ a) (eqb-true x y parts.0) ∙ ap (λ (rest : List ℕ). y ∷ rest) (same_list a b parts.1)

-- each character is read, and the reader is between characters then
abbrev shown : ℕ → List ℕ
shown c = shown_text (escaped c)

abbrev is_read : ℕ → Bool
is_read c = pointwise nat_eq (read Plain (shown c)) (c ∷ []) && is_plain (left Plain (shown c))

all_read : all_below is_read 128 ≡ true
unfolding all_below encode_utf8 digits
all_read = refl

read-shown : (c : ℕ) (rest : List ℕ) → c < 128 → read Plain (shown c ++ rest) ≡ c ∷ read Plain rest
read-shown c rest below =
    let parts = and_parts (pointwise nat_eq (read Plain (shown c)) (c ∷ [])) (is_plain (left Plain (shown c))) (all_below_at is_read 128 c all_read below) in
    read-append Plain (shown c) rest
    ∙ ap (λ (front : List ℕ). front ++ read (left Plain (shown c)) rest) (same_list (read Plain (shown c)) (c ∷ []) parts.0)
    ∙ ap (λ s. c ∷ read s rest) (plain (left Plain (shown c)) parts.1)

shown-cons : (c : ℕ) (text : List ℕ) → shown_component (c ∷ text) ≡ shown c ++ shown_component text
shown-cons c text = ap shown_text (flat_map-cons escaped c text) ∙ flat_map-append shown_octet (escaped c) (component_text text)

read-component : (text : List ℕ) → IsTrue (is_ascii text) → read Plain (shown_component text) ≡ text
read-component [] ascii = refl
read-component (c ∷ text) ascii =
    let parts = and_parts _ (is_ascii text) ascii in
    ap (read Plain) (shown-cons c text) ∙ read-shown c (shown_component text) (ltb-true c 128 parts.0)
    ∙ ap (λ (rest : List ℕ). c ∷ rest) (read-component text parts.1)

pub component_is_read : (one other : List ℕ) → IsTrue (is_ascii one) → IsTrue (is_ascii other) → shown_component one ≡ shown_component other → one ≡ other
component_is_read one other a b same = sym (read-component one a) ∙ ap (read Plain) same ∙ read-component other b
