-- What stands before a filler and a header that end a text.
use Rattle.std.proofs.Common.{◌≡◌, ℕ, ◌+◌, ◌-◌, ◌≤◌, List, ◌++◌, length, take, drop, Bool, true, false, not, bytes_eq, append_assoc, refl, ap, sym, ◌∙◌, arith}
use Rattle.std.proofs.lemmas.Bool.{false≢true}
use Rattle.std.proofs.lemmas.List.{take_at, take_all, drop_at, drop-drop, length-append, length-drop, length-take, take-append-drop}
use Rattle.std.proofs.lemmas.Slice.Eq.{bytes_eq-Decides}

-- what `!=` says
pub ne-true : (b : Bool) → not b ≡ true → b ≡ false
ne-true true e = absurd (false≢true e)
ne-true false e = refl

pub ne-false : (b : Bool) → not b ≡ false → b ≡ true
ne-false true e = refl
ne-false false e = absurd (false≢true (sym e))

-- two texts with ends of one length
pub same_front : (a b c d : List ℕ) → a ++ b ≡ c ++ d → length b ≡ length d → a ≡ c
same_front a b c d is size =
    let front : length c ≡ length a = omega (arith, ap length is, length-append a b, length-append c d) in
    sym (take_at a b (length a) refl) ∙ ap (take (length a)) is ∙ take_at c d (length a) front

pub same_back : (a b c d : List ℕ) → a ++ b ≡ c ++ d → length b ≡ length d → b ≡ d
same_back a b c d is size =
    let front : length c ≡ length a = omega (arith, ap length is, length-append a b, length-append c d) in
    sym (drop_at a b (length a) refl) ∙ ap (drop (length a)) is ∙ drop_at c d (length a) front

-- the last 16 octets, as they are compared
abbrev last_of : List ℕ → List ℕ
last_of text = take (length text - (length text - 16)) (drop (length text - 16) text)

last_is : (text : List ℕ) → last_of text ≡ drop (length text - 16) text
last_is text = take_all (length text - (length text - 16)) (drop (length text - 16) text) (omega (arith, length-drop (length text - 16) text))

pub not_ended : (text header m f : List ℕ) → length header ≡ 16 → text ≡ m ++ (f ++ header) → bytes_eq (last_of text) header ≡ false → ⊥
not_ended text header m f size is differs =
    let front : length (m ++ f) ≡ length text - 16 =
    omega (arith, ap length is, length-append m (f ++ header), length-append f header, length-append m f) in
    let end : drop (length text - 16) text ≡ header =
    ap (drop (length text - 16)) (is ∙ sym (append_assoc m f header)) ∙ drop_at (m ++ f) header (length text - 16) front in
    false≢true (sym differs ∙ (bytes_eq-Decides (last_of text) header).1 (last_is text ∙ end))

pub ended : (text header : List ℕ) (ec : ℕ) → ec + 16 ≤ length text → bytes_eq (last_of text) header ≡ true
    → (f : List ℕ) × (length f ≡ ec) × (text ≡ take (length text - (ec + 16)) text ++ (f ++ header))
ended text header ec long same =
    let n = length text - (ec + 16) in
    let f = take ec (drop n text) in
    let end : drop (length text - 16) text ≡ header = sym (last_is text) ∙ (bytes_eq-Decides (last_of text) header).0 same in
    let place : n + ec ≡ length text - 16 = omega arith in
    let rest : drop n text ≡ f ++ header =
    sym (take-append-drop ec (drop n text)) ∙ ap (λ (l : List ℕ). f ++ l) (drop-drop ec n text ∙ ap (λ k. drop k text) place ∙ end) in
    (f, omega (arith, length-take ec (drop n text), length-drop n text), sym (take-append-drop n text) ∙ ap (λ (l : List ℕ). take n text ++ l) rest)
