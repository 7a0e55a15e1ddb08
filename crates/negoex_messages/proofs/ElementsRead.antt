-- Reading the elements of a vector, one after the other.
use Rattle.std.proofs.Common.{◌≡◌, ℕ, zero, suc, ◌+◌, ◌-◌, ◌≤◌, ◌<◌, List, [], ◌∷◌, ◌++◌, length, drop, map, Ok, Err, refl, ap, sym, ◌∙◌, append_assoc, append-nil, inl, inr, arith}
use Rattle.std.specs.Prelude.{◌⊎◌}
use Rattle.std.proofs.lemmas.List.{map-append, length-take, length-drop}
use Rattle.std.specs.declared.io.ErrorKind.{ErrorKind}
use Rattle.std.specs.declared.io.ErrorKind.TheVariants.{OutOfMemory}
use Rattle.byte_streams.proofs.NumberLaws.{AreBytes, bytes-cut}
use Rattle.negoex_messages.specs.Form.{Layout, Answer, cut, then_read}
use Rattle.negoex_messages.specs.Laws.{LayoutLaws}
use Rattle.negoex_messages.specs.Vectors.{elements_at}
use Rattle.negoex_messages.specs.Steps.{length-cut}

-- with these elements in front, what is left to be read gives all
abbrev pub IsSoFar : {V : Type 0} → Layout V → List ℕ → ℕ → ℕ → List V → ℕ → ℕ → Type 0
IsSoFar l whole count offset xs left place =
    then_read (elements_at l left place whole) (λ ys. Ok (xs ++ ys)) ≡ elements_at l count offset whole

pub none-read : {V : Type 0} (l : Layout V) (whole : List ℕ) (count offset : ℕ) (xs : List V) → xs ≡ [] → IsSoFar l whole count offset xs count offset
none-read {V} l whole count offset xs e =
    ap (λ (zs : List V). then_read (elements_at l count offset whole) (λ ys. Ok (zs ++ ys))) e ∙ all (elements_at l count offset whole)
  where
    all : (r : Answer (List V)) → then_read r (λ ys. Ok ([] ++ ys)) ≡ r
    all (Ok ys) = refl
    all (Err e) = refl

pub one-read : {V : Type 0} (l : Layout V) (whole : List ℕ) (count offset n left next place behind : ℕ) (x : V) (xs more : List V) → 0 < left → next ≡ left - 1
    → behind ≡ place + l.width → more ≡ xs ++ x ∷ [] → l.read (cut place l.width whole) whole ≡ Ok x
    → IsSoFar l whole count offset xs left place → IsSoFar l whole count offset more next behind
one-read l whole count offset n zero next place behind x xs more some one at longer read so_far = absurd (omega arith)
one-read {V} l whole count offset n (suc left) next place behind x xs more some one at longer read so_far =
    let same : next ≡ left = omega arith in
    ap (λ (k : ℕ). then_read (elements_at l k behind whole) (λ ys. Ok (more ++ ys))) same
    ∙ ap (λ (p : ℕ). then_read (elements_at l left p whole) (λ ys. Ok (more ++ ys))) at
    ∙ ap (λ (zs : List V). then_read (elements_at l left (place + l.width) whole) (λ ys. Ok (zs ++ ys))) longer
    ∙ sym (join (elements_at l left (place + l.width) whole))
    ∙ ap (λ (r : Answer V). then_read (then_read r (λ y. then_read (elements_at l left (place + l.width) whole) (λ ys. Ok (y ∷ ys)))) (λ ys. Ok (xs ++ ys))) (sym read)
    ∙ so_far
  where
    join : (r : Answer (List V)) → then_read (then_read r (λ ys. Ok (x ∷ ys))) (λ ys. Ok (xs ++ ys)) ≡ then_read r (λ ys. Ok ((xs ++ x ∷ []) ++ ys))
    join (Ok ys) = ap Ok (sym (append_assoc xs (x ∷ []) ys))
    join (Err e) = refl

pub wrong-read : {V : Type 0} (l : Layout V) (whole : List ℕ) (count offset left place : ℕ) (xs : List V) (e : ErrorKind) → 0 < left
    → IsSoFar l whole count offset xs left place → (e ≡ OutOfMemory) ⊎ (l.read (cut place l.width whole) whole ≡ Err e)
    → (e ≡ OutOfMemory) ⊎ (elements_at l count offset whole ≡ Err e)
wrong-read l whole count offset left place xs e some so_far (inl memory) = inl memory
wrong-read l whole count offset zero place xs e some so_far (inr wrong) = absurd (omega arith)
wrong-read {V} l whole count offset (suc left) place xs e some so_far (inr wrong) =
    inr (sym so_far ∙ ap (λ (r : Answer V). then_read (then_read r (λ y. then_read (elements_at l left (place + l.width) whole) (λ ys. Ok (y ∷ ys)))) (λ ys. Ok (xs ++ ys))) wrong)

pub all-read : {V : Type 0} (l : Layout V) (whole : List ℕ) (count offset left place : ℕ) (xs : List V) → left ≡ 0
    → IsSoFar l whole count offset xs left place → elements_at l count offset whole ≡ Ok xs
all-read {V} l whole count offset left place xs ended so_far =
    sym so_far ∙ ap (λ (k : ℕ). then_read (elements_at l k place whole) (λ ys. Ok (xs ++ ys))) ended ∙ ap Ok (append-nil xs)

-- an element that was read ends in the message
pub read-inside : {V : Type 0} (l : Layout V) → LayoutLaws l → (x : V) (whole : List ℕ) (place : ℕ) → AreBytes whole
    → l.read (cut place l.width whole) whole ≡ Ok x → place + l.width ≤ length whole
read-inside l laws x whole place bytes read =
    let full = laws.full x _ whole (laws.found x (cut place l.width whole) whole (bytes-cut whole place l.width bytes) bytes (length-cut place l.width whole) read) in
    let some = laws.some in
    omega (arith, length-take l.width (drop place whole), length-drop place whole)

pub map-push : {A B : Type 0} (f : A → B) (xs more : List A) (x : A) → more ≡ xs ++ x ∷ [] → map f more ≡ map f xs ++ f x ∷ []
map-push f xs more x e = ap (map f) e ∙ map-append f xs (x ∷ [])

-- the header that was cut out is the element's
pub read-there : {V : Type 0} (l : Layout V) (whole header : List ℕ) (place size : ℕ) (r : Answer V) → header ≡ cut place size whole → size ≡ l.width
    → l.read header whole ≡ r → l.read (cut place l.width whole) whole ≡ r
read-there l whole header place size r e f read =
    ap (λ (n : ℕ). l.read (cut place n whole) whole) (sym f) ∙ ap (λ (h : List ℕ). l.read h whole) (sym e) ∙ read

-- the same of a fault
pub wrong-there : {V : Type 0} (l : Layout V) (whole header : List ℕ) (place size : ℕ) (e : ErrorKind) → header ≡ cut place size whole → size ≡ l.width
    → (e ≡ OutOfMemory) ⊎ (l.read header whole ≡ Err e) → (e ≡ OutOfMemory) ⊎ (l.read (cut place l.width whole) whole ≡ Err e)
wrong-there l whole header place size e f g (inl memory) = inl memory
wrong-there l whole header place size e f g (inr wrong) = inr (read-there l whole header place size (Err e) f g wrong)

-- so many elements from a place on, of a byte at least each, end at another, which is inside the message where there are any
abbrev pub AreInside : ℕ → ℕ → ℕ → ℕ → Type 0
AreInside n offset place size = (n + offset ≤ place) × (0 < n → place ≤ size)

pub more-inside : (n more offset place behind width size : ℕ) → more ≡ n + 1 → behind ≡ place + width → 0 < width → place + width ≤ size
    → AreInside n offset place size → AreInside more offset behind size
more-inside n more offset place behind width size one at some inside (before, there) = (omega arith, λ any. omega arith)

pub few-inside : (n offset place size : ℕ) → AreInside n offset place size → n ≤ size
few-inside zero offset place size are = omega arith
few-inside (suc n) offset place size (before, there) = let inside = there (omega arith) in omega arith
