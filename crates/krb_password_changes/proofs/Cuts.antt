-- Frames as octets one behind the other.
use Rattle.std.proofs.Common.{◌≡◌, ℕ, ◌+◌, ◌≤◌, ◌<◌, ◌^◌, List, [], ◌++◌, length, take, drop, refl, ap, sym, ◌∙◌, append_assoc, arith}
use Rattle.std.proofs.lemmas.List.{length-append, length-drop, length-take-le, take-append-drop, drop-drop, take_at, drop_at}
use Rattle.byte_streams.specs.Parts.{part, Stands}
use Rattle.byte_streams.specs.Numbers.{be16, be16_at}
use Rattle.byte_streams.proofs.NumberLaws.{length-be16, be16-again}
use Rattle.krb_password_changes.specs.Frames.{frame_octets}
use Rattle.krb_password_changes.specs.Results.{result_octets}

-- what stands at a place is followed by what is behind it
behind : (place size next : ℕ) (bytes whole : List ℕ) → length bytes ≡ size → place + size ≡ next → Stands (part place bytes) whole → drop place whole ≡ bytes ++ drop next whole
behind place size next bytes whole is_size is_next stands =
    sym (take-append-drop (length bytes) (drop place whole))
    ∙ ap (λ (l : List ℕ). l ++ drop (length bytes) (drop place whole)) stands
    ∙ ap (λ (l : List ℕ). bytes ++ l) (drop-drop (length bytes) place whole ∙ ap (λ (n : ℕ). drop n whole) (ap (λ (n : ℕ). place + n) is_size ∙ is_next))

-- the numbers that stand, and the parts that are cut, make the frame
pub frame-read : (message front back : List ℕ) (version count : ℕ) → Stands (part 0 (be16 (length message))) message → Stands (part 2 (be16 version)) message
    → Stands (part 4 (be16 count)) message → 6 + count ≤ length message → front ≡ take count (drop 6 message) → back ≡ drop count (drop 6 message)
    → message ≡ frame_octets version front back
frame-read message front back version count sized versioned counted inside is_front is_back =
    let first : message ≡ be16 (length message) ++ drop 2 message = behind 0 2 2 (be16 (length message)) message (length-be16 (length message)) refl sized in
    let second : drop 2 message ≡ be16 version ++ drop 4 message = behind 2 2 4 (be16 version) message (length-be16 version) refl versioned in
    let third : drop 4 message ≡ be16 count ++ drop 6 message = behind 4 2 6 (be16 count) message (length-be16 count) refl counted in
    let parts : drop 6 message ≡ front ++ back =
    sym (take-append-drop count (drop 6 message)) ∙ ap (λ (l : List ℕ). l ++ drop count (drop 6 message)) (sym is_front) ∙ ap (λ (l : List ℕ). front ++ l) (sym is_back) in
    let room : count ≤ length (drop 6 message) = omega (arith, length-drop 6 message) in
    let front_size : length front ≡ count = ap (λ (l : List ℕ). length l) is_front ∙ length-take-le count (drop 6 message) room in
    let back_size : length back ≡ length (drop count (drop 6 message)) = ap (λ (l : List ℕ). length l) is_back in
    let size : length message ≡ 6 + length front + length back = omega (arith, length-drop count (drop 6 message), length-drop 6 message) in
    first ∙ ap (λ (l : List ℕ). be16 (length message) ++ l) (second ∙ ap (λ (l : List ℕ). be16 version ++ l) (third ∙ ap (λ (l : List ℕ). be16 count ++ l) parts))
    ∙ ap (λ (n : ℕ). be16 n ++ (be16 version ++ (be16 count ++ (front ++ back)))) size
    ∙ ap (λ (n : ℕ). be16 (6 + length front + length back) ++ (be16 version ++ (be16 n ++ (front ++ back)))) (sym front_size)

-- a number at the front is read
front-read : (n : ℕ) (rest whole : List ℕ) → whole ≡ be16 n ++ rest → n < 2 ^ 16 → be16_at 0 whole ≡ n
front-read n rest whole is fits =
    be16-again 0 n whole fits (ap (take (length (be16 n))) is ∙ take_at (be16 n) rest (length (be16 n)) refl)

-- a number at a place is read
place-read : (place n : ℕ) (rest whole : List ℕ) → drop place whole ≡ be16 n ++ rest → n < 2 ^ 16 → be16_at place whole ≡ n
place-read place n rest whole is fits =
    be16-again place n whole fits (ap (take (length (be16 n))) is ∙ take_at (be16 n) rest (length (be16 n)) refl)

-- what follows a number
next-place : (place next n : ℕ) (rest whole : List ℕ) → place + 2 ≡ next → drop place whole ≡ be16 n ++ rest → drop next whole ≡ rest
next-place place next n rest whole is_next is =
    sym (drop-drop 2 place whole ∙ ap (λ (k : ℕ). drop k whole) is_next) ∙ ap (drop 2) is ∙ drop_at (be16 n) rest 2 (length-be16 n)

-- the numbers and the parts of a frame, where they are
pub record HasParts (version : ℕ) (front back message : List ℕ) : Type 0 where
  pub size : be16_at 0 message ≡ length message
  pub number : be16_at 2 message ≡ version
  pub count : be16_at 4 message ≡ length front
  pub inside : 6 + be16_at 4 message ≤ length message
  pub front_is : take (be16_at 4 message) (drop 6 message) ≡ front
  pub back_is : drop (be16_at 4 message) (drop 6 message) ≡ back

frame-size : (total version count : ℕ) (front back : List ℕ) → length (be16 total ++ (be16 version ++ (be16 count ++ (front ++ back)))) ≡ 6 + length front + length back
frame-size total version count front back =
    omega (
      arith,
      length-append (be16 total) (be16 version ++ (be16 count ++ (front ++ back))),
      length-append (be16 version) (be16 count ++ (front ++ back)),
      length-append (be16 count) (front ++ back),
      length-append front back,
      length-be16 total,
      length-be16 version,
      length-be16 count,
    )

pub frame-parts : (version : ℕ) (front back message : List ℕ) → version < 2 ^ 16 → message ≡ frame_octets version front back → length message < 2 ^ 16
    → HasParts version front back message
frame-parts version front back message small is fits =
    let total = 6 + length front + length back in
    let size : length message ≡ 6 + length front + length back = ap (λ (l : List ℕ). length l) is ∙ frame-size total version (length front) front back in
    let d2 : drop 2 message ≡ be16 version ++ (be16 (length front) ++ (front ++ back)) = next-place 0 2 total (be16 version ++ (be16 (length front) ++ (front ++ back))) message refl is in
    let d4 : drop 4 message ≡ be16 (length front) ++ (front ++ back) = next-place 2 4 version (be16 (length front) ++ (front ++ back)) message refl d2 in
    let d6 : drop 6 message ≡ front ++ back = next-place 4 6 (length front) (front ++ back) message refl d4 in
    let count : be16_at 4 message ≡ length front = place-read 4 (length front) (front ++ back) message d4 (omega (arith, size, fits)) in
    record {
      size = front-read total (be16 version ++ (be16 (length front) ++ (front ++ back))) message is (omega (arith, size, fits)) ∙ sym size;
      number = place-read 2 version (be16 (length front) ++ (front ++ back)) message d2 small;
      count = count;
      inside = omega (arith, size, count);
      front_is = ap (λ (k : ℕ). take k (drop 6 message)) count ∙ ap (take (length front)) d6 ∙ take_at front back (length front) refl;
      back_is = ap (λ (k : ℕ). drop k (drop 6 message)) count ∙ ap (drop (length front)) d6 ∙ drop_at front back (length front) refl;
    }

-- the octets that a reply carries are those of one number and one text
pub result-one : (n m : ℕ) (text other : List ℕ) → n < 2 ^ 16 → m < 2 ^ 16 → result_octets n text ≡ result_octets m other → (n ≡ m) × (text ≡ other)
result-one n m text other n_fits m_fits same = (
  sym (front-read n text (result_octets n text) refl n_fits) ∙ front-read m other (result_octets n text) same m_fits,
  sym (drop_at (be16 n) text 2 (length-be16 n)) ∙ ap (drop 2) same ∙ drop_at (be16 m) other 2 (length-be16 m),
)

-- a number that stands at the front, and what is behind it
pub result-read : (n : ℕ) (octets text : List ℕ) → Stands (part 0 (be16 n)) octets → text ≡ drop 2 octets → octets ≡ result_octets n text
result-read n octets text stands is =
    behind 0 2 2 (be16 n) octets (length-be16 n) refl stands ∙ ap (λ (l : List ℕ). be16 n ++ l) (sym is)

-- five parts, put one behind the other behind nothing
pub five-put : (old h1 h2 h3 h4 h5 b1 b2 b3 b4 b5 c1 c2 c3 : List ℕ) → old ≡ [] → h1 ≡ old ++ b1 → h2 ≡ h1 ++ b2 → h3 ≡ h2 ++ b3 → h4 ≡ h3 ++ b4 → h5 ≡ h4 ++ b5
    → b1 ≡ c1 → b2 ≡ c2 → b3 ≡ c3 → h5 ≡ c1 ++ (c2 ++ (c3 ++ (b4 ++ b5)))
five-put old h1 h2 h3 h4 h5 b1 b2 b3 b4 b5 c1 c2 c3 p0 p1 p2 p3 p4 p5 e1 e2 e3 =
    p5 ∙ ap (λ (l : List ℕ). l ++ b5) p4 ∙ append_assoc h3 b4 b5
    ∙ ap (λ (l : List ℕ). l ++ (b4 ++ b5)) (p3 ∙ ap (λ (l : List ℕ). h2 ++ l) e3) ∙ append_assoc h2 c3 (b4 ++ b5)
    ∙ ap (λ (l : List ℕ). l ++ (c3 ++ (b4 ++ b5))) (p2 ∙ ap (λ (l : List ℕ). h1 ++ l) e2) ∙ append_assoc h1 c2 (c3 ++ (b4 ++ b5))
    ∙ ap (λ (l : List ℕ). l ++ (c2 ++ (c3 ++ (b4 ++ b5)))) (p1 ∙ ap (λ (l : List ℕ). l ++ b1) p0 ∙ e1)

-- what has the true lengths is the frame
pub frame-made : (total count version : ℕ) (front back made : List ℕ) → total ≡ 6 + length front + length back → count ≡ length front
    → made ≡ be16 total ++ (be16 version ++ (be16 count ++ (front ++ back)))
    → (made ≡ frame_octets version front back) × (length made ≡ 6 + length front + length back)
frame-made total count version front back made is_total is_count is = (
  is ∙ ap (λ (n : ℕ). be16 n ++ (be16 version ++ (be16 count ++ (front ++ back)))) is_total
      ∙ ap (λ (n : ℕ). be16 (6 + length front + length back) ++ (be16 version ++ (be16 n ++ (front ++ back)))) is_count,
  ap (λ (l : List ℕ). length l) is ∙ frame-size total version count front back,
)
