-- A vector obeys the laws where its elements do.
use Rattle.std.proofs.Common.{◌≡◌, ℕ, zero, suc, ◌+◌, ◌*◌, ◌^◌, ◌≤◌, ◌<◌, Bool, false, List, [], ◌∷◌, ◌++◌, length, drop, Ok, refl, ap, sym, subst, ◌∙◌, append_assoc, arith}
use Rattle.std.specs.Prelude.{nat_lt, ◌&&◌}
use Rattle.std.proofs.Math.Nat.{suc-mul}
use Rattle.std.proofs.lemmas.Bool.{le-ltb, lt-ltb, ltb-false}
use Rattle.std.proofs.lemmas.List.{length-append, length-take, length-drop}
use Rattle.std.specs.declared.io.ErrorKind.TheVariants.{UnexpectedEof, InvalidData}
use Rattle.byte_streams.specs.Parts.{part, Stands}
use Rattle.byte_streams.specs.Numbers.{le32, le32_at}
use Rattle.byte_streams.proofs.NumberLaws.{AreBytes, bytes-cut, length-le32, le32-again, le32-read}
use Rattle.negoex_messages.specs.Form.{Layout, Answer, IsWithin, cut, then_read}
use Rattle.negoex_messages.specs.Laws.{LayoutLaws}
use Rattle.negoex_messages.specs.Vectors.{AreElements, IsVector, AllFit, VectorFits, elements_at, begins_past, vector_read, payloads, heads, bodies, offset_of, behind_heads, vector_layout}
use Rattle.negoex_messages.specs.Steps.{then-ok, if-ok, if-fine, ok-same, length-cut, cut-behind, cut-last}

elements-found : {V : Type 0} (l : Layout V) → LayoutLaws l → (n place : ℕ) (xs : List V) (whole : List ℕ) → AreBytes whole
    → elements_at l n place whole ≡ Ok xs → (length xs ≡ n) × AreElements l place xs whole
elements-found l laws zero place [] whole bytes e = (refl, tt)
elements-found l laws zero place (x ∷ xs) whole bytes e = cc
elements-found {V} l laws (suc n) place xs whole bytes e =
    let first = then-ok (l.read (cut place l.width whole) whole) _ xs e in
    let more = then-ok (elements_at l n (place + l.width) whole) _ xs first.2 in
    let stands = laws.found first.0 (cut place l.width whole) whole (bytes-cut whole place l.width bytes) bytes (length-cut place l.width whole) first.1 in
    let rest = elements-found l laws n (place + l.width) more.0 whole bytes more.1 in
    subst (λ (ys : List V). (length ys ≡ suc n) × AreElements l place ys whole) (ok-same (Ok (first.0 ∷ more.0)) (first.0 ∷ more.0) xs refl more.2)
    (ap suc rest.0, (stands, rest.1))

vector-found : {V : Type 0} (l : Layout V) → LayoutLaws l → (xs : List V) (header whole : List ℕ) → AreBytes header → AreBytes whole → length header ≤ 8
    → vector_read l header whole ≡ Ok xs → IsVector l xs header whole
vector-found l laws xs header whole header_bytes bytes few e =
    let long = if-ok (nat_lt (length header) 8) UnexpectedEof _ xs e in
    let near = if-ok (begins_past header whole) InvalidData _ xs long.1 in
    let size : length header ≡ 8 = omega (arith, ltb-false (length header) 8 long.0) in
    let found = elements-found l laws (le32_at 4 header) (le32_at 0 header) xs whole bytes near.1 in
    record {
      size = size;
      count = subst (λ (n : ℕ). Stands (part 4 (le32 n)) header) (sym found.0) (le32-read 4 header header_bytes (omega arith));
      elements = found.1;
    }

elements-given : {V : Type 0} (l : Layout V) → LayoutLaws l → (xs : List V) (place : ℕ) (whole : List ℕ) → AllFit l xs
    → AreElements l place xs whole → elements_at l (length xs) place whole ≡ Ok xs
elements-given l laws [] place whole fit are = refl
elements-given {V} l laws (x ∷ xs) place whole fit are =
    let first = laws.given x (cut place l.width whole) whole fit.0 are.0 in
    let more = elements-given l laws xs (place + l.width) whole fit.1 are.1 in
    ap (λ (r : Answer V). then_read r (λ y. then_read (elements_at l (length xs) (place + l.width) whole) (λ ys. Ok (y ∷ ys)))) first
    ∙ ap (λ (r : Answer (List V)). then_read r (λ ys. Ok (x ∷ ys))) more

-- elements that are there begin in the message
elements-begin : {V : Type 0} (l : Layout V) → LayoutLaws l → (xs : List V) (n o : ℕ) (whole : List ℕ) → n ≡ length xs
    → AreElements l o xs whole → (nat_lt 0 n && nat_lt (length whole) o) ≡ false
elements-begin l laws [] n o whole e are = ap (λ (k : ℕ). nat_lt 0 k && nat_lt (length whole) o) e
elements-begin l laws (x ∷ xs) n o whole e are =
    let full = laws.full x (cut o l.width whole) whole are.0 in
    let some = laws.some in
    let inside : o ≤ length whole = omega (arith, length-take l.width (drop o whole), length-drop o whole) in
    ap (λ (k : ℕ). nat_lt 0 k && nat_lt (length whole) o) e
    ∙ ap (λ (b : Bool). b && nat_lt (length whole) o) (lt-ltb 0 (suc (length xs)) (omega arith)) ∙ le-ltb (length whole) o inside

vector-given : {V : Type 0} (l : Layout V) → LayoutLaws l → (xs : List V) (header whole : List ℕ) → VectorFits l xs
    → IsVector l xs header whole → vector_read l header whole ≡ Ok xs
vector-given {V} l laws xs header whole fits is =
    let count : le32_at 4 header ≡ length xs = le32-again 4 (length xs) header fits.0 is.count in
    let size = is.size in
    if-fine (nat_lt (length header) 8) _ _ (le-ltb (length header) 8 (omega arith))
    ∙ if-fine (begins_past header whole) _ _ (elements-begin l laws xs (le32_at 4 header) (le32_at 0 header) whole count is.elements)
    ∙ ap (λ (n : ℕ). elements_at l n (le32_at 0 header) whole) count
    ∙ elements-given l laws xs (le32_at 0 header) whole fits.1 is.elements

pub heads-size : {V : Type 0} (l : Layout V) → LayoutLaws l → (place : ℕ) (xs : List V) → length (heads l place xs) ≡ length xs * l.width
heads-size l laws place [] = omega arith
heads-size l laws place (x ∷ xs) =
    let more = heads-size l laws (place + l.payload x) xs in
    omega (arith, laws.head_size x place, length-append (l.head x place) (heads l (place + l.payload x) xs), suc-mul (length xs) l.width)

pub bodies-size : {V : Type 0} (l : Layout V) → LayoutLaws l → (place : ℕ) (xs : List V) → length (bodies l place xs) ≡ payloads l xs
bodies-size l laws place [] = refl
bodies-size l laws place (x ∷ xs) =
    let more = bodies-size l laws (place + l.payload x) xs in
    omega (arith, laws.body_size x place, length-append (l.body x place) (bodies l (place + l.payload x) xs))

vector-head_size : {V : Type 0} (xs : List V) (o : ℕ) → length (le32 (offset_of xs o) ++ le32 (length xs)) ≡ 8
vector-head_size xs o =
    omega (arith, length-append (le32 (offset_of xs o)) (le32 (length xs)), length-le32 (offset_of xs o), length-le32 (length xs))

-- the elements stand where their headers and payloads are written, whatever stands between the two
elements-written : {V : Type 0} (l : Layout V) → LayoutLaws l → (xs : List V) (place p : ℕ) (front mid rest : List ℕ) → length front ≡ place
    → place + length xs * l.width + length mid ≡ p → p + payloads l xs < 2 ^ 32
    → AreElements l place xs (front ++ (heads l p xs ++ (mid ++ (bodies l p xs ++ rest))))
elements-written l laws [] place p front mid rest at behind within = tt
elements-written l laws (x ∷ xs) place p front mid rest at behind within =
    let next = p + l.payload x in
    let hx = l.head x p in
    let bx = l.body x p in
    let hs = heads l next xs in
    let bs = bodies l next xs in
    let whole = front ++ ((hx ++ hs) ++ (mid ++ ((bx ++ bs) ++ rest))) in
    let hx_size = laws.head_size x p in
    let bx_size = laws.body_size x p in
    let hs_size = heads-size l laws next xs in
    let times = suc-mul (length xs) l.width in
    let apart : whole ≡ front ++ (hx ++ (hs ++ (mid ++ ((bx ++ bs) ++ rest)))) = ap (λ (m : List ℕ). front ++ m) (append_assoc hx hs _) in
    let header : cut place l.width whole ≡ hx = ap (cut place l.width) apart ∙ cut-behind place l.width front hx _ at hx_size in
    let before = front ++ (hx ++ (hs ++ mid)) in
    let before_size : length before ≡ p = omega (arith, length-append front (hx ++ (hs ++ mid)), length-append hx (hs ++ mid), length-append hs mid) in
    let one : before ++ (bx ++ (bs ++ rest)) ≡ whole = grind (arith, append_assoc) in
    let two : (front ++ hx) ++ (hs ++ ((mid ++ bx) ++ (bs ++ rest))) ≡ whole = grind (arith, append_assoc) in (
      subst (λ (h : List ℕ). l.IsLaid x h whole) (sym header)
          (subst (l.IsLaid x hx) one (laws.written x p before (bs ++ rest) before_size (λ _. omega arith))),
      subst (AreElements l (place + l.width) xs) two
          (elements-written l laws xs (place + l.width) next (front ++ hx) (mid ++ bx) rest
          (omega (arith, length-append front hx)) (omega (arith, length-append mid bx)) (omega arith)),
    )

vector-written : {V : Type 0} (l : Layout V) → LayoutLaws l → (xs : List V) (o : ℕ) (front rest : List ℕ) → length front ≡ o
    → IsWithin o (length xs * l.width + payloads l xs)
    → AreElements l (le32_at 0 (le32 (offset_of xs o) ++ le32 (length xs))) xs
    (front ++ ((heads l (behind_heads l xs o) xs ++ bodies l (behind_heads l xs o) xs) ++ rest))
vector-written l laws [] o front rest at within = tt
vector-written {V} l laws (x ∷ xs) o front rest at within =
    let ys = x ∷ xs in
    let p = behind_heads l ys o in
    let some = laws.some in
    let near : o + (length ys * l.width + payloads l ys) < 2 ^ 32 = within (omega (arith, suc-mul (length xs) l.width)) in
    let there : le32_at 0 (le32 o ++ le32 (length ys)) ≡ o =
    le32-again 0 o (le32 o ++ le32 (length ys)) (omega arith) (cut-behind 0 (length (le32 o)) [] (le32 o) (le32 (length ys)) refl refl) in
    let same : front ++ (heads l p ys ++ ([] ++ (bodies l p ys ++ rest))) ≡ front ++ ((heads l p ys ++ bodies l p ys) ++ rest) = grind (arith, append_assoc) in
    subst (λ (place : ℕ). AreElements l place ys (front ++ ((heads l p ys ++ bodies l p ys) ++ rest))) (sym there)
    (subst (AreElements l o ys) same (elements-written l laws ys o p front [] rest at (omega arith) (omega arith)))

pub vector_laws : {V : Type 0} (l : Layout V) → LayoutLaws l → LayoutLaws (vector_layout l)
vector_laws l laws = record {
  some = omega arith;
  found = vector-found l laws;
  full = λ xs header whole is. is.size;
  given = vector-given l laws;
  head_size = vector-head_size;
  body_size = λ xs o. omega (
    arith,
    length-append (heads l (behind_heads l xs o) xs) (bodies l (behind_heads l xs o) xs),
    heads-size l laws (behind_heads l xs o) xs,
    bodies-size l laws (behind_heads l xs o) xs,
  );
  written = λ xs o front rest at within. record {
    size = vector-head_size xs o;
    count = cut-last 4 (length (le32 (length xs))) (le32 (offset_of xs o)) (le32 (length xs)) (length-le32 (offset_of xs o)) refl;
    elements = vector-written l laws xs o front rest at within;
  };
}
