-- Putting the elements of a vector, one after the other.
use Rattle.std.proofs.Common.{◌≡◌, ℕ, zero, suc, ◌+◌, ◌*◌, ◌^◌, ◌≤◌, ◌<◌, List, [], ◌∷◌, ◌++◌, length, map, drop, get_or, ap, sym, ◌∙◌, append_assoc, append-nil, inl, inr, arith}
use Rattle.std.proofs.Math.Nat.{mul-suc}
use Rattle.std.proofs.lemmas.List.{length-append, drop_more, drop_all}
use Rattle.negoex_messages.specs.declared.error.NegoexError.{NegoexError}
use Rattle.negoex_messages.specs.Form.{Layout, IsPut, IsTooLong}
use Rattle.negoex_messages.specs.Laws.{LayoutLaws}
use Rattle.negoex_messages.specs.Vectors.{payloads, heads, bodies}
use Rattle.negoex_messages.specs.VectorLaws.{bodies-size}

-- with what was put in front, the elements that are left give all
pub record ArePut {V : Type 0} (l : Layout V) (first : ℕ) (all left : List V) (old headers put : List ℕ) : Type 0 where
  pub of_headers : headers ++ heads l (first + length put) left ≡ old ++ heads l first all
  pub of_payloads : put ++ bodies l (first + length put) left ≡ bodies l first all

pub none-put : {V : Type 0} (l : Layout V) (first : ℕ) (all : List V) (old headers put : List ℕ) → headers ≡ old → put ≡ [] → ArePut l first all all old headers put
none-put {V} l first all old headers put e f =
    let at : first + length put ≡ first = omega (arith, ap length f) in
    record {
      of_headers = ap (λ (p : ℕ). headers ++ heads l p all) at ∙ ap (λ (h : List ℕ). h ++ heads l first all) e;
      of_payloads = ap (λ (p : ℕ). put ++ bodies l p all) at ∙ ap (λ (h : List ℕ). h ++ bodies l first all) f;
    }

-- what was put and what is left are as long as all
pub put-long : {V : Type 0} (l : Layout V) → LayoutLaws l → (first : ℕ) (all left : List V) (old headers put : List ℕ)
    → ArePut l first all left old headers put → length put + payloads l left ≡ payloads l all
put-long l laws first all left old headers put are =
    omega (
      arith,
      ap length are.of_payloads,
      length-append put (bodies l (first + length put) left),
      bodies-size l laws (first + length put) left,
      bodies-size l laws first all,
    )

pub one-put : {V : Type 0} (l : Layout V) → LayoutLaws l → (first place : ℕ) (x : V) (all left more : List V) (old headers headers_new put put_new : List ℕ)
    → left ≡ x ∷ more → place ≡ first + length put * 1 → IsPut l x place headers headers_new put put_new
    → ArePut l first all left old headers put → ArePut l first all more old headers_new put_new
one-put {V} l laws first place x all left more old headers headers_new put put_new split at is are =
    let here : place ≡ first + length put = omega arith in
    let h : headers_new ≡ headers ++ l.head x (first + length put) = is.header ∙ ap (λ (p : ℕ). headers ++ l.head x p) here in
    let b : put_new ≡ put ++ l.body x (first + length put) = is.payload ∙ ap (λ (p : ℕ). put ++ l.body x p) here in
    let next : first + length put_new ≡ first + length put + l.payload x =
    omega (arith, ap length b, length-append put (l.body x (first + length put)), laws.body_size x (first + length put)) in
    record {
      of_headers = ap (λ (p : ℕ). headers_new ++ heads l p more) next
          ∙ ap (λ (hs : List ℕ). hs ++ heads l (first + length put + l.payload x) more) h
          ∙ append_assoc headers (l.head x (first + length put)) _
          ∙ ap (λ (ys : List V). headers ++ heads l (first + length put) ys) (sym split) ∙ are.of_headers;
      of_payloads = ap (λ (p : ℕ). put_new ++ bodies l p more) next
          ∙ ap (λ (bs : List ℕ). bs ++ bodies l (first + length put + l.payload x) more) b
          ∙ append_assoc put (l.body x (first + length put)) _
          ∙ ap (λ (ys : List V). put ++ bodies l (first + length put) ys) (sym split) ∙ are.of_payloads;
    }

-- an element's payload that ends past 32 bits ends there with all others
pub one-long : {V : Type 0} (l : Layout V) → LayoutLaws l → (first place : ℕ) (x : V) (all left more : List V) (old headers put : List ℕ) (e : NegoexError)
    → left ≡ x ∷ more → place ≡ first + length put * 1 → ArePut l first all left old headers put
    → IsTooLong place (l.payload x) e → IsTooLong first (payloads l all) e
one-long l laws first place x all left more old headers put e split at are (inl memory) = inl memory
one-long l laws first place x all left more old headers put e split at are (inr long) =
    let sum = put-long l laws first all left old headers put are in
    inr (long.0, omega (arith, long.1, sum, ap (payloads l) split))

pub all-long : {V : Type 0} (l : Layout V) → LayoutLaws l → (first : ℕ) (all left : List V) (old headers put : List ℕ)
    → ArePut l first all left old headers put → 2 ^ 32 ≤ first + length put * 1 → 2 ^ 32 ≤ first + payloads l all
all-long l laws first all left old headers put are long =
    let sum = put-long l laws first all left old headers put are in omega arith

pub split-at : {A B : Type 0} (f : A → B) (xs : List A) (i : ℕ) (x : A) → i < length xs → x ≡ get_or xs i x
    → map f (drop i xs) ≡ f x ∷ map f (drop (i + 1) xs)
split-at f xs i x within is = ap (map f) (drop_more xs i x within) ∙ ap (λ y. f y ∷ map f (drop (i + 1) xs)) (sym is)

pub none-left : {A B : Type 0} (f : A → B) (xs : List A) (i : ℕ) → length xs ≤ i → map f (drop i xs) ≡ []
none-left f xs i behind = ap (map f) (drop_all i xs behind)

pub all-put : {V : Type 0} (l : Layout V) → LayoutLaws l → (first : ℕ) (all left : List V) (old headers put : List ℕ) → left ≡ []
    → first + length put * 1 < 2 ^ 32 → ArePut l first all left old headers put
    → (headers ≡ old ++ heads l first all) × (put ≡ bodies l first all) × (first + payloads l all < 2 ^ 32)
all-put {V} l laws first all left old headers put ended within are =
    let sum = put-long l laws first all left old headers put are in
    let none : payloads l left ≡ 0 = ap (payloads l) ended in (
      sym (append-nil headers) ∙ ap (λ (ys : List V). headers ++ heads l (first + length put) ys) (sym ended) ∙ are.of_headers,
      sym (append-nil put) ∙ ap (λ (ys : List V). put ++ bodies l (first + length put) ys) (sym ended) ∙ are.of_payloads,
      omega arith,
    )

-- so many things of some size have that many bytes at least
pub count-below : (n size : ℕ) → 0 < size → n ≤ n * size
count-below n zero some = absurd (omega arith)
count-below n (suc k) some = omega (arith, mul-suc n k)
