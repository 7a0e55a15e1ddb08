-- Length octets and elements say where they end: of two that begin one text, both are the same.
use Rattle.std.proofs.Common.{◌≡◌, ℕ, ◌+◌, ◌^◌, ◌<◌, ◌≤◌, List, [], ◌∷◌, ◌++◌, length, refl, sym, ap, ◌∙◌, inl, inr, append_assoc, arith}
use Rattle.std.proofs.lemmas.Bool.{lt-ltb, le-ltb, cases_lt}
use Rattle.std.proofs.lemmas.List.{length-append}
use Rattle.asn1_der.specs.Length.{digits, length_octets, element}
use Rattle.asn1_der.proofs.Digits.{digits-one, length-digits-le, length-digits-step}

-- of two fronts as long that begin one text, both are the same
pub fronts : (a b x y : List ℕ) → length a ≡ length b → a ++ x ≡ b ++ y → (a ≡ b) × (x ≡ y)
fronts [] [] x y same e = (refl, e)
fronts [] (c ∷ b) x y same e = absurd (omega arith)
fronts (c ∷ a) [] x y same e = absurd (omega arith)
fronts (c ∷ a) (d ∷ b) x y same e =
    let rest = fronts a b x y (omega arith) (cc) in
    (cc, rest.1)

-- a length below 128 is one octet
pub length_octets-short : (n : ℕ) → n < 128 → length_octets n ≡ n ∷ []
unfolding length_octets
length_octets-short n short = rw (lt-ltb n 128 short) refl

-- another is the count of its digits, with bit 8 set, and the digits
pub length_octets-long : (n : ℕ) → 128 ≤ n → length_octets n ≡ (128 + length (digits n)) ∷ digits n
unfolding length_octets
length_octets-long n long = rw (le-ltb n 128 long) refl

one_short : (m n : ℕ) (x y : List ℕ) → m < 128 → n < 128 → length_octets m ++ x ≡ length_octets n ++ y → (m ≡ n) × (x ≡ y)
one_short m n x y short also e =
    let f : (m ∷ x) ≡ (n ∷ y) = rw (length_octets-short m short, length_octets-short n also) at e in
    (cc, cc)

one_mixed : (m n : ℕ) (x y : List ℕ) → m < 128 → 128 ≤ n → length_octets m ++ x ≡ length_octets n ++ y → ⊥
one_mixed m n x y short long e =
    let f : (m ∷ x) ≡ ((128 + length (digits n)) ∷ (digits n ++ y)) = rw (length_octets-short m short, length_octets-long n long) at e in
    let heads : m ≡ 128 + length (digits n) = cc in
    omega arith

one_long : (m n : ℕ) (x y : List ℕ) → 128 ≤ m → 128 ≤ n → length_octets m ++ x ≡ length_octets n ++ y → (m ≡ n) × (x ≡ y)
one_long m n x y long also e =
    let f : ((128 + length (digits m)) ∷ (digits m ++ x)) ≡ ((128 + length (digits n)) ∷ (digits n ++ y)) =
    rw (length_octets-long m long, length_octets-long n also) at e in
    let heads : 128 + length (digits m) ≡ 128 + length (digits n) = cc in
    let tails : digits m ++ x ≡ digits n ++ y = cc in
    let parts = fronts (digits m) (digits n) x y (omega arith) tails in
    (digits-one m n parts.0, parts.1)

pub length_octets-one : (m n : ℕ) (x y : List ℕ) → length_octets m ++ x ≡ length_octets n ++ y → (m ≡ n) × (x ≡ y)
length_octets-one m n x y e =
    elim (cases_lt m 128) [
      | inl short ↦ elim (cases_lt n 128) [ inl also ↦ one_short m n x y short also e | inr long ↦ absurd (one_mixed m n x y short long e) ]
      | inr long ↦ elim (cases_lt n 128) [ inl short ↦ absurd (one_mixed n m y x short long (sym e)) | inr also ↦ one_long m n x y long also e ]
    ]

pub length_octets-injective : (m n : ℕ) → length_octets m ≡ length_octets n → m ≡ n
length_octets-injective m n e = (length_octets-one m n [] [] (ap (λ octets. octets ++ []) e)).0

pub length_octets-nonempty : (n : ℕ) → length_octets n ≡ [] → ⊥
length_octets-nonempty n e =
    elim (cases_lt n 128) [
      | inl short ↦ (let f : (n ∷ []) ≡ [] = rw (length_octets-short n short) at e in cc)
      | inr long ↦ (let f : ((128 + length (digits n)) ∷ digits n) ≡ [] = rw (length_octets-long n long) at e in cc)
    ]

-- a text that has a first octet
pub record Begins (text : List ℕ) : Type 0 where
  pub octet : ℕ
  pub rest : List ℕ
  pub is : text ≡ octet ∷ rest

pub length_octets-first : (n : ℕ) → Begins (length_octets n)
length_octets-first n =
    elim (cases_lt n 128) [
      | inl short ↦ record { octet = n; rest = []; is = length_octets-short n short }
      | inr long ↦ record { octet = 128 + length (digits n); rest = digits n; is = length_octets-long n long }
    ]

pub length-length_octets-ge : (n : ℕ) → 1 ≤ length (length_octets n)
length-length_octets-ge n =
    elim (cases_lt n 128) [
      | inl short ↦ (let count = ap length (length_octets-short n short) in omega arith)
      | inr long ↦ (let count = ap length (length_octets-long n long) in omega arith)
    ]

-- the lengths of this machine have at most nine length octets
pub length-length_octets-le : (n : ℕ) → n < 2 ^ 64 → length (length_octets n) ≤ 9
length-length_octets-le n small =
    elim (cases_lt n 128) [
      | inl short ↦ (let count = ap length (length_octets-short n short) in omega arith)
      | inr long ↦ (let count = ap length (length_octets-long n long) in let most = length-digits-le n small in omega arith)
    ]

-- below 128 no octet follows the first
pub following_none : (n first : ℕ) (rest : List ℕ) → first < 128 → length_octets n ≡ first ∷ rest → length rest ≡ 0
following_none n first rest short e =
    elim (cases_lt n 128) [
      | inl small ↦ (let f : (n ∷ []) ≡ (first ∷ rest) = rw (length_octets-short n small) at e in let g : [] ≡ rest = cc in rw (← g) refl)
      | inr large ↦ (let f : ((128 + length (digits n)) ∷ digits n) ≡ (first ∷ rest) = rw (length_octets-long n large) at e in
          let g : 128 + length (digits n) ≡ first = cc in absurd (omega arith))
    ]

-- from 128 on the first octet counts those that follow, which are the digits
pub following_digits : (n first : ℕ) (rest : List ℕ) → 128 ≤ first → length_octets n ≡ first ∷ rest → (128 + length rest ≡ first) × (digits n ≡ rest) × (128 ≤ n)
following_digits n first rest long e =
    elim (cases_lt n 128) [
      | inl small ↦ (let f : (n ∷ []) ≡ (first ∷ rest) = rw (length_octets-short n small) at e in
          let g : n ≡ first = cc in absurd (omega arith))
      | inr large ↦ (let f : ((128 + length (digits n)) ∷ digits n) ≡ (first ∷ rest) = rw (length_octets-long n large) at e in
          let same : digits n ≡ rest = cc in
          let count : 128 + length (digits n) ≡ first = cc in
          (rw same at count, same, large))
    ]

-- the first octet of a length of this machine counts one to eight digits
pub following_bound : (n first : ℕ) (rest : List ℕ) → n < 2 ^ 64 → 128 ≤ first → length_octets n ≡ first ∷ rest → (129 ≤ first) × (first ≤ 136)
following_bound n first rest small long e =
    let parts = following_digits n first rest long e in
    let most = length-digits-le n small in
    let least = length-digits-step n (omega arith) in
    let same : length (digits n) ≡ length rest = ap length parts.1 in
    (omega arith, omega arith)

pub element-split : (s : ℕ) (a : List ℕ) → element s a ≡ (s ∷ length_octets (length a)) ++ a
unfolding element
element-split s a = refl

-- an element at the head of a text, part by part
pub element-parts : (s : ℕ) (a rest : List ℕ) → element s a ++ rest ≡ s ∷ (length_octets (length a) ++ (a ++ rest))
unfolding element
element-parts s a rest = ap (λ (text : List ℕ). s ∷ text) (append_assoc (length_octets (length a)) a rest)

pub element-nonempty : (s : ℕ) (a : List ℕ) → element s a ≡ [] → ⊥
unfolding element
element-nonempty s a e = cc

pub element-begins : (s : ℕ) (a : List ℕ) (octet : ℕ) (rest x : List ℕ) → element s a ++ x ≡ octet ∷ rest → s ≡ octet
unfolding element
element-begins s a octet rest x e = cc

pub element-one : (s t : ℕ) (a b x y : List ℕ) → element s a ++ x ≡ element t b ++ y → (s ≡ t) × (a ≡ b) × (x ≡ y)
unfolding element
element-one s t a b x y e =
    let tails : length_octets (length a) ++ (a ++ x) ≡ length_octets (length b) ++ (b ++ y) =
    sym (append_assoc (length_octets (length a)) a x) ∙ (cc) ∙ append_assoc (length_octets (length b)) b y in
    let lengths = length_octets-one (length a) (length b) (a ++ x) (b ++ y) tails in
    let contents = fronts a b x y lengths.0 lengths.1 in
    (cc, contents.0, contents.1)

pub element-content : (s : ℕ) (a b : List ℕ) → element s a ≡ element s b → a ≡ b
element-content s a b e = (element-one s s a b [] [] (ap (λ octets. octets ++ []) e)).1

pub length-element : (s : ℕ) (a : List ℕ) → length (element s a) ≡ 1 + length (length_octets (length a)) + length a
unfolding element
length-element s a = rw (length-append (length_octets (length a)) a) (omega arith)
