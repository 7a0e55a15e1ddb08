-- Which octets are the content of a number that isn't negative, and how they are read and written.
use Rattle.std.proofs.Common.{◌≡◌, ℕ, zero, suc, ◌+◌, ◌-◌, ◌*◌, ◌/◌, ◌%◌, ◌^◌, ◌<◌, ◌≤◌, Bool, true, false, ltb, eqb, ◌&&◌, cond, List, [], ◌∷◌, ◌++◌, length, get_or, take, drop, set, refl, sym, ap, subst, ◌∙◌, inl, inr, arith, Fits, w8, length-append, append_assoc, length-drop}
use Rattle.std.specs.Int.Digits.{number_from_digits, number_from_digits_after, AllBelowBase}
use Rattle.std.proofs.lemmas.Bool.{cases_lt, cases_eq, lt-ltb, le-ltb}
use Rattle.std.proofs.lemmas.Bool.Decides.{nat_tests}
use Rattle.std.proofs.lemmas.Int.Digits.{first_digits_of, length-digits_of-le, number_after_append, number_after_ge}
use Rattle.std.proofs.lemmas.List.{drop-set, take-append-drop}
use Rattle.asn1_der.specs.Length.{digits}
use Rattle.asn1_der.proofs.Digits.{digits-is, digits-zero, digits-step}
use Rattle.asn1_der.specs.declared.error.Asn1DerError.TheVariants.{InvalidData, UnsupportedValue}
use Rattle.asn1_codec.specs.Reading.{IsOwn}
use Rattle.asn1_codec.specs.Unsigned.{with_sign, unsigned_content, IsUnsigned, unsigned_fault}
use Rattle.asn1_codec.specs.UnsignedLaws.{number-unsigned_content}

with_sign-low : (d : ℕ) (ds : List ℕ) → d < 128 → with_sign (d ∷ ds) ≡ d ∷ ds
with_sign-low d ds low = rw (lt-ltb d 128 low) refl

with_sign-high : (d : ℕ) (ds : List ℕ) → 128 ≤ d → with_sign (d ∷ ds) ≡ 0 ∷ d ∷ ds
with_sign-high d ds high = rw (le-ltb d 128 high) refl

digits-one_digit : (n : ℕ) → 0 < n → n < 256 → digits n ≡ n ∷ []
digits-one_digit n some small =
    let none : n / 256 ≡ 0 = omega arith in
    let same : n % 256 ≡ n = omega arith in
    digits-step n some ∙ ap (λ q. digits q ++ (n % 256 ∷ [])) none ∙ ap (λ front. front ++ (n % 256 ∷ [])) digits-zero ∙ ap (λ d. d ∷ []) same

-- a number below 128 is one octet
pub unsigned_content-short : (n : ℕ) → n < 128 → unsigned_content n ≡ n ∷ []
unfolding unsigned_content
unsigned_content-short n short =
    elim (cases_eq n 0) [
      | inl none ↦ ap (λ k. with_sign (digits k)) none ∙ ap with_sign digits-zero ∙ ap (λ k. k ∷ []) (sym none)
      | inr some ↦ ap with_sign (digits-one_digit n (omega arith) (omega arith)) ∙ with_sign-low n [] short
    ]

with_sign-push : (d : ℕ) (ds : List ℕ) (last : ℕ) → with_sign ((d ∷ ds) ++ (last ∷ [])) ≡ with_sign (d ∷ ds) ++ (last ∷ [])
with_sign-push d ds last =
    elim (cases_lt d 128) [
      | inl low ↦ with_sign-low d (ds ++ (last ∷ [])) low ∙ ap (λ octets. octets ++ (last ∷ [])) (sym (with_sign-low d ds low))
      | inr high ↦ with_sign-high d (ds ++ (last ∷ [])) high ∙ ap (λ octets. octets ++ (last ∷ [])) (sym (with_sign-high d ds high))
    ]

with_sign-more : (front : List ℕ) (last : ℕ) → (front ≡ [] → ⊥) → with_sign (front ++ (last ∷ [])) ≡ with_sign front ++ (last ∷ [])
with_sign-more [] last some = absurd (some refl)
with_sign-more (d ∷ ds) last some = with_sign-push d ds last

digits-nonempty : (n : ℕ) → 0 < n → digits n ≡ [] → ⊥
digits-nonempty n some none =
    let step = ap length (digits-step n some) in
    let count = length-append (digits (n / 256)) (n % 256 ∷ []) in
    let nothing = ap length none in
    omega arith

-- another is the content of its front, and one octet more
pub unsigned_content-step : (n : ℕ) → 128 ≤ n → unsigned_content n ≡ unsigned_content (n / 256) ++ (n % 256 ∷ [])
unfolding unsigned_content
unsigned_content-step n long =
    elim (cases_eq (n / 256) 0) [
      | inl none ↦
          let same : n % 256 ≡ n = omega arith in
          ap with_sign (digits-one_digit n (omega arith) (omega arith))
          ∙ with_sign-high n [] long
          ∙ ap (λ d. 0 ∷ d ∷ []) (sym same)
          ∙ sym (ap (λ q. with_sign (digits q) ++ (n % 256 ∷ [])) none ∙ ap (λ ds. with_sign ds ++ (n % 256 ∷ [])) digits-zero)
      | inr some ↦
          ap with_sign (digits-step n (omega arith)) ∙ with_sign-more (digits (n / 256)) (n % 256) (digits-nonempty (n / 256) (omega arith))
    ]

length-with_sign : (ds : List ℕ) → length (with_sign ds) ≤ length ds + 1
length-with_sign [] = omega arith
length-with_sign (d ∷ ds) =
    elim (cases_lt d 128) [
      | inl low ↦ omega (arith, ap length (with_sign-low d ds low))
      | inr high ↦ omega (arith, ap length (with_sign-high d ds high))
    ]

-- the numbers of this machine have at most seventeen content octets
pub length-unsigned_content-le : (n : ℕ) → n < 2 ^ 128 → length (unsigned_content n) ≤ 17
unfolding unsigned_content
length-unsigned_content-le n small =
    let most : length (digits n) ≤ 16 = rw (digits-is n) (length-digits_of-le 256 16 n (omega arith) small) in
    omega (arith, length-with_sign (digits n))

length-with_sign-ge : (ds : List ℕ) → 1 ≤ length (with_sign ds)
length-with_sign-ge [] = omega arith
length-with_sign-ge (d ∷ ds) =
    elim (cases_lt d 128) [
      | inl low ↦ omega (arith, ap length (with_sign-low d ds low))
      | inr high ↦ omega (arith, ap length (with_sign-high d ds high))
    ]

length-unsigned_content-ge : (n : ℕ) → 1 ≤ length (unsigned_content n)
unfolding unsigned_content
length-unsigned_content-ge n = length-with_sign-ge (digits n)

IsUnsigned-with_sign : (ds : List ℕ) → (0 < length ds → 0 < get_or ds 0 0) → IsUnsigned (with_sign ds)
IsUnsigned-with_sign [] some = omega arith
IsUnsigned-with_sign (d ∷ []) some =
    elim (cases_lt d 128) [
      | inl low ↦ subst IsUnsigned (sym (with_sign-low d [] low)) low
      | inr high ↦ subst IsUnsigned (sym (with_sign-high d [] high)) (omega arith, λ _. high)
    ]
IsUnsigned-with_sign (d ∷ e ∷ ds) some =
    elim (cases_lt d 128) [
      | inl low ↦ subst IsUnsigned (sym (with_sign-low d (e ∷ ds) low)) (low, λ zeros. absurd (omega (arith, some (omega arith), zeros)))
      | inr high ↦ subst IsUnsigned (sym (with_sign-high d (e ∷ ds) high)) (omega arith, λ _. high)
    ]

first_digit : (n : ℕ) → 0 < length (digits n) → 0 < get_or (digits n) 0 0
first_digit zero some = absurd (omega (arith, ap length digits-zero))
first_digit (suc n) some = rw (digits-is (suc n)) (first_digits_of 256 (suc n) (omega arith) (omega arith))

pub IsUnsigned-unsigned_content : (n : ℕ) → IsUnsigned (unsigned_content n)
unfolding unsigned_content
IsUnsigned-unsigned_content n = IsUnsigned-with_sign (digits n) (first_digit n)

-- an octet more is the content of the longer number
content_push : (n d : ℕ) → 128 ≤ n * 256 + d → d < 256 → unsigned_content (n * 256 + d) ≡ unsigned_content n ++ (d ∷ [])
content_push n d long small =
    let front : (n * 256 + d) / 256 ≡ n = omega arith in
    let last : (n * 256 + d) % 256 ≡ d = omega arith in
    unsigned_content-step (n * 256 + d) long
    ∙ ap (λ q. unsigned_content q ++ ((n * 256 + d) % 256 ∷ [])) front
    ∙ ap (λ r. unsigned_content n ++ (r ∷ [])) last

content_after : (n d : ℕ) (ds : List ℕ) → 128 ≤ n * 256 + d → AllBelowBase 256 (d ∷ ds)
    → unsigned_content (number_from_digits_after 256 n (d ∷ ds)) ≡ unsigned_content n ++ (d ∷ ds)
content_after n d [] long small = content_push n d long small.0
content_after n d (e ∷ ds) long small =
    content_after (n * 256 + d) e ds (omega (arith, small.1.0)) small.1
    ∙ ap (λ front. front ++ (e ∷ ds)) (content_push n d long small.0)
    ∙ append_assoc (unsigned_content n) (d ∷ []) (e ∷ ds)

-- octets that are a content are that of the number that they write
pub unsigned_content-number : (octets : List ℕ) → AllBelowBase 256 octets → IsUnsigned octets → unsigned_content (number_from_digits 256 octets) ≡ octets
unsigned_content-number [] small content = absurd content
unsigned_content-number (d ∷ []) small content =
    let same : 0 * 256 + d ≡ d = omega arith in
    ap unsigned_content same ∙ unsigned_content-short d content
unsigned_content-number (d ∷ e ∷ ds) small content =
    let same : 0 * 256 + d ≡ d = omega arith in
    let long : 128 ≤ (0 * 256 + d) * 256 + e = elim (cases_eq d 0) [ inl none ↦ omega (arith, content.1 none) | inr some ↦ omega arith ] in
    content_after (0 * 256 + d) e ds long small.1
    ∙ ap (λ front. front ++ (e ∷ ds)) (ap unsigned_content same ∙ unsigned_content-short d content.0)

below_base : (octets : List ℕ) → ((k : ℕ) → Fits w8 (get_or octets k 0)) → AllBelowBase 256 octets
below_base [] h = tt
below_base (x ∷ xs) h = ((h 0).fits, below_base xs (λ k. h (suc k)))

pub content-octets : (octets : List ℕ) → ((k : ℕ) → Fits w8 (get_or octets k 0)) → IsUnsigned octets → unsigned_content (number_from_digits 256 octets) ≡ octets
content-octets octets h content = unsigned_content-number octets (below_base octets h) content

-- a front of the octets writes no greater number
pub number-front : (octets : List ℕ) (k : ℕ) → number_from_digits 256 (take k octets) ≤ number_from_digits 256 octets
number-front octets k =
    let split = number_after_append 256 0 (take k octets) (drop k octets) in
    let least = number_after_ge 256 (number_from_digits 256 (take k octets)) (drop k octets) (omega arith) in
    let whole = ap (number_from_digits 256) (take-append-drop k octets) in
    omega (arith, split, least, whole)

either_fault : (b : Bool) → IsOwn (cond b InvalidData UnsupportedValue)
either_fault true = tt
either_fault false = tt

-- none of these is a fault of a device
pub unsigned_fault-own : (octets : List ℕ) → IsOwn (unsigned_fault octets)
unsigned_fault-own [] = tt
unsigned_fault-own (d ∷ []) = tt
unsigned_fault-own (d ∷ e ∷ ds) = either_fault (eqb d 0 && ltb e 128)

-- there is room before the octets so far for those that are left, and for one more
pub content_room : (number rest start : ℕ) (octets : List ℕ) → number < 2 ^ 128 → 128 ≤ rest → length octets ≡ 17 → start ≤ 16
    → unsigned_content number ≡ unsigned_content rest ++ drop (start + 1) octets → 1 ≤ start
content_room number rest start octets small long size place written =
    let most = length-unsigned_content-le number small in
    let sum : length (unsigned_content number) ≡ length (unsigned_content rest) + (length octets - (start + 1)) =
    ap length written ∙ length-append (unsigned_content rest) (drop (start + 1) octets) ∙ ap (λ n. length (unsigned_content rest) + n) (length-drop (start + 1) octets) in
    let step : length (unsigned_content rest) ≡ length (unsigned_content (rest / 256)) + 1 =
    ap length (unsigned_content-step rest long) ∙ length-append (unsigned_content (rest / 256)) (rest % 256 ∷ []) in
    let least = length-unsigned_content-ge (rest / 256) in
    omega arith

-- one octet more was written
pub content_more : (number rest start : ℕ) (octets : List ℕ) → 128 ≤ rest → 1 ≤ start → start ≤ 16 → length octets ≡ 17
    → unsigned_content number ≡ unsigned_content rest ++ drop (start + 1) octets
    → unsigned_content number ≡ unsigned_content (rest / 256) ++ drop (start - 1 + 1) (set octets start (rest % 256))
content_more number rest start octets long some place size written =
    let back : start - 1 + 1 ≡ start = omega arith in
    let after : drop (start - 1 + 1) (set octets start (rest % 256)) ≡ rest % 256 ∷ drop (start + 1) octets =
    ap (λ k. drop k (set octets start (rest % 256))) back ∙ drop-set octets start (rest % 256) (omega arith) in
    written
    ∙ ap (λ front. front ++ drop (start + 1) octets) (unsigned_content-step rest long)
    ∙ append_assoc (unsigned_content (rest / 256)) (rest % 256 ∷ []) (drop (start + 1) octets)
    ∙ ap (λ behind. unsigned_content (rest / 256) ++ behind) (sym after)

-- the first octet was written
pub content_first : (number rest start : ℕ) (octets : List ℕ) → rest < 128 → start ≤ 16 → length octets ≡ 17
    → unsigned_content number ≡ unsigned_content rest ++ drop (start + 1) octets → drop start (set octets start rest) ≡ unsigned_content number
content_first number rest start octets short place size written =
    drop-set octets start rest (omega arith)
    ∙ ap (λ front. front ++ drop (start + 1) octets) (sym (unsigned_content-short rest short))
    ∙ sym written

unsigned_fault-unsigned : (octets : List ℕ) → IsUnsigned octets → UnsupportedValue ≡ unsigned_fault octets
unsigned_fault-unsigned [] content = absurd content
unsigned_fault-unsigned (d ∷ []) content = refl
unsigned_fault-unsigned (d ∷ e ∷ ds) content =
    elim (cases_eq d 0) [
      | inl none ↦ (let high : 128 ≤ e = content.1 none in grind (arith, nat_tests))
      | inr some ↦ grind (arith, nat_tests)
    ]

-- where a front of the octets writes more, so do all of them
pub too_great : (octets : List ℕ) (most k : ℕ) → IsUnsigned octets → most < number_from_digits 256 (take k octets)
    → (UnsupportedValue ≡ unsigned_fault octets) × ((n : ℕ) → n ≤ most → unsigned_content n ≡ octets → ⊥)
too_great octets most k content more = (
  unsigned_fault-unsigned octets content,
  λ n small is.
      let number = ap (number_from_digits 256) (sym is) ∙ number-unsigned_content n in
      omega (arith, number-front octets k),
)
