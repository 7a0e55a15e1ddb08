-- The numbers of which the content of an object identifier is made: what is written is read back, and no other.
use Rattle.std.proofs.Common.{◌≡◌, ◌≢◌, ℕ, ◌+◌, ◌-◌, ◌*◌, ◌/◌, ◌%◌, ◌^◌, ◌<◌, ◌≤◌, List, [], ◌∷◌, ◌++◌, length, get_or, map, refl, sym, ap, ◌∙◌, inl, inr, append_assoc, append-nil, length-append, arith}
use Rattle.std.specs.List.{flat_map, list_all}
use Rattle.std.specs.Int.Digits.{digits_of, number_from_digits_after}
use Rattle.std.proofs.lemmas.List.{append_cancel_left, map-append}
use Rattle.std.proofs.lemmas.Bool.{cases_lt, cond_below, cond_above, and_from, and_parts, lt-ltb, ltb-true}
use Rattle.std.proofs.lemmas.Int.Digits.{digits_of_step, first_digits_of, number_digits_of}
use Rattle.std.proofs.lemmas.Nat.{div-add-mod'}
use Rattle.std.proofs.Math.Nat.{mod-lt}
use Rattle.asn1_leaves.specs.ObjectIdentifier.{subidentifier, numbers_after, is_u64, AreNumbers}

-- digits with bit 8 set
abbrev pub marked : List ℕ → List ℕ
marked digits = map (λ digit. 128 + digit) digits

-- what an octet does to the numbers
pub numbers-last : (n octet : ℕ) (octets : List ℕ) → octet < 128 → numbers_after n (octet ∷ octets) ≡ (n * 128 + octet) ∷ numbers_after 0 octets
numbers-last n octet octets low =
    sym (cond_below octet 128 ((n * 128 + octet) ∷ numbers_after 0 octets) (numbers_after (n * 128 + (octet - 128)) octets) low)

pub numbers-further : (n octet : ℕ) (octets : List ℕ) → 128 ≤ octet → numbers_after n (octet ∷ octets) ≡ numbers_after (n * 128 + (octet - 128)) octets
numbers-further n octet octets high =
    sym (cond_above octet 128 ((n * 128 + octet) ∷ numbers_after 0 octets) (numbers_after (n * 128 + (octet - 128)) octets) (numbers_after (n * 128 + (octet - 128)) octets) high refl)

-- marked digits are read into the number that has begun
numbers-marked : (n : ℕ) (digits octets : List ℕ) → numbers_after n (marked digits ++ octets) ≡ numbers_after (number_from_digits_after 128 n digits) octets
numbers-marked n [] octets = refl
numbers-marked n (d ∷ digits) octets =
    let same : 128 + d - 128 ≡ d = omega arith in
    numbers-further n (128 + d) (marked digits ++ octets) (omega arith)
    ∙ ap (λ m. numbers_after (n * 128 + m) (marked digits ++ octets)) same
    ∙ numbers-marked (n * 128 + d) digits octets

-- a number that is written is read
pub numbers-subidentifier : (n : ℕ) (octets : List ℕ) → numbers_after 0 (subidentifier n ++ octets) ≡ n ∷ numbers_after 0 octets
unfolding subidentifier
numbers-subidentifier n octets =
    ap (numbers_after 0) (append_assoc (marked (digits_of 128 (n / 128))) (n % 128 ∷ []) octets)
    ∙ numbers-marked 0 (digits_of 128 (n / 128)) (n % 128 ∷ octets)
    ∙ ap (λ m. numbers_after m (n % 128 ∷ octets)) (number_digits_of 128 (n / 128) (omega arith))
    ∙ numbers-last (n / 128) (n % 128) octets (mod-lt n (omega arith))
    ∙ ap (λ m. m ∷ numbers_after 0 octets) (div-add-mod' n 128)

pub numbers-content : (numbers : List ℕ) → numbers_after 0 (flat_map subidentifier numbers) ≡ numbers
numbers-content [] = refl
numbers-content (n ∷ numbers) =
    numbers-subidentifier n (flat_map subidentifier numbers) ∙ ap (λ ns. n ∷ ns) (numbers-content numbers)

-- octets begin with one number at most
pub one_number : (m n : ℕ) (xs ys : List ℕ) → subidentifier m ++ xs ≡ subidentifier n ++ ys → (m ≡ n) × (xs ≡ ys)
one_number m n xs ys e =
    let numbers = sym (numbers-subidentifier m xs) ∙ ap (numbers_after 0) e ∙ numbers-subidentifier n ys in
    let same : m ≡ n = cc in
    (same, append_cancel_left (subidentifier m) xs ys (e ∙ ap (λ k. subidentifier k ++ ys) (sym same)))

-- a number that has begun only grows
numbers-grow : (m n : ℕ) (octets numbers : List ℕ) → numbers_after m octets ≡ n ∷ numbers → m * 128 ≤ n
numbers-grow m n [] numbers e = absurd (let never : ⊥ = cc in never)
numbers-grow m n (octet ∷ octets) numbers e =
    elim (cases_lt octet 128) [
      | inl low ↦
          (let all = sym (numbers-last m octet octets low) ∙ e in
          let same : m * 128 + octet ≡ n = cc in
          omega arith)
      | inr high ↦
          (let more = numbers-grow (m * 128 + (octet - 128)) n octets numbers (sym (numbers-further m octet octets high) ∙ e) in
          omega arith)
    ]

-- so where digits have begun that leave no room, no number below 2 ^ 64 does
pub no_room : (m n : ℕ) (octets rest : List ℕ) → 2 ^ 57 ≤ m → n < 2 ^ 64 → subidentifier n ++ rest ≢ marked (digits_of 128 m) ++ octets
no_room m n octets rest large small e =
    let numbers =
    sym (numbers-marked 0 (digits_of 128 m) octets ∙ ap (λ k. numbers_after k octets) (number_digits_of 128 m (omega arith)))
    ∙ sym (ap (numbers_after 0) e)
    ∙ numbers-subidentifier n rest in
    let most = numbers-grow m n octets (numbers_after 0 rest) numbers in
    omega arith

-- and where there are only digits that others follow, none does
pub no_end : (m n : ℕ) (rest : List ℕ) → subidentifier n ++ rest ≢ marked (digits_of 128 m)
no_end m n rest e =
    let numbers =
    sym (numbers-subidentifier n rest) ∙ ap (numbers_after 0) (e ∙ sym (append-nil (marked (digits_of 128 m)))) ∙ numbers-marked 0 (digits_of 128 m) [] in
    let never : ⊥ = cc in never

-- the first octet has a digit that isn't zero, or is the last
first-marked : (m last : ℕ) (digits rest : List ℕ) → digits ≡ digits_of 128 m → last < 128 → get_or (marked digits ++ last ∷ [] ++ rest) 0 0 ≢ 128
first-marked m last [] rest e low h = omega arith
first-marked m last (d ∷ digits) rest e low h =
    elim (cases_lt 0 m) [
      | inl positive ↦ (let first = first_digits_of 128 m (omega arith) positive in let same = ap (λ xs. get_or xs 0 0) e in omega arith)
      | inr none ↦ (let is : m ≡ 0 = omega arith in let never = e ∙ ap (digits_of 128) is in absurd (let no : ⊥ = cc in no))
    ]

pub no_zero_first : (n : ℕ) (octets rest : List ℕ) → subidentifier n ++ rest ≢ 128 ∷ octets
unfolding subidentifier
no_zero_first n octets rest e =
    first-marked (n / 128) (n % 128) (digits_of 128 (n / 128)) rest refl (mod-lt n (omega arith)) (ap (λ xs. get_or xs 0 0) e)

-- one octet more, which others follow
pub another_digit : (m octet : ℕ) → 128 ≤ octet → 0 < m * 128 + octet % 128 → octet < 256 → marked (digits_of 128 (m * 128 + octet % 128)) ≡ marked (digits_of 128 m) ++ octet ∷ []
another_digit m octet high positive byte =
    let front : (m * 128 + octet % 128) / 128 ≡ m = omega arith in
    let back : 128 + (m * 128 + octet % 128) % 128 ≡ octet = omega arith in
    ap marked (digits_of_step 128 (m * 128 + octet % 128) (omega arith) positive)
    ∙ map-append (λ digit. 128 + digit) (digits_of 128 ((m * 128 + octet % 128) / 128)) ((m * 128 + octet % 128) % 128 ∷ [])
    ∙ (λ i. marked (digits_of 128 (front i)) ++ back i ∷ [])

-- and the last one
pub last_digit : (m octet : ℕ) → octet < 128 → subidentifier (m * 128 + octet % 128) ≡ marked (digits_of 128 m) ++ octet ∷ []
unfolding subidentifier
last_digit m octet low =
    let front : (m * 128 + octet % 128) / 128 ≡ m = omega arith in
    let back : (m * 128 + octet % 128) % 128 ≡ octet = omega arith in
    λ i. marked (digits_of 128 (front i)) ++ back i ∷ []

-- a number is one octet at least
pub length-subidentifier : (n : ℕ) (rest octets : List ℕ) → subidentifier n ++ rest ≡ octets → length rest < length octets
unfolding subidentifier
length-subidentifier n rest octets e =
    let digits = marked (digits_of 128 (n / 128)) in
    omega (arith, ap length e, length-append (digits ++ n % 128 ∷ []) rest, length-append digits (n % 128 ∷ []))

-- a number in front of numbers, and without it
pub numbers-push : (n : ℕ) (octets rest : List ℕ) → n < 2 ^ 64 → subidentifier n ++ rest ≡ octets → AreNumbers rest → AreNumbers octets
numbers-push n octets rest small e (numbers, fit, is) =
    (n ∷ numbers, and_from (is_u64 n) (list_all is_u64 numbers) (lt-ltb n (2 ^ 64) small) fit, ap (λ xs. subidentifier n ++ xs) is ∙ e)

pub numbers-pop : (n : ℕ) (octets rest : List ℕ) → subidentifier n ++ rest ≡ octets → AreNumbers octets → AreNumbers rest
numbers-pop n octets rest e ([], fit, is) = absurd (omega (arith, ap length is, length-subidentifier n rest octets e))
numbers-pop n octets rest e (m ∷ numbers, fit, is) =
    (numbers, (and_parts (is_u64 m) (list_all is_u64 numbers) fit).1, (one_number m n (flat_map subidentifier numbers) rest (is ∙ sym e)).1)

-- where no number begins the octets, they are no numbers
pub no_numbers : (octets : List ℕ) → ((n : ℕ) (rest : List ℕ) → n < 2 ^ 64 → subidentifier n ++ rest ≢ octets) → 0 < length octets → ¬ AreNumbers octets
no_numbers octets never some ([], fit, is) = let none = ap length is in omega arith
no_numbers octets never some (n ∷ numbers, fit, is) =
    never n (flat_map subidentifier numbers) (ltb-true n (2 ^ 64) (and_parts (is_u64 n) (list_all is_u64 numbers) fit).0) is
