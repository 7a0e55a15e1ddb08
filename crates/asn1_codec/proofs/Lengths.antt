-- Inputs that begin with length octets, and why others don't.
use Rattle.std.proofs.Common.{◌≡◌, ℕ, zero, suc, ◌+◌, ◌*◌, ◌-◌, ◌/◌, ◌%◌, ◌^◌, ◌<◌, ◌≤◌, List, [], ◌∷◌, ◌++◌, length, get_or, replicate, refl, sym, ap, ◌∙◌, inl, inr, subst, arith, append_assoc}
use Rattle.std.proofs.lemmas.List.{append-nil, length-append, length-replicate}
use Rattle.std.proofs.lemmas.Bool.{cases_lt}
use Rattle.std.proofs.Math.Nat.{pow-le-pow_right}
use Rattle.std.proofs.lemmas.Int.Digits.{number_lt, number_after_ge, first_digits_of}
use Rattle.std.specs.Int.Digits.{number_from_digits_after, number_from_digits, AllBelowBase}
use Rattle.asn1_der.specs.Length.{digits, length_octets, element}
use Rattle.asn1_der.proofs.Digits.{digits-is, digits-step, digits-zero}
use Rattle.asn1_der.proofs.Elements.{fronts, length_octets-short, length_octets-long, length_octets-first, following_digits, element-parts}
use Rattle.asn1_der.specs.declared.error.Asn1DerError.{Asn1DerError}
use Rattle.asn1_der.specs.declared.error.Asn1DerError.TheVariants.{TruncatedData, InvalidData}
use Rattle.asn1_codec.specs.Lengths.{AreLengthOctets, IsFollowing, IsWanting}

-- digits write the number that they were read as, where the first isn't zero
digits_behind : (n : ℕ) (ds : List ℕ) → 0 < n → AllBelowBase 256 ds → digits (number_from_digits_after 256 n ds) ≡ digits n ++ ds
digits_behind n [] positive below = sym (append-nil (digits n))
digits_behind n (d ∷ ds) positive below =
    let small : d < 256 = below.0 in
    let quotient : (n * 256 + d) / 256 ≡ n = omega arith in
    let remainder : (n * 256 + d) % 256 ≡ d = omega arith in
    let step : digits (n * 256 + d) ≡ digits ((n * 256 + d) / 256) ++ ((n * 256 + d) % 256 ∷ []) = digits-step (n * 256 + d) (omega arith) in
    digits_behind (n * 256 + d) ds (omega arith) below.1
    ∙ ap (λ front. front ++ ds) (step ∙ ap (λ q. digits q ++ ((n * 256 + d) % 256 ∷ [])) quotient ∙ ap (λ r. digits n ++ (r ∷ [])) remainder)
    ∙ append_assoc (digits n) (d ∷ []) ds

digits_one : (d : ℕ) → 0 < d → d < 256 → digits d ≡ d ∷ []
digits_one d positive small =
    let quotient : d / 256 ≡ 0 = omega arith in
    let remainder : d % 256 ≡ d = omega arith in
    digits-step d positive ∙ ap (λ q. digits q ++ (d % 256 ∷ [])) quotient ∙ ap (λ front. front ++ (d % 256 ∷ [])) digits-zero ∙ ap (λ r. r ∷ []) remainder

-- read from the first digit on, which is no zero
read_on : (d : ℕ) (ds : List ℕ) → number_from_digits 256 (d ∷ ds) ≡ number_from_digits_after 256 d ds
read_on d ds = ap (λ n. number_from_digits_after 256 n ds) (omega arith)

digits_back : (d : ℕ) (ds : List ℕ) → 0 < d → AllBelowBase 256 (d ∷ ds) → digits (number_from_digits 256 (d ∷ ds)) ≡ d ∷ ds
digits_back d ds positive below =
    ap digits (read_on d ds) ∙ digits_behind d ds positive below.1 ∙ ap (λ front. front ++ ds) (digits_one d positive below.0)

-- such digits behind their count are length octets, where one octet isn't enough
long_octets : (d : ℕ) (ds : List ℕ) → 0 < d → AllBelowBase 256 (d ∷ ds) → 128 ≤ number_from_digits 256 (d ∷ ds)
    → length_octets (number_from_digits 256 (d ∷ ds)) ≡ (128 + length (d ∷ ds)) ∷ (d ∷ ds)
long_octets d ds positive below large =
    let n = number_from_digits 256 (d ∷ ds) in
    length_octets-long n large ∙ ap (λ octets. (128 + length octets) ∷ octets) (digits_back d ds positive below)

long_length : (d : ℕ) (ds : List ℕ) → 0 < d → AllBelowBase 256 (d ∷ ds) → length (d ∷ ds) ≤ 8 → 128 ≤ number_from_digits 256 (d ∷ ds)
    → AreLengthOctets ((128 + length (d ∷ ds)) ∷ (d ∷ ds))
long_length d ds positive below few large =
    let most : 256 ^ length (d ∷ ds) ≤ 256 ^ 8 = pow-le-pow_right {n = 256} (omega arith) {i = length (d ∷ ds)} {j = 8} few in
    let bound : number_from_digits 256 (d ∷ ds) < 256 ^ length (d ∷ ds) = number_lt 256 (d ∷ ds) below in
    (number_from_digits 256 (d ∷ ds), omega arith, sym (long_octets d ds positive below large))

-- a digit from 128 on, or two digits, aren't written in one octet
large_first : (d : ℕ) (ds : List ℕ) → 128 ≤ d → 128 ≤ number_from_digits 256 (d ∷ ds)
large_first d ds large =
    let least = number_after_ge 256 d ds (omega arith) in
    let same = read_on d ds in
    omega arith

large_two : (d : ℕ) (ds : List ℕ) → 0 < d → 1 ≤ length ds → 128 ≤ number_from_digits 256 (d ∷ ds)
large_two d [] positive more = absurd (omega arith)
large_two d (e ∷ ds) positive more =
    let least : d * 256 + e ≤ number_from_digits_after 256 (d * 256 + e) ds = number_after_ge 256 (d * 256 + e) ds (omega arith) in
    let same : number_from_digits 256 (d ∷ e ∷ ds) ≡ number_from_digits_after 256 (d * 256 + e) ds = read_on d (e ∷ ds) in
    omega arith

pub all_zero : (count : ℕ) → AllBelowBase 256 (replicate count 0)
all_zero zero = tt
all_zero (suc count) = (omega arith, all_zero count)

pub all_joined : (xs ys : List ℕ) → AllBelowBase 256 xs → AllBelowBase 256 ys → AllBelowBase 256 (xs ++ ys)
all_joined [] ys left right = right
all_joined (x ∷ xs) ys left right = (left.0, all_joined xs ys left.1 right)

pub all_bytes : (xs : List ℕ) → ((i : ℕ) → get_or xs i 0 < 256) → AllBelowBase 256 xs
all_bytes [] bytes = tt
all_bytes (x ∷ xs) bytes = (bytes 0, all_bytes xs (λ i. bytes (suc i)))

-- what begins with one octet more
length_begins : (count first : ℕ) (tail rest more : List ℕ) → (first ∷ tail) ++ more ≡ length_octets count ++ rest
    → (behind : List ℕ) × (length_octets count ≡ first ∷ behind) × (tail ++ more ≡ behind ++ rest)
length_begins count first tail rest more e =
    let begins = length_octets-first count in
    let text : first ∷ (tail ++ more) ≡ begins.octet ∷ (begins.rest ++ rest) = e ∙ ap (λ l. l ++ rest) begins.is in
    (begins.rest, begins.is ∙ ap (λ o. o ∷ begins.rest) (cc (text)), cc (text))

-- the first octet begins no length octets
pub no_length : (first : ℕ) (tail : List ℕ) → ((n : ℕ) → n < 2 ^ 64 → (rest : List ℕ) → length_octets n ≡ first ∷ rest → ⊥)
    → IsWanting AreLengthOctets (first ∷ tail) InvalidData
no_length first tail none more bytes rest (count, small, is) e =
    let parts = length_begins count first tail rest more (e ∙ ap (λ l. l ++ rest) is) in
    none count small parts.0 parts.1

one_more : (m n : ℕ) → m ≡ n → suc m ≡ 1 + n
one_more m n same = omega arith

-- all octets are there, and are no length octets
pub no_such_length : (first more : ℕ) (tail octets rest : List ℕ) → IsFollowing first more → first ∷ tail ≡ octets ++ rest → length octets ≡ 1 + more
    → ((n : ℕ) → n < 2 ^ 64 → length_octets n ≡ octets → ⊥) → IsWanting AreLengthOctets (first ∷ tail) InvalidData
no_such_length first more tail octets rest follows split size none further bytes behind (count, small, is) e =
    let text : (first ∷ tail) ++ further ≡ length_octets count ++ behind = e ∙ ap (λ l. l ++ behind) is in
    let parts = length_begins count first tail behind further text in
    let sizes : length (length_octets count) ≡ 1 + more = ap length parts.1 ∙ one_more (length parts.0) more (follows.1 count parts.0 parts.1) in
    let joined : octets ++ (rest ++ further) ≡ length_octets count ++ behind = sym (append_assoc octets rest further) ∙ ap (λ l. l ++ further) (sym split) ∙ text in
    none count small (sym (fronts octets (length_octets count) (rest ++ further) behind (size ∙ sym sizes) joined).0)

-- the first digit of a long length isn't zero
pub zero_first : (first more : ℕ) (tail : List ℕ) → IsFollowing first more → length (0 ∷ tail) < more → IsWanting AreLengthOctets (first ∷ 0 ∷ tail) InvalidData
zero_first first more tail follows short further bytes behind (count, small, is) e =
    let parts = length_begins count first (0 ∷ tail) behind further (e ∙ ap (λ l. l ++ behind) is) in
    let size = follows.1 count parts.0 parts.1 in
    elim (cases_lt first 128) [
      | inl below ↦ (let none = follows.1 first [] (length_octets-short first below) in let none : 0 ≡ more = none in absurd (omega arith))
      | inr above ↦
          (let long = following_digits count first parts.0 above parts.1 in
          let positive : 0 < get_or (digits count) 0 0 = rw (digits-is count) (first_digits_of 256 count (omega arith) (omega arith)) in
          let head = zero_head parts.0 (0 ∷ (tail ++ further)) behind (omega arith) parts.2 in
          let is_zero : get_or (digits count) 0 0 ≡ 0 = ap (λ l. get_or l 0 0) long.1 ∙ head in
          absurd (omega arith))
    ] where
      zero_head : (a b c : List ℕ) → 0 < length a → b ≡ a ++ c → get_or a 0 0 ≡ get_or b 0 0
      zero_head [] b c some same = absurd (omega arith)
      zero_head (x ∷ a) b c some same = sym (ap (λ l. get_or l 0 0) same)

-- the first of several length octets counts those that follow
pub following_is : (first more : ℕ) → first < 256 → IsFollowing first more → (first ≡ 128 → ⊥) → 1 ≤ more → first ≡ 128 + more
following_is first more byte follows definite some =
    elim (cases_lt first 128) [
      | inl below ↦ (let none : 0 ≡ more = follows.1 first [] (length_octets-short first below) in absurd (omega arith))
      | inr above ↦ elim (cases_lt 128 first) [
        | inr low ↦ absurd (definite (omega arith))
        | inl high ↦
            (let zeros : List ℕ = replicate (first - 129) 0 in
            let count : length zeros ≡ first - 129 = length-replicate {A = ℕ} (first - 129) 0 in
            let octets = long_octets 128 zeros (omega arith) (omega arith, all_zero (first - 129)) (large_first 128 zeros (omega arith)) in
            let head : 128 + length (128 ∷ zeros) ≡ first = omega arith in
            let size : length (128 ∷ zeros) ≡ more = follows.1 _ (128 ∷ zeros) (octets ∙ ap (λ o. o ∷ 128 ∷ zeros) head) in
            omega arith)
      ]
    ]

-- an input that ends inside the digits of a length
pub short_digits : (first more : ℕ) (tail : List ℕ) → first ≡ 128 + more → more ≤ 8 → length tail < more → AllBelowBase 256 tail
    → ((ds : List ℕ) → tail ≡ 0 ∷ ds → ⊥) → IsWanting AreLengthOctets (first ∷ tail) TruncatedData
short_digits first more [] counts few short below nonzero =
    let zeros : List ℕ = replicate (more - 1) 0 in
    let count : length zeros ≡ more - 1 = length-replicate {A = ℕ} (more - 1) 0 in
    let head : 128 + length (128 ∷ zeros) ≡ first = omega arith in
    let octets = long_length 128 zeros (omega arith) (omega arith, all_zero (more - 1)) (omega arith) (large_first 128 zeros (omega arith)) in
    (128 ∷ zeros, subst (λ (o : ℕ). AreLengthOctets (o ∷ 128 ∷ zeros)) head octets, omega arith)
short_digits first more (zero ∷ ds) counts few short below nonzero = absurd (nonzero ds refl)
short_digits first more (suc d ∷ ds) counts few short below nonzero =
    let room : ℕ = more - length (suc d ∷ ds) in
    let zeros : List ℕ = replicate room 0 in
    let count : length zeros ≡ room = length-replicate room 0 in
    let sizes : length (ds ++ zeros) ≡ length ds + length zeros = length-append ds zeros in
    let head : 128 + length (suc d ∷ (ds ++ zeros)) ≡ first = omega arith in
    let octets = long_length (suc d) (ds ++ zeros) (omega arith) (below.0, all_joined ds zeros below.1 (all_zero room)) (omega arith) (large_two (suc d) (ds ++ zeros) (omega arith) (omega arith)) in
    (zeros, subst (λ (o : ℕ). AreLengthOctets (o ∷ suc d ∷ (ds ++ zeros))) head octets, omega arith)

-- a front of length octets that are none yet
pub no_octet : IsWanting AreLengthOctets [] TruncatedData
no_octet = (0 ∷ [], (0, omega arith, sym (length_octets-short 0 (omega arith))), omega arith)

-- the header's and the content's octets are the element's
pub element_joined : (first count : ℕ) (content rest : List ℕ) → length content ≡ count → first ∷ (length_octets count ++ (content ++ rest)) ≡ element first content ++ rest
element_joined first count content rest size =
    ap (λ n. first ∷ (length_octets n ++ (content ++ rest))) (sym size) ∙ sym (element-parts first content rest)

-- nothing has no first octet
pub nothing : (input : List ℕ) → length input ≡ 0 → input ≡ []
nothing [] none = refl
nothing (x ∷ input) none = absurd (omega arith)

short_case : (first more : ℕ) (tail : List ℕ) (fault : Asn1DerError) → first ≡ 128 + more → IsFollowing first more → length tail < more → AllBelowBase 256 tail
    → ((ds : List ℕ) → tail ≡ 0 ∷ ds → fault ≡ InvalidData) → (((ds : List ℕ) → tail ≡ 0 ∷ ds → ⊥) → fault ≡ TruncatedData)
    → IsWanting AreLengthOctets (first ∷ tail) fault
short_case first more (zero ∷ ds) fault counts follows short below zero_fault other_fault =
    rw (zero_fault ds refl) (zero_first first more ds follows short)
short_case first more [] fault counts follows short below zero_fault other_fault =
    let nonzero : (ds : List ℕ) → [] ≡ 0 ∷ ds → ⊥ = λ ds e. cc in
    rw (other_fault nonzero) (short_digits first more [] counts follows.0 short below nonzero)
short_case first more (suc d ∷ ds) fault counts follows short below zero_fault other_fault =
    let nonzero : (es : List ℕ) → suc d ∷ ds ≡ 0 ∷ es → ⊥ = λ es e. (let head : suc d ≡ 0 = cc in omega arith) in
    rw (other_fault nonzero) (short_digits first more (suc d ∷ ds) counts follows.0 short below nonzero)

-- an input that ends inside a length of several octets, with the fault that `fault_of_digits` gives
pub short_length : (input : List ℕ) (first more : ℕ) (tail : List ℕ) (fault : Asn1DerError) → input ≡ first ∷ tail → ((i : ℕ) → get_or input i 0 < 256)
    → IsFollowing first more → (first ≡ 128 → ⊥) → length tail < more → ((ds : List ℕ) → tail ≡ 0 ∷ ds → fault ≡ InvalidData)
    → (((ds : List ℕ) → tail ≡ 0 ∷ ds → ⊥) → fault ≡ TruncatedData) → IsWanting AreLengthOctets input fault
short_length input first more tail fault is bytes follows definite short zero_fault other_fault =
    let below : AllBelowBase 256 (first ∷ tail) = all_bytes (first ∷ tail) (subst (λ (l : List ℕ). (i : ℕ) → get_or l i 0 < 256) is bytes) in
    let counts : first ≡ 128 + more = following_is first more below.0 follows definite (omega arith) in
    rw is (short_case first more tail fault counts follows short below.1 zero_fault other_fault)
