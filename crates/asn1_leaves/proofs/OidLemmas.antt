-- An object identifier has one content, and each content is one object identifier's.
use Rattle.std.proofs.Common.{◌≡◌, ◌≢◌, ℕ, ◌-◌, ◌*◌, ◌/◌, ◌^◌, ◌<◌, ◌≤◌, ◌&&◌, List, [], ◌∷◌, ◌++◌, length, get_or, suc, take, drop, min, Option, None, IsTrue, refl, sym, ap, ◌∙◌, arith}
use Rattle.std.specs.List.{flat_map, list_all}
use Rattle.std.proofs.lemmas.List.{take_all}
use Rattle.std.proofs.lemmas.Bool.{and_from, and_parts, lt-ltb}
use Rattle.std.proofs.lemmas.Bool.Decides.{nat_tests}
use Rattle.asn1_leaves.specs.ObjectIdentifier.{joined, parted, may_begin, is_u64, IsObjectIdentifier, subidentifier, oid_content, numbers_after, AreNumbers, oid_arcs, IsContent, arcs_left}
use Rattle.asn1_leaves.proofs.NumberLemmas.{numbers-subidentifier, numbers-content, length-subidentifier, no_numbers}

-- the first arc is distinguished by the number
first-joined : (first second : ℕ) → IsTrue (may_begin first second) → min (joined first second / 40) 2 ≡ first
first-joined first second h = grind (arith, nat_tests)

parted-joined : (first second : ℕ) (arcs : List ℕ) → IsTrue (may_begin first second) → parted (joined first second ∷ arcs) ≡ first ∷ second ∷ arcs
parted-joined first second arcs h =
    let one = first-joined first second h in
    let two : joined first second - 40 * min (joined first second / 40) 2 ≡ second = omega (arith, one) in
    λ i. one i ∷ two i ∷ arcs

-- and each number tells arcs
joined-parted : (number : ℕ) → joined (min (number / 40) 2) (number - 40 * min (number / 40) 2) ≡ number
joined-parted number = grind (arith, nat_tests)

may_begin-parted : (number : ℕ) → IsTrue (may_begin (min (number / 40) 2) (number - 40 * min (number / 40) 2))
may_begin-parted number = grind (arith, nat_tests)

-- what is written is read
pub oid_arcs-content : (arcs : List ℕ) → IsObjectIdentifier arcs → oid_arcs (oid_content arcs) ≡ arcs
unfolding oid_arcs oid_content
oid_arcs-content [] valid = absurd (let never : ⊥ = cc in never)
oid_arcs-content (first ∷ []) valid = absurd (let never : ⊥ = cc in never)
oid_arcs-content (first ∷ second ∷ arcs) valid =
    ap parted (numbers-subidentifier (joined first second) (flat_map subidentifier arcs) ∙ ap (λ ns. joined first second ∷ ns) (numbers-content arcs))
    ∙ parted-joined first second arcs (and_parts (may_begin first second) (is_u64 (joined first second) && list_all is_u64 arcs) valid).0

-- so no two have one content
pub oid_content-injective : (v w : List ℕ) → IsObjectIdentifier v → IsObjectIdentifier w → oid_content v ≡ oid_content w → v ≡ w
oid_content-injective v w left right e = sym (oid_arcs-content v left) ∙ ap oid_arcs e ∙ oid_arcs-content w right

-- a content is numbers, and there is one at least
pub numbers-of_content : (arcs : List ℕ) → IsObjectIdentifier arcs → AreNumbers (oid_content arcs) × (0 < length (oid_content arcs))
unfolding oid_content
numbers-of_content [] valid = absurd (let never : ⊥ = cc in never)
numbers-of_content (first ∷ []) valid = absurd (let never : ⊥ = cc in never)
numbers-of_content (first ∷ second ∷ arcs) valid =
    let parts = and_parts (may_begin first second) (is_u64 (joined first second) && list_all is_u64 arcs) valid in
    ((joined first second ∷ arcs, parts.1, refl), omega (arith, length-subidentifier (joined first second) (flat_map subidentifier arcs) _ refl))

-- and such numbers are the content of an object identifier
content-parted : (number : ℕ) (numbers : List ℕ) → oid_content (parted (number ∷ numbers)) ≡ flat_map subidentifier (number ∷ numbers)
unfolding oid_content
content-parted number numbers = ap (λ n. subidentifier n ++ flat_map subidentifier numbers) (joined-parted number)

valid-parted : (number : ℕ) (numbers : List ℕ) → IsTrue (list_all is_u64 (number ∷ numbers)) → IsObjectIdentifier (parted (number ∷ numbers))
valid-parted number numbers fit =
    and_from (may_begin (min (number / 40) 2) (number - 40 * min (number / 40) 2)) (is_u64 (joined (min (number / 40) 2) (number - 40 * min (number / 40) 2)) && list_all is_u64 numbers) (may_begin-parted number)
    (ap (λ n. is_u64 n && list_all is_u64 numbers) (joined-parted number) ∙ fit)

pub content-of_numbers : (octets : List ℕ) → AreNumbers octets → 0 < length octets → IsContent octets
unfolding oid_arcs
content-of_numbers octets ([], fit, is) some = let none = ap length is in absurd (omega arith)
content-of_numbers octets (number ∷ numbers, fit, is) some =
    let arcs : oid_arcs octets ≡ parted (number ∷ numbers) = ap oid_arcs (sym is) ∙ ap parted (numbers-content (number ∷ numbers)) in
    (rw arcs (valid-parted number numbers fit), ap oid_content arcs ∙ content-parted number numbers ∙ is)

-- the numbers of a content
pub numbers-content_is : (octets : List ℕ) → IsContent octets → AreNumbers octets × (0 < length octets)
numbers-content_is octets valid =
    let numbers = numbers-of_content (oid_arcs octets) valid.0 in
    (rw valid.1 at numbers.0, omega (arith, ap length valid.1, numbers.1))

-- what is left of numbers behind the first
pub arcs-behind : (octets rest : List ℕ) (number first : ℕ) → subidentifier number ++ rest ≡ octets → first ≡ min (number / 40) 2 → first ∷ (number - 40 * first) ∷ numbers_after 0 rest ≡ oid_arcs octets
unfolding oid_arcs
arcs-behind octets rest number first is e =
    (λ i. e i ∷ (number - 40 * e i) ∷ numbers_after 0 rest) ∙ ap parted (sym (numbers-subidentifier number rest)) ∙ ap oid_arcs is

-- where no number begins what is left, nothing is left
pub nothing_left : (octets : List ℕ) → AreNumbers octets → ((n : ℕ) (rest : List ℕ) → n < 2 ^ 64 → subidentifier n ++ rest ≢ octets) → octets ≡ []
nothing_left [] numbers never = refl
nothing_left (octet ∷ octets) numbers never = absurd (no_numbers (octet ∷ octets) never (omega arith) numbers)

pub left-none : (first second : Option ℕ) (rest : List ℕ) → first ≡ None → second ≡ None → arcs_left first second rest ≡ numbers_after 0 rest
left-none first second rest e f = λ i. arcs_left (e i) (f i) rest

-- numbers that are held in 64 bits
pub all_u64 : (numbers : List ℕ) → ((i : ℕ) → get_or numbers i 0 < 2 ^ 64) → IsTrue (list_all is_u64 numbers)
all_u64 [] fit = refl
all_u64 (n ∷ numbers) fit =
    and_from (is_u64 n) (list_all is_u64 numbers) (lt-ltb n (2 ^ 64) (fit 0)) (all_u64 numbers (λ i. fit (suc i)))

-- the content that is made of arcs
content-of_arcs : (first second : ℕ) (arcs octets : List ℕ) → IsObjectIdentifier (first ∷ second ∷ arcs) → octets ≡ subidentifier (joined first second) ++ flat_map subidentifier arcs → IsContent octets × (oid_arcs octets ≡ first ∷ second ∷ arcs)
unfolding oid_content
content-of_arcs first second arcs octets valid e =
    let same : oid_arcs octets ≡ first ∷ second ∷ arcs = ap oid_arcs e ∙ oid_arcs-content (first ∷ second ∷ arcs) valid in
    ((rw same valid, ap oid_content same ∙ sym e), same)

-- what is made of two arcs and of those behind them
pub made_of_arcs : (arcs octets : List ℕ) (number : ℕ) → ((i : ℕ) → get_or arcs i 0 < 2 ^ 64) → 2 ≤ length arcs → IsTrue (may_begin (get_or arcs 0 0) (get_or arcs 1 0) && is_u64 (joined (get_or arcs 0 0) (get_or arcs 1 0))) → number ≡ joined (get_or arcs 0 0) (get_or arcs 1 0) → octets ≡ subidentifier number ++ flat_map subidentifier (take (length arcs - 2) (drop 2 arcs)) → IsContent octets × IsObjectIdentifier arcs × (oid_arcs octets ≡ arcs)
made_of_arcs [] octets number fits two begins number_is e = absurd (omega arith)
made_of_arcs (first ∷ []) octets number fits two begins number_is e = absurd (omega arith)
made_of_arcs (first ∷ second ∷ arcs) octets number fits two begins number_is e =
    let parts = and_parts (may_begin first second) (is_u64 (joined first second)) begins in
    let rest = and_from (is_u64 (joined first second)) (list_all is_u64 arcs) parts.1 (all_u64 arcs (λ i. fits (suc (suc i)))) in
    let valid : IsObjectIdentifier (first ∷ second ∷ arcs) = and_from (may_begin first second) (is_u64 (joined first second) && list_all is_u64 arcs) parts.0 rest in
    let all : take (length (first ∷ second ∷ arcs) - 2) arcs ≡ arcs = take_all (length (first ∷ second ∷ arcs) - 2) arcs (omega arith) in
    let made = content-of_arcs first second arcs octets valid (e ∙ (λ i. subidentifier (number_is i) ++ flat_map subidentifier (all i))) in
    (made.0, valid, made.1)

-- where the first two may not begin, there is none
pub none_of_arcs : (arcs : List ℕ) → ¬ IsTrue (may_begin (get_or arcs 0 0) (get_or arcs 1 0) && is_u64 (joined (get_or arcs 0 0) (get_or arcs 1 0))) → ¬ IsObjectIdentifier arcs
none_of_arcs [] never valid = let no : ⊥ = cc in no
none_of_arcs (first ∷ []) never valid = let no : ⊥ = cc in no
none_of_arcs (first ∷ second ∷ arcs) never valid =
    let parts = and_parts (may_begin first second) (is_u64 (joined first second) && list_all is_u64 arcs) valid in
    never (and_from (may_begin first second) (is_u64 (joined first second)) parts.0 (and_parts (is_u64 (joined first second)) (list_all is_u64 arcs) parts.1).0)
