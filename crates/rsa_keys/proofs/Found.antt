-- The number whose encoding some bytes are is found.
use Rattle.std.proofs.Common.{◌≡◌, ℕ, pos, Bool, true, false, cond, eqb, List, [], ◌∷◌, ◌++◌, Option, None, Some, refl, sym, ap, ◌∙◌, subst, length, arith}
use Rattle.std.proofs.lemmas.Bool.{eqb-true}
use Rattle.std.proofs.lemmas.Int.Digits.{number_digits_of}
use Rattle.std.proofs.lemmas.Slice.Eq.{bytes_eq-Decides}
use Rattle.std.specs.Int.Digits.{digits_of}
use Rattle.std.specs.Str.{bytes_eq}
use Rattle.asn1_der.specs.Length.{element, length_octets}
use Rattle.asn1_der.specs.Octets.{bit_string_octet, integer_octet, sequence_octet}
use Rattle.asn1_der.proofs.Elements.{element-content, element-split}
use Rattle.picky_asn1.specs.BitString.{Bits}
use Rattle.picky_asn1.specs.Integer.{integer_content, natural_octets}
use Rattle.picky_asn1.specs.IntegerLaws.{integer_content-injective, number-with_sign, sign-with_sign}
use Rattle.modular_arithmetic.specs.Naturals.{os2ip}
use Rattle.public_key_cryptography.specs.declared.group.Group.{Group}
use Rattle.rsa_keys.specs.Algorithms.{algorithm_of, integer_bytes}
use Rattle.rsa_keys.specs.Numbers.{bits_number, number_among, number_in, value_number}
use Rattle.rsa_keys.specs.Values.{key_content, value_bytes}
use Rattle.rsa_keys.proofs.Groups.{same_value}

some_one : (a b : ℕ) → Some a ≡ Some b → a ≡ b
some_one a b e = cc

none_some : (b : ℕ) → None ≡ Some b → ⊥
none_some b e = cc

no_some : (found : Option ℕ) → ((n : ℕ) → found ≡ Some n → ⊥) → found ≡ None
no_some None none = refl
no_some (Some n) none = absurd (none n refl)

step-is : (encoding : ℕ → List ℕ) (bytes : List ℕ) (m n : ℕ) (b : Bool) (rest : Option ℕ) → b ≡ bytes_eq bytes (encoding m) → (rest ≡ Some n → bytes ≡ encoding n) → cond b (Some m) rest ≡ Some n → bytes ≡ encoding n
step-is encoding bytes m n true rest is further e = (bytes_eq-Decides bytes (encoding m)).0 (sym is) ∙ ap encoding (some_one m n e)
step-is encoding bytes m n false rest is further e = further e

-- what is found is that number
pub number-is : (encoding : ℕ → List ℕ) (bytes digits : List ℕ) (n : ℕ) → number_among encoding bytes digits ≡ Some n → bytes ≡ encoding n
unfolding number_among
number-is encoding bytes [] n e = absurd (none_some n e)
number-is encoding bytes (digit ∷ digits) n e =
    step-is encoding bytes (os2ip (digit ∷ digits)) n (bytes_eq bytes (encoding (os2ip (digit ∷ digits)))) (number_among encoding bytes digits) refl (number-is encoding bytes digits n) e

-- where there is no such number, none is found
pub number-none : (encoding : ℕ → List ℕ) (bytes digits : List ℕ) → ((n : ℕ) → bytes ≡ encoding n → ⊥) → number_among encoding bytes digits ≡ None
number-none encoding bytes digits none = no_some (number_among encoding bytes digits) (λ n e. none n (number-is encoding bytes digits n e))

-- the bytes are the number's encoding, and no other number's
record IsOnly (encoding : ℕ → List ℕ) (bytes : List ℕ) (n : ℕ) : Type 0 where
  pub is : bytes ≡ encoding n
  pub only : (m : ℕ) → encoding m ≡ encoding n → m ≡ n

step-found : (encoding : ℕ → List ℕ) (bytes : List ℕ) (m n : ℕ) (b : Bool) (rest : Option ℕ) → b ≡ bytes_eq bytes (encoding m) → IsOnly encoding bytes n → rest ≡ Some n → cond b (Some m) rest ≡ Some n
step-found encoding bytes m n true rest is known e = ap (λ k. Some k) (known.only m (sym ((bytes_eq-Decides bytes (encoding m)).0 (sym is)) ∙ known.is))
step-found encoding bytes m n false rest is known e = e

-- the number's digits
here : (encoding : ℕ → List ℕ) (bytes : List ℕ) (n digit : ℕ) (digits : List ℕ) → IsOnly encoding bytes n → os2ip (digit ∷ digits) ≡ n → number_among encoding bytes (digit ∷ digits) ≡ Some n
unfolding number_among
here encoding bytes n digit digits known number =
    ap (λ b. cond b (Some (os2ip (digit ∷ digits))) (number_among encoding bytes digits)) ((bytes_eq-Decides bytes (encoding (os2ip (digit ∷ digits)))).1 (known.is ∙ ap encoding (sym number)))
    ∙ ap (λ k. Some k) number

-- and further octets in front
skip : (encoding : ℕ → List ℕ) (bytes : List ℕ) (n : ℕ) (front digits : List ℕ) → IsOnly encoding bytes n → number_among encoding bytes digits ≡ Some n → number_among encoding bytes (front ++ digits) ≡ Some n
unfolding number_among
skip encoding bytes n [] digits known e = e
skip encoding bytes n (octet ∷ front) digits known e =
    step-found encoding bytes (os2ip (octet ∷ (front ++ digits))) n (bytes_eq bytes (encoding (os2ip (octet ∷ (front ++ digits))))) (number_among encoding bytes (front ++ digits)) refl known
    (skip encoding bytes n front digits known e)

skip-element : (encoding : ℕ → List ℕ) (bytes : List ℕ) (n first : ℕ) (content : List ℕ) → IsOnly encoding bytes n → number_among encoding bytes content ≡ Some n → number_among encoding bytes (element first content) ≡ Some n
skip-element encoding bytes n first content known e =
    subst (λ octets. number_among encoding bytes octets ≡ Some n) (sym (element-split first content)) (skip encoding bytes n (first ∷ length_octets (length content)) content known e)

-- an INTEGER ends with the number's digits
in_integer : (encoding : ℕ → List ℕ) (bytes : List ℕ) (n : ℕ) → IsOnly encoding bytes n → number_among encoding bytes (integer_bytes (pos n)) ≡ Some n
unfolding integer_content natural_octets
in_integer encoding bytes n known =
    let sign = sign-with_sign (digits_of 256 n) in
    let number : os2ip (sign.first ∷ sign.rest) ≡ n = ap (λ octets. os2ip octets) (sym sign.is) ∙ number-with_sign (digits_of 256 n) ∙ number_digits_of 256 n (omega arith) in
    skip-element encoding bytes n integer_octet (natural_octets n) known
    (subst (λ octets. number_among encoding bytes octets ≡ Some n) (sym sign.is) (here encoding bytes n sign.first sign.rest known number))

one_pos : (m n : ℕ) → pos m ≡ pos n → m ≡ n
one_pos m n e = cc

-- the number of a SubjectPublicKeyInfo
pub value-number : (group : Group) (bytes : List ℕ) (n : ℕ) → bytes ≡ value_bytes group (pos n) → value_number group bytes ≡ Some n
value-number group bytes n is =
    let encoding : ℕ → List ℕ = λ k. value_bytes group (pos k) in
    let known : IsOnly encoding bytes n = record { is = is; only = λ m e. one_pos m n (same_value group group (pos m) (pos n) e).1 } in
    subst (λ octets. number_among encoding bytes octets ≡ Some n) (sym is)
    (skip-element encoding bytes n sequence_octet (key_content (algorithm_of group) (pos n)) known
    (skip encoding bytes n (algorithm_of group) _ known
    (skip-element encoding bytes n bit_string_octet (0 ∷ integer_bytes (pos n)) known
    (skip encoding bytes n (0 ∷ []) (integer_bytes (pos n)) known (in_integer encoding bytes n known)))))

-- the number of a DHPublicKey
pub bits-number : (bits : Bits) (n : ℕ) → bits ≡ record { octets = integer_bytes (pos n); unused = 0 } → bits_number bits ≡ Some n
bits-number bits n is =
    let encoding : ℕ → List ℕ = λ k. integer_bytes (pos k) in
    let octets : List ℕ = integer_bytes (pos n) in
    let known : IsOnly encoding octets n = record { is = refl; only = λ m e. one_pos m n (integer_content-injective (pos m) (pos n) (element-content integer_octet _ _ e)) } in
    ap (λ b. bits_number b) is ∙ in_integer encoding octets n known

unused_or : (bits : Bits) (found : Option ℕ) (b : Bool) → (b ≡ true → found ≡ None) → cond b found None ≡ None
unused_or bits found true h = h refl
unused_or bits found false h = refl

-- where there is none, none is found
pub bits-none : (bits : Bits) → ((n : ℕ) → bits ≡ record { octets = integer_bytes (pos n); unused = 0 } → ⊥) → bits_number bits ≡ None
bits-none bits none =
    unused_or bits (number_in (λ n. integer_bytes (pos n)) bits.octets) (eqb bits.unused 0)
    (λ unused. number-none (λ n. integer_bytes (pos n)) bits.octets bits.octets (λ n e. none n (λ i. record { octets = e i; unused = eqb-true bits.unused 0 unused i })))
