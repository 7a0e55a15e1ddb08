-- Identifier, length and content octets (X.690, sections 8.1.2 to 8.1.4; the definite, minimal length of 10.1).
use Rattle.std.specs.Prelude.{◌≡◌, ℕ, zero, suc, ◌+◌, ◌/◌, ◌%◌, List, [], ◌∷◌, ◌++◌, length, nat_lt, if◌then◌else◌, refl}

-- the digits of a number to the base 256, of which the first isn't zero; `steps` is at least the number
unfoldable pub digits_within : ℕ → ℕ → List ℕ
digits_within zero number = []
digits_within (suc steps) zero = []
digits_within (suc steps) (suc number) = digits_within steps (suc number / 256) ++ (suc number % 256) ∷ []

-- the digits of a number to the base 256, of which the first isn't zero
unfoldable pub digits : ℕ → List ℕ
digits number = digits_within number number

-- Length octets are definite and minimal. A length below 128 is one octet. Another is the count of its digits, with bit 8 set, and the
-- digits (X.690, sections 8.1.3 and 10.1). Test: `refused_lengths` of `forms.rt`.
unfoldable pub length_octets : ℕ → List ℕ
length_octets number = if nat_lt number 128 then number ∷ [] else (128 + length (digits number)) ∷ digits number

-- an identifier octet, and a content behind its length
unfoldable pub element : ℕ → List ℕ → List ℕ
element first content = first ∷ (length_octets (length content) ++ content)

-- X.690, section 8.1.3.5: a length of 201 is `81 C9`
length_octets_201 : length_octets 201 ≡ 129 ∷ 201 ∷ []
unfolding length_octets digits digits_within
length_octets_201 = refl

length_octets_38 : length_octets 38 ≡ 38 ∷ []
unfolding length_octets
length_octets_38 = refl

length_octets_290 : length_octets 290 ≡ 130 ∷ 1 ∷ 34 ∷ []
unfolding length_octets digits digits_within
length_octets_290 = refl
