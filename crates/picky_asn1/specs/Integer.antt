-- INTEGER: the fewest octets that are the number's two's complement (X.690, section 8.3).
use Rattle.std.specs.Prelude.{◌≡◌, ℕ, ◌-◌, Bool, true, false, not, ◌&&◌, ◌||◌, ◌==◌, nat_lt, nat_le, if◌then◌else◌, List, [], ◌∷◌, map, slice_index, slice_index_or, ℤ, pos, negsuc, IsTrue, refl}
use Rattle.std.specs.Int.Digits.{digits_of, number_from_digits}

-- an octet with each bit turned
abbrev pub complement : ℕ → ℕ
complement octet = 255 - octet

-- digits behind a zero octet where there are none, or where the first would say that the number is negative
abbrev pub with_sign : List ℕ → List ℕ
with_sign digits = if nat_lt (slice_index_or digits 0 128) 128 then digits else 0 ∷ digits

-- the digits of a number to the base 256, with its sign
unfoldable pub natural_octets : ℕ → List ℕ
natural_octets n = with_sign (digits_of 256 n)

-- the content octets; those of -(n + 1) are the complement of those of n
unfoldable pub integer_content : ℤ → List ℕ
integer_content (pos n) = natural_octets n
integer_content (negsuc n) = map complement (natural_octets n)

-- the digits to the base 256 of a number that isn't negative, and the octet 0 of zero; of a negative number its content
abbrev pub unsigned_octets : ℤ → List ℕ
unsigned_octets (pos n) = if n == 0 then 0 ∷ [] else digits_of 256 n
unsigned_octets (negsuc n) = integer_content (negsuc n)

-- the number that octets are the two's complement of, the first of which has its sign
unfoldable pub integer_value : List ℕ → ℤ
integer_value octets =
    if nat_lt (slice_index octets 0) 128 then pos (number_from_digits 256 octets)
    else negsuc (number_from_digits 256 (map complement octets))

-- An INTEGER has the fewest octets: at least one, and the first nine bits are not all zero and not all one (X.690, section 8.3). Test:
-- `no_integers` of `leaves.rt`.
abbrev pub is_integer : List ℕ → Bool
is_integer [] = false
is_integer (octet ∷ []) = true
is_integer (first ∷ second ∷ octets) =
    not (((first == 0) && nat_lt second 128) || ((first == 255) && nat_le 128 second))

-- the octets are the content of an INTEGER (X.690, section 8.3)
abbrev pub IsInteger : List ℕ → Type 0
IsInteger octets = IsTrue (is_integer octets)

pub integer_content-127 : integer_content (pos 127) ≡ 127 ∷ []
unfolding integer_content natural_octets
integer_content-127 = refl

pub integer_content-128 : integer_content (pos 128) ≡ 0 ∷ 128 ∷ []
unfolding integer_content natural_octets
integer_content-128 = refl

pub integer_content-negative-1 : integer_content (negsuc 0) ≡ 255 ∷ []
unfolding integer_content natural_octets
integer_content-negative-1 = refl

pub integer_content-negative-128 : integer_content (negsuc 127) ≡ 128 ∷ []
unfolding integer_content natural_octets
integer_content-negative-128 = refl

pub integer_content-negative-129 : integer_content (negsuc 128) ≡ 255 ∷ 127 ∷ []
unfolding integer_content natural_octets
integer_content-negative-129 = refl

pub integer_content-zero : integer_content (pos 0) ≡ 0 ∷ []
unfolding integer_content natural_octets
integer_content-zero = refl

pub unsigned_octets-zero : unsigned_octets (pos 0) ≡ 0 ∷ []
unsigned_octets-zero = refl

pub unsigned_octets-128 : unsigned_octets (pos 128) ≡ 128 ∷ []
unsigned_octets-128 = refl
