-- INTEGER, of the numbers that aren't negative (X.690, section 8.3).
use Rattle.std.specs.Prelude.{◌≡◌, ℕ, ◌<◌, ◌≤◌, ◌&&◌, ◌==◌, nat_lt, if◌then◌else◌, List, [], ◌∷◌, refl}
use Rattle.asn1_der.specs.Length.{digits, digits_within}
use Rattle.asn1_der.specs.Tree.{Tree, leaf}
use Rattle.asn1_der.specs.declared.error.Asn1DerError.{Asn1DerError}
use Rattle.asn1_der.specs.declared.error.Asn1DerError.TheVariants.{TruncatedData, InvalidData, UnsupportedValue}

-- digits behind a zero octet where there are none, or where the first would say that the number is negative
abbrev pub with_sign : List ℕ → List ℕ
with_sign [] = 0 ∷ []
with_sign (first ∷ rest) = if nat_lt first 128 then first ∷ rest else 0 ∷ first ∷ rest

-- the content octets: the fewest that are the number's two's complement (8.3.2 and 8.3.3)
unfoldable pub unsigned_content : ℕ → List ℕ
unsigned_content number = with_sign (digits number)

-- the tree of an INTEGER of a type that holds the numbers below the bound, under the identifier octet
abbrev pub unsigned_tree : ℕ → ℕ → ℕ → Tree
unsigned_tree bound octet number = leaf (nat_lt number bound) octet (unsigned_content number)

-- there is an octet; bit 8 of the first says that the number isn't negative; and the first nine bits are not
-- all zero (8.3.2)
abbrev pub IsUnsigned : List ℕ → Type 0
IsUnsigned [] = ⊥
IsUnsigned (octet ∷ []) = octet < 128
IsUnsigned (first ∷ second ∷ octets) = (first < 128) × (first ≡ 0 → 128 ≤ second)

-- why octets are refused: there is none, or a needless zero octet, or the number is negative or too great
abbrev pub unsigned_fault : List ℕ → Asn1DerError
unsigned_fault [] = TruncatedData
unsigned_fault (octet ∷ []) = UnsupportedValue
unsigned_fault (first ∷ second ∷ octets) = if (first == 0) && nat_lt second 128 then InvalidData else UnsupportedValue

unsigned_content_0 : unsigned_content 0 ≡ 0 ∷ []
unfolding unsigned_content digits digits_within
unsigned_content_0 = refl

unsigned_content_127 : unsigned_content 127 ≡ 127 ∷ []
unfolding unsigned_content digits digits_within
unsigned_content_127 = refl

unsigned_content_128 : unsigned_content 128 ≡ 0 ∷ 128 ∷ []
unfolding unsigned_content digits digits_within
unsigned_content_128 = refl

unsigned_content_256 : unsigned_content 256 ≡ 1 ∷ 0 ∷ []
unfolding unsigned_content digits digits_within
unsigned_content_256 = refl
