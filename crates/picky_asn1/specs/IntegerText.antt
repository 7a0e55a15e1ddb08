-- The text of a whole number.
use Rattle.std.specs.Prelude.{◌≡◌, ℕ, ◌^◌, ◌/◌, ◌%◌, Bool, true, nat_lt, if◌then◌else◌, List, [], ◌∷◌, ◌++◌, codes, ℤ, pos, negsuc, refl}
use Rattle.std.specs.List.{flat_map}
use Rattle.std.specs.Fmt.{digit_glyph, digits, signed_decimal}
use Rattle.picky_asn1.specs.Integer.{integer_content}

-- an octet as two hexadecimal digits, with capital letters
abbrev pub hexadecimal : ℕ → List ℕ
hexadecimal octet = digit_glyph true (octet / 16) ∷ digit_glyph true (octet % 16) ∷ []

-- whether 64 bits hold the number with its sign
abbrev pub is_i64 : ℤ → Bool
is_i64 (pos n) = nat_lt n (2 ^ 63)
is_i64 (negsuc n) = nat_lt n (2 ^ 63)

-- in decimal where 64 bits hold the number with its sign, else `0x` and its content octets in hexadecimal
abbrev pub integer_text : ℤ → List ℕ
integer_text z = if is_i64 z then signed_decimal z else codes "0x" ++ flat_map hexadecimal (integer_content z)

pub integer_text-negative-128 : integer_text (negsuc 127) ≡ codes "-128"
unfolding digits
integer_text-negative-128 = refl

pub hexadecimal-211 : flat_map hexadecimal (0 ∷ 211 ∷ []) ≡ codes "00D3"
hexadecimal-211 = refl
