-- A character as a UTF8String (X.690, section 8.23; RFC 3629).
use Rattle.std.specs.Prelude.{◌≡◌, ℕ, Bool, List, [], ◌∷◌, refl}
use Rattle.std.specs.Str.{all_scalars}
use Rattle.std.specs.Char.{encode_utf8}

-- the number is that of a character: at most 0x10FFFF, and no surrogate
abbrev pub is_character : ℕ → Bool
is_character number = all_scalars (number ∷ [])

-- the octets of the character in UTF-8
abbrev pub character_content : ℕ → List ℕ
character_content character = encode_utf8 character

character_content_A : character_content 0x41 ≡ 0x41 ∷ []
unfolding encode_utf8
character_content_A = refl

character_content_e_acute : character_content 0xE9 ≡ 0xC3 ∷ 0xA9 ∷ []
unfolding encode_utf8
character_content_e_acute = refl
