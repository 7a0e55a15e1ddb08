-- The characters of a BMPString, one by one.
use Rattle.std.proofs.Common.{◌≡◌, ℕ, false, cond, List, [], ◌∷◌, ◌++◌, map, refl, sym, ap, ◌∙◌}
use Rattle.std.specs.Prelude.{◌&&◌, IsTrue, Some}
use Rattle.std.specs.List.{flat_map}
use Rattle.std.specs.Option.{unwrap_or}
use Rattle.std.specs.Char.{encode_utf8}
use Rattle.std.specs.Str.{encode_utf8_all}
use Rattle.std.specs.Char.Utf16.{is_high_surrogate, is_low_surrogate, surrogate_pair_char, lone_unit_char, utf16_chars, utf16_lossy_chars}
use Rattle.x509_fields.specs.DirectoryStrings.{utf16_units, bmp_characters}

-- a text is its characters, one after another
pub text_of_characters : (characters : List ℕ) → flat_map encode_utf8 characters ≡ encode_utf8_all characters
text_of_characters [] = refl
text_of_characters (character ∷ characters) = ap (λ text. encode_utf8 character ++ text) (text_of_characters characters)

pub no_characters : (octets : List ℕ) → utf16_units octets ≡ [] → bmp_characters octets ≡ []
unfolding utf16_chars
no_characters octets none = ap utf16_lossy_chars none

-- a pair of surrogates comes first
pub pair_first : (octets rest further : List ℕ) (first second : ℕ) → utf16_units octets ≡ first ∷ utf16_units rest → utf16_units rest ≡ second ∷ utf16_units further → IsTrue (is_high_surrogate first && is_low_surrogate second) → bmp_characters octets ≡ surrogate_pair_char first second ∷ bmp_characters further
unfolding utf16_chars
pair_first octets rest further first second begins goes pair =
    ap utf16_lossy_chars (begins ∙ ap (λ us. first ∷ us) goes)
    ∙ ap (λ t. map (λ o. unwrap_or o 0xFFFD) (cond t (Some (surrogate_pair_char first second) ∷ utf16_chars (utf16_units further)) (lone_unit_char first ∷ utf16_chars (second ∷ utf16_units further)))) pair

-- a unit in no pair comes first
pub lone_last : (octets rest : List ℕ) (unit : ℕ) → utf16_units octets ≡ unit ∷ utf16_units rest → utf16_units rest ≡ [] → bmp_characters octets ≡ unwrap_or (lone_unit_char unit) 0xFFFD ∷ bmp_characters rest
unfolding utf16_chars
lone_last octets rest unit begins ends =
    ap utf16_lossy_chars (begins ∙ ap (λ us. unit ∷ us) ends) ∙ ap (λ us. unwrap_or (lone_unit_char unit) 0xFFFD ∷ utf16_lossy_chars us) (sym ends)

pub lone_first : (octets rest further : List ℕ) (first second : ℕ) → utf16_units octets ≡ first ∷ utf16_units rest → utf16_units rest ≡ second ∷ utf16_units further → (is_high_surrogate first && is_low_surrogate second) ≡ false → bmp_characters octets ≡ unwrap_or (lone_unit_char first) 0xFFFD ∷ bmp_characters rest
unfolding utf16_chars
lone_first octets rest further first second begins goes apart =
    ap utf16_lossy_chars (begins ∙ ap (λ us. first ∷ us) goes)
    ∙ ap (λ t. map (λ o. unwrap_or o 0xFFFD) (cond t (Some (surrogate_pair_char first second) ∷ utf16_chars (utf16_units further)) (lone_unit_char first ∷ utf16_chars (second ∷ utf16_units further)))) apart
    ∙ ap (λ us. unwrap_or (lone_unit_char first) 0xFFFD ∷ utf16_lossy_chars us) (sym goes)
