-- Which texts are one character.
use Rattle.std.proofs.Common.{◌≡◌, ℕ, true, List, [], ◌++◌, length, ap, sym, subst, ◌∙◌, arith, append-nil}
use Rattle.std.proofs.lemmas.Bool.{and_parts}
use Rattle.std.proofs.lemmas.Str.{encode_same, IsUtf8-encode, length-encode, len_utf8_bounds}
use Rattle.std.specs.Prelude.{IsTrue}
use Rattle.std.specs.Str.{IsUtf8}
use Rattle.asn1_codec.specs.Characters.{is_character, character_content}

-- no character has no octets
pub no_character : (text : List ℕ) → length text ≡ 0 → (character : ℕ) → character_content character ≡ text → ⊥
no_character text empty character e = omega (arith, (len_utf8_bounds character).0, length-encode character, ap length e)

-- a text that is longer than its first character is no character
pub more_than_one : (text rest : List ℕ) (first : ℕ) → text ≡ character_content first ++ rest → (length (character_content first) ≡ length text → ⊥)
    → (character : ℕ) → character_content character ≡ text → ⊥
more_than_one text rest first is longer character e =
    let same = encode_same character first [] rest (ap (λ octets. octets ++ []) e ∙ append-nil text ∙ is) in
    longer (ap (λ c. length (character_content c)) (sym same.0) ∙ ap length e)

-- octets that are no UTF-8 are no character
pub no_text : (text : List ℕ) → (IsUtf8 text → ⊥) → (character : ℕ) → IsTrue (is_character character) → character_content character ≡ text → ⊥
no_text text wrong character valid e = wrong (subst IsUtf8 e (IsUtf8-encode character (and_parts _ true valid).0))
