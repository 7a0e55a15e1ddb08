-- The text of a name from its first attribute on, and of a value from its last octet on.
use Rattle.std.proofs.Common.{◌≡◌, ℕ, ◌+◌, ◌-◌, ◌<◌, ◌≤◌, List, [], ◌∷◌, ◌++◌, take, length, get_or, map, append-nil, append_assoc, refl, sym, ap, ◌∙◌, arith}
use Rattle.std.specs.List.{flat_map, join_with_byte}
use Rattle.std.proofs.lemmas.List.{take_all, take_more}
use Rattle.std.proofs.lemmas.List.Concat.{flat_map-append}
use Rattle.asn1_der.specs.Length.{element, length_octets}
use Rattle.picky_asn1.specs.IntegerText.{hexadecimal}
use Rattle.picky_asn1_der.specs.Raw.{Raw}
use Rattle.x509_fields.specs.NameText.{element_text}
use Rattle.x509_fields.specs.Rfc4514.{escaped, escaped_behind, last_escaped}

-- what is behind the first of the joined texts, each text behind the byte
joined_first : {X : Type 0} (byte : ℕ) (text : X → List ℕ) (first : X) (further : List X) → join_with_byte byte (map text (first ∷ further)) ≡ text first ++ flat_map (λ x. byte ∷ text x) further
joined_first byte text first [] = sym (append-nil (text first))
joined_first byte text first (second ∷ further) = ap (λ xs. text first ++ byte ∷ xs) (joined_first byte text second further)

-- list by list
list_by_list : {X : Type 0} (text : X → List ℕ) (xss : List (List X)) → flat_map text (flat_map (λ xs. xs) xss) ≡ flat_map (flat_map text) xss
list_by_list text [] = refl
list_by_list text (xs ∷ xss) = flat_map-append text xs (flat_map (λ xs. xs) xss) ∙ ap (λ rest. flat_map text xs ++ rest) (list_by_list text xss)

pub joined_lists : {X : Type 0} (byte : ℕ) (text : X → List ℕ) (all : List X) (first : X) (further : List X) (xss : List (List X)) → all ≡ first ∷ (further ++ flat_map (λ xs. xs) xss) → join_with_byte byte (map text all) ≡ text first ++ (flat_map (λ x. byte ∷ text x) further ++ flat_map (flat_map (λ x. byte ∷ text x)) xss)
joined_lists byte text all first further xss e =
    ap (λ xs. join_with_byte byte (map text xs)) e
    ∙ joined_first byte text first (further ++ flat_map (λ xs. xs) xss)
    ∙ ap (λ rest. text first ++ rest) (flat_map-append (λ x. byte ∷ text x) further (flat_map (λ xs. xs) xss) ∙ ap (λ rest. flat_map (λ x. byte ∷ text x) further ++ rest) (list_by_list (λ x. byte ∷ text x) xss))

-- the octets of an element, part by part
pub element_by_parts : (raw : Raw) (first : ℕ) (length_part content : List ℕ) → first ≡ raw.first → length_part ≡ length_octets (length raw.content) → content ≡ raw.content → element_text raw ≡ hexadecimal first ++ (flat_map hexadecimal length_part ++ flat_map hexadecimal content)
unfolding element
element_by_parts raw first length_part content is_first is_length is_content =
    ap (λ rest. hexadecimal raw.first ++ rest) (flat_map-append hexadecimal (length_octets (length raw.content)) raw.content)
    ∙ sym (λ i. hexadecimal (is_first i) ++ (flat_map hexadecimal (is_length i) ++ flat_map hexadecimal (is_content i)))

-- the elements before the last, and the last
pub cut_last : {X : Type 0} (xs : List X) (d : X) → 1 ≤ length xs → xs ≡ take (length xs - 1) xs ++ get_or xs (length xs - 1) d ∷ []
cut_last xs d some =
    let above : length xs ≤ (length xs - 1) + 1 = omega (arith, some) in
    let below : length xs - 1 < length xs = omega (arith, some) in
    sym (take_all (length xs - 1 + 1) xs above) ∙ take_more xs (length xs - 1) d below

-- the octets after the first, from those before the last
behind_last : (octets : List ℕ) (last : ℕ) → escaped_behind (octets ++ last ∷ []) ≡ flat_map escaped octets ++ last_escaped last
behind_last [] last = refl
behind_last (octet ∷ []) last = ap (λ front. front ++ last_escaped last) (sym (append-nil (escaped octet)))
behind_last (octet ∷ next ∷ octets) last =
    ap (λ rest. escaped octet ++ rest) (behind_last (next ∷ octets) last)
    ∙ sym (append_assoc (escaped octet) (flat_map escaped (next ∷ octets)) (last_escaped last))

pub behind_of : (octets inside : List ℕ) (last : ℕ) → octets ≡ inside ++ last ∷ [] → escaped_behind octets ≡ flat_map escaped inside ++ last_escaped last
behind_of octets inside last e = ap escaped_behind e ∙ behind_last inside last
