-- Names in one block of octets: the texts one after the other, each character plus one, and a zero after each text.
use Rattle.std.specs.Prelude.{◌≡◌, ℕ, ◌+◌, ◌++◌, ◌&&◌, nat_lt, Bool, true, List, [], ◌∷◌, map, length, zero, suc, refl}
use Rattle.std.specs.List.{flat_map, list_all}
use Rattle.std.proofs.Common.{ap, arith, ◌∙◌}
use Rattle.picky_asn1.specs.Bytes.{Bytes}

-- The octets of a text in a block: each character plus one, then a zero.
abbrev pub packed_text : Bytes → Bytes
packed_text text = map (λ character. character + 1) text ++ 0 ∷ []

-- the block of some texts
abbrev pub packed : List Bytes → Bytes
packed = flat_map packed_text

-- one character before the first of some texts
abbrev prefixed : ℕ → List Bytes → List Bytes
prefixed character [] = []
prefixed character (text ∷ texts) = (character ∷ text) ∷ texts

-- the texts of a block
abbrev pub unpacked : Bytes → List Bytes
unpacked [] = []
unpacked (zero ∷ octets) = [] ∷ unpacked octets
unpacked (suc character ∷ octets) = prefixed character (unpacked octets)

-- a text whose characters are below 128 fits behind some octets, if a room of so many has place for both and the zero
abbrev pub text_fits : ℕ → ℕ → Bytes → Bool
text_fits room used text = list_all (λ character. nat_lt character 128) text && nat_lt (used + length text) room

abbrev pub fit_behind : ℕ → ℕ → List Bytes → Bool
fit_behind room used [] = true
fit_behind room used (text ∷ texts) = text_fits room used text && fit_behind room (used + length text + 1) texts

-- texts of such characters, whose block has at most so many octets
abbrev pub fit_in : ℕ → List Bytes → Bool
fit_in room = fit_behind room 0

-- at most as many as any name of a realm has
abbrev pub fit : List Bytes → Bool
fit = fit_in 4096

-- the layout is one to one: a block's texts are those that it was made of
text_unpacked : (text rest : Bytes) (texts : List Bytes) → unpacked rest ≡ texts → unpacked (packed_text text ++ rest) ≡ text ∷ texts
text_unpacked [] rest texts same = ap (λ (more : List Bytes). [] ∷ more) same
text_unpacked (character ∷ text) rest texts same =
    let next : character + 1 ≡ suc character = omega arith in
    ap (λ octet. unpacked (octet ∷ packed_text text ++ rest)) next ∙ ap (prefixed character) (text_unpacked text rest texts same)

pub unpacked-packed : (texts : List Bytes) → unpacked (packed texts) ≡ texts
unpacked-packed [] = refl
unpacked-packed (text ∷ texts) = text_unpacked text (packed texts) texts (unpacked-packed texts)
