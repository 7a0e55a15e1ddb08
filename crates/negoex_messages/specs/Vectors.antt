-- Vectors: an offset and a count in the header, and the elements at the offset (MS-NEGOEX, section 2.2.5.2).
use Rattle.std.specs.Prelude.{◌≡◌, ℕ, Bool, zero, suc, ◌+◌, ◌*◌, ◌<◌, ◌^◌, List, [], ◌∷◌, ◌++◌, length, Ok, Err, ◌&&◌, nat_lt, if◌then◌else◌}
use Rattle.std.specs.declared.io.ErrorKind.TheVariants.{UnexpectedEof, InvalidData}
use Rattle.byte_streams.specs.Parts.{part, Stands}
use Rattle.byte_streams.specs.Numbers.{le32, le32_at}
use Rattle.negoex_messages.specs.Form.{Layout, Answer, cut, then_read}

-- the elements' headers follow one another from a place on
abbrev pub AreElements : {V : Type 0} → Layout V → ℕ → List V → List ℕ → Type 0
AreElements l place [] whole = Unit {0}
AreElements l place (x ∷ xs) whole = l.IsLaid x (cut place l.width whole) whole × AreElements l (place + l.width) xs whole

-- the octets of a vector's header, and its elements where the header says (MS-NEGOEX, section 2.2.5.2)
pub record IsVector {V : Type 0} (l : Layout V) (xs : List V) (header whole : List ℕ) : Type 0 where
  pub size : length header ≡ 8
  pub count : Stands (part 4 (le32 (length xs))) header
  pub elements : AreElements l (le32_at 0 header) xs whole

-- each element fits the layout
abbrev pub AllFit : {V : Type 0} → Layout V → List V → Type 0
AllFit l [] = Unit {0}
AllFit l (x ∷ xs) = l.Fits x × AllFit l xs

-- the count is a number of 32 bits, and each element fits the layout
abbrev pub VectorFits : {V : Type 0} → Layout V → List V → Type 0
VectorFits l xs = (length xs < 2 ^ 32) × AllFit l xs

-- a vector's elements, or the first fault among them
abbrev pub elements_at : {V : Type 0} → Layout V → ℕ → ℕ → List ℕ → Answer (List V)
elements_at l zero place whole = Ok []
elements_at l (suc n) place whole =
    then_read (l.read (cut place l.width whole) whole) (λ x. then_read (elements_at l n (place + l.width) whole) (λ xs. Ok (x ∷ xs)))

-- whether elements that are counted begin past the message's end
abbrev pub begins_past : List ℕ → List ℕ → Bool
begins_past header whole = nat_lt 0 (le32_at 4 header) && nat_lt (length whole) (le32_at 0 header)

abbrev pub vector_read : {V : Type 0} → Layout V → List ℕ → List ℕ → Answer (List V)
vector_read l header whole =
    if nat_lt (length header) 8 then Err UnexpectedEof
    -- An offset past the message's end is refused if the vector has elements (MS-NEGOEX, section 2.2.5.2). Test: `refused_exchanges`,
    -- `offsets_at_the_end` of `negoex.rt`.
    else if begins_past header whole then Err InvalidData
    -- Elements of a vector, as bytes and GUIDs, are refused where the message has fewer octets left than an element has (MS-NEGOEX,
    -- section 2.2.5.2). Test: `refused_exchanges`, `other_refusals` of `negoex.rt`.
    else elements_at l (le32_at 4 header) (le32_at 0 header) whole

-- the sum of the elements' payloads
abbrev pub payloads : {V : Type 0} → Layout V → List V → ℕ
payloads l [] = 0
payloads l (x ∷ xs) = l.payload x + payloads l xs

-- the elements' headers, where their payloads begin at this place, in order
abbrev pub heads : {V : Type 0} → Layout V → ℕ → List V → List ℕ
heads l place [] = []
heads l place (x ∷ xs) = l.head x place ++ heads l (place + l.payload x) xs

-- the elements' payloads
abbrev pub bodies : {V : Type 0} → Layout V → ℕ → List V → List ℕ
bodies l place [] = []
bodies l place (x ∷ xs) = l.body x place ++ bodies l (place + l.payload x) xs

-- A vector without elements is written with offset 0 (MS-NEGOEX, section 2.2.5.2). Test: `extensions` of `negoex.rt`.
abbrev pub offset_of : {V : Type 0} → List V → ℕ → ℕ
offset_of [] o = 0
offset_of (x ∷ xs) o = o

-- the place after the elements' headers
abbrev pub behind_heads : {V : Type 0} → Layout V → List V → ℕ → ℕ
behind_heads l xs o = o + length xs * l.width

-- A vector is the offset of its elements in octets 0 to 3 of the header, their count in 4 to 7, and the elements at the offset. Without
-- elements the offset may be any (MS-NEGOEX, section 2.2.5.2). Test: `schemes_and_extensions`, `offsets_at_the_end` of `negoex.rt`.
abbrev pub vector_layout : {V : Type 0} → Layout V → Layout (List V)
vector_layout l = record {
  width = 8;
  IsLaid = IsVector l;
  Fits = VectorFits l;
  read = vector_read l;
  payload = λ xs. length xs * l.width + payloads l xs;
  head = λ xs o. le32 (offset_of xs o) ++ le32 (length xs);
  body = λ xs o. heads l (behind_heads l xs o) xs ++ bodies l (behind_heads l xs o) xs;
}
