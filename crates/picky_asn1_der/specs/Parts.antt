-- The parts of an element (X.690, section 8.1): the elements that its content is, and their parts in turn. That the encoding
-- is constructed isn't asked: the content of an OCTET STRING may be elements too.
use Rattle.std.specs.Prelude.{◌≡◌, ℕ, suc, List, [], ◌∷◌, Some, refl}
use Rattle.std.specs.List.{slice_get}
use Rattle.asn1_der.specs.Length.{element, length_octets}
use Rattle.picky_asn1_der.specs.Raw.{Raw}
use Rattle.picky_asn1_der.specs.Splits.{SplitsInto, raw_bytes}
use Rattle.asn1_der.specs.Octets.{integer_octet, null_octet, sequence_octet}

-- the bytes are these elements, one after another
abbrev pub AreElements : List Raw → List ℕ → Type 0
AreElements [] bytes = bytes ≡ []
AreElements (raw ∷ raws) bytes = (rest : List ℕ) × SplitsInto bytes raw rest × AreElements raws rest

-- the bytes are elements, of which this one has the number n, counted from 0
abbrev pub IsElementAt : ℕ → List ℕ → List ℕ → Type 0
IsElementAt n bytes part =
    (raws : List Raw) × (raw : Raw) × AreElements raws bytes × (slice_get raws n ≡ Some raw) × (part ≡ element raw.first raw.content)

-- the empty path stays at the bytes; any other goes to an element of their content, and on from there
abbrev pub IsPart : List ℕ → List ℕ → List ℕ → Type 0
IsPart bytes [] part = part ≡ bytes
IsPart bytes (n ∷ path) part =
    (raw : Raw) × (inner : List ℕ) × SplitsInto bytes raw [] × IsElementAt n raw.content inner × IsPart inner path part

-- the bytes are elements, and a path from the one with the number n leads to the part
abbrev pub IsPartIn : List ℕ → ℕ → List ℕ → List ℕ → Type 0
IsPartIn bytes n path part = (inner : List ℕ) × IsElementAt n bytes inner × IsPart inner path part

-- splitting an element off an input is one step of a path. The element has the number 0, and each of the rest a number less
-- there; a path goes on inside the element, and from it to the elements of its content
pub record IsStep (input : List ℕ) (raw : Raw) (rest : List ℕ) : Type 0 where
  pub split : SplitsInto input raw rest
  pub first : (path part : List ℕ) → IsPartIn input 0 path part → IsPart (raw_bytes raw) path part
  pub at_first : (raws : List Raw) (path part : List ℕ) → AreElements raws rest → IsPart (raw_bytes raw) path part → IsPartIn input 0 path part
  pub later : (n : ℕ) (path part : List ℕ) → IsPartIn input (suc n) path part → IsPartIn rest n path part
  pub at_later : (n : ℕ) (path part : List ℕ) → IsPartIn rest n path part → IsPartIn input (suc n) path part
  pub inside : (n : ℕ) (path part : List ℕ) → IsPart (raw_bytes raw) (n ∷ path) part → IsPartIn raw.content n path part
  pub from_inside : (n : ℕ) (path part : List ℕ) → IsPartIn raw.content n path part → IsPart (raw_bytes raw) (n ∷ path) part

-- a SEQUENCE of the INTEGER 7 and of NULL
integer_7 : Raw
integer_7 = record { first = integer_octet; content = 7 ∷ [] }

two_elements : AreElements (integer_7 ∷ record { first = null_octet; content = [] } ∷ []) (2 ∷ 1 ∷ 7 ∷ 5 ∷ 0 ∷ [])
unfolding integer_7 element length_octets
two_elements = (5 ∷ 0 ∷ [], (refl, refl), ([], (refl, refl), refl))

part_itself : IsPart (48 ∷ 5 ∷ 2 ∷ 1 ∷ 7 ∷ 5 ∷ 0 ∷ []) [] (48 ∷ 5 ∷ 2 ∷ 1 ∷ 7 ∷ 5 ∷ 0 ∷ [])
part_itself = refl

part_first : IsPart (48 ∷ 5 ∷ 2 ∷ 1 ∷ 7 ∷ 5 ∷ 0 ∷ []) (0 ∷ []) (2 ∷ 1 ∷ 7 ∷ [])
unfolding integer_7 element length_octets
part_first = (
  record { first = sequence_octet; content = 2 ∷ 1 ∷ 7 ∷ 5 ∷ 0 ∷ [] },
  2 ∷ 1 ∷ 7 ∷ [],
  (refl, refl),
  (integer_7 ∷ record { first = null_octet; content = [] } ∷ [], integer_7, two_elements, refl, refl),
  refl,
)

part_second : IsPart (48 ∷ 5 ∷ 2 ∷ 1 ∷ 7 ∷ 5 ∷ 0 ∷ []) (1 ∷ []) (5 ∷ 0 ∷ [])
unfolding integer_7 element length_octets
part_second = (
  record { first = sequence_octet; content = 2 ∷ 1 ∷ 7 ∷ 5 ∷ 0 ∷ [] },
  5 ∷ 0 ∷ [],
  (refl, refl),
  (integer_7 ∷ record { first = null_octet; content = [] } ∷ [], record { first = null_octet; content = [] }, two_elements, refl, refl),
  refl,
)
